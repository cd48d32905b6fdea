-- The scratch memory in a dump, where neighbouring slots of equal value share a line
-- (the kernel's `bpf_dbg` has such a line where all slots are 0, and else one for each slot that isn't; this layout is
-- this project's own).
use Rattle.std.specs.Prelude.{ℕ, ◌+◌, ◌-◌, Bool, not, ◌==◌, ◌||◌, if◌then◌else◌, List, [], ◌∷◌, length, drop, slice_index}
use Rattle.std.specs.Prelude.{decimal, codes}
use Rattle.std.specs.List.{prefix_len}
use Rattle.cbpf_code.specs.Text.{concat, with_number}
use Rattle.cbpf_reply.specs.Columns.{value_pieces}
use Rattle.cbpf_reply.specs.Packet.{texts_from}

-- one slot, or the first and the last
abbrev pub slots_label : ℕ → ℕ → List ℕ
slots_label first last =
    if first == last then with_number (codes "M[") first (codes "]:")
    else concat (codes "M[" ∷ decimal first ∷ codes "," ∷ decimal last ∷ codes "]:" ∷ [])

-- the line of scratch slots that have one value
abbrev pub scratch_line : ℕ → ℕ → ℕ → List ℕ
scratch_line first last value = concat (value_pieces (slots_label first last) value)

-- the first slot begins a line, and each that has another value than the one before it
abbrev pub begins_line : List ℕ → ℕ → Bool
begins_line slots i = i == 0 || not (slice_index slots i == slice_index slots (i - 1))

-- the line that begins at a slot, and goes on while the slots after it have its value
abbrev pub slots_line : List ℕ → ℕ → List ℕ
slots_line slots i = let value = slice_index slots i in
    if begins_line slots i then scratch_line i (i + prefix_len (λ v. v == value) (drop (i + 1) slots)) value else []

-- all lines
abbrev pub scratch_lines : List ℕ → List ℕ
scratch_lines slots = texts_from (slots_line slots) 0 (length slots)
