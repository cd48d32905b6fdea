-- The packet in a dump, its captured bytes in rows of ROW (the kernel's Documentation/networking/filter shows such a
-- dump; `wire:` and the width of the offsets are this project's own).
use Rattle.std.specs.Prelude.{ℕ, zero, suc, ◌-◌, ◌*◌, List, [], ◌∷◌, ◌++◌, length, take, drop, decimal, codes}
use Rattle.std.specs.List.{flat_map}
use Rattle.std.specs.Int.{div_ceil}
use Rattle.cbpf_code.specs.Text.{concat, spaces, hex, with_numbers}
use Rattle.cbpf_reply.specs.declared.packet.TheConstants.{ROW}

-- the texts of a, a + 1 and so on, n in all
abbrev pub texts_from : (ℕ → List ℕ) → ℕ → ℕ → List ℕ
texts_from f a zero = []
texts_from f a (suc n) = f a ++ texts_from f (suc a) n

-- two hexadecimal digits after a space
abbrev pub byte_text : ℕ → List ℕ
byte_text b = concat (codes " " ∷ hex 2 b ∷ [])

-- the offset, aligned right in five columns, and the bytes
abbrev pub row_line : ℕ → List ℕ → List ℕ
row_line at row =
    concat (spaces (5 - length (decimal at)) ∷ decimal at ∷ codes ":" ∷ flat_map byte_text row ∷ codes "\n" ∷ [])

-- row r, of ROW bytes or of those that are left
abbrev pub packet_row : List ℕ → ℕ → List ℕ
packet_row bytes r = row_line (ROW * r) (take ROW (drop (ROW * r) bytes))

-- the captured bytes, in rows of which the last may be shorter
abbrev pub packet_rows : List ℕ → List ℕ
packet_rows bytes = texts_from (packet_row bytes) 0 (div_ceil (length bytes) ROW)

-- captured and original length
abbrev pub packet_head : ℕ → ℕ → List ℕ
packet_head captured wire =
    with_numbers (codes "-- packet dump --\nlen: ") captured (codes " wire: ") wire (codes "\n")
