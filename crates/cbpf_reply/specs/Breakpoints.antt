-- The replies that show breakpoints (the kernel's Documentation/networking/filter shows them for `bpf_dbg`; conditions are
-- this project's own).
use Rattle.std.specs.Prelude.{ℕ, List, [], ◌∷◌, ◌++◌, codes, decimal, Option, Some, None}
use Rattle.std.specs.List.{flat_map}
use Rattle.cbpf_code.specs.Text.{concat, with_number}
use Rattle.cbpf_code.specs.declared.insn.Insn.{Insn}
use Rattle.cbpf_code.specs.Listing.{line_text}
pub use Rattle.cbpf_machine.specs.declared.pause.When.{When}
pub use Rattle.cbpf_machine.specs.declared.pause.When.TheVariants.{Always, A, X}

-- the condition of a breakpoint that is set, and the line's end
abbrev pub condition_text : When → List ℕ
condition_text Always = codes "\n"
condition_text (A v) = with_number (codes " when a = ") v (codes "\n")
condition_text (X v) = with_number (codes " when x = ") v (codes "\n")

-- how the reply to a new breakpoint begins
unfoldable pub set_head : List ℕ
set_head = codes "breakpoint at: "

-- the reply to a breakpoint that was set: its instruction, and its condition
abbrev pub set_text : List Insn → ℕ → When → List ℕ
set_text list n when = set_head ++ (line_text list n ++ condition_text when)

-- the reply, or nothing where no program is loaded
abbrev pub set_in : Option (List Insn) → ℕ → When → List ℕ
set_in None n when = []
set_in (Some list) n when = set_text list n when

-- a breakpoint in the list of them
abbrev pub listed_text : ℕ × When → List ℕ
listed_text (n, Always) = concat (codes " " ∷ decimal n ∷ [])
listed_text (n, A v) = concat (codes " " ∷ decimal n ∷ codes "(a=" ∷ decimal v ∷ codes ")" ∷ [])
listed_text (n, X v) = concat (codes " " ∷ decimal n ∷ codes "(x=" ∷ decimal v ∷ codes ")" ∷ [])

-- how the list of breakpoints ends
abbrev pub list_end : List ℕ
list_end = codes "\n"

-- the list of breakpoints, after its first word
abbrev pub list_text : List (ℕ × When) → List ℕ
list_text breakpoints = flat_map listed_text breakpoints ++ list_end

-- how the list of breakpoints begins
unfoldable pub list_head : List ℕ
list_head = codes "breakpoints:"

-- in order of setting
unfoldable pub breakpoints_text : List (ℕ × When) → List ℕ
breakpoints_text breakpoints = list_head ++ list_text breakpoints
