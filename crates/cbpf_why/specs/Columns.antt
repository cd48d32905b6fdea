-- Columns of reports: an instruction with blanks after it, up to the longest one of its program, and a count with blanks
-- before it (this project's own).
use Rattle.std.specs.Prelude.{◌≡◌, ◌≤◌, ◌-◌, ℕ, zero, suc, List, [], ◌++◌, length, max, decimal}
use Rattle.cbpf_code.specs.Listing.{head, line_text}
use Rattle.cbpf_code.specs.Text.{spaces}
use Rattle.cbpf_code.specs.declared.insn.Insn.{Insn}

-- how long an instruction is after its label and the tab, which together never go past the first tab stop
abbrev pub length_at : List Insn → ℕ → ℕ
length_at list i = length (line_text list i) - length (head i [])

-- the greatest of these lengths of the first n
abbrev pub longest_of : List Insn → ℕ → ℕ
longest_of list zero = 0
longest_of list (suc n) = max (longest_of list n) (length_at list n)

-- the length of a program's longest instruction
unfoldable pub longest : List Insn → ℕ
longest list = longest_of list (length list)

-- the same as a number, for which the lines of reports have room
abbrev pub IsLongest : ℕ → List Insn → Type 0
IsLongest n list = (n ≡ longest list) × (n ≤ 77)

-- the line of an instruction, filled up to a length
abbrev pub filled_line : List Insn → ℕ → ℕ → List ℕ
filled_line list long i = line_text list i ++ spaces (long - length_at list i)

-- a number that stands right in so many columns
abbrev pub right_text : ℕ → ℕ → List ℕ
right_text wide n = spaces (wide - length (decimal n)) ++ decimal n
