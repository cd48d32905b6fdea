-- The lines of a dump: a label, aligned left in ten columns, and what it names
-- (as the lines of a dump stand in the kernel's Documentation/networking/filter).
use Rattle.std.specs.Prelude.{ℕ, ◌-◌, List, [], ◌∷◌, length, codes, decimal}
use Rattle.cbpf_code.specs.Text.{spaces, hex}

-- the pieces of a line: a label with the spaces after it, and what follows, also further lines
abbrev pub labelled : List ℕ → List (List ℕ) → List (List ℕ)
labelled label pieces = label ∷ spaces (10 - length label) ∷ pieces

-- a label with a value in hexadecimal and in decimal
abbrev pub value_pieces : List ℕ → ℕ → List (List ℕ)
value_pieces label v = labelled label (codes "[" ∷ hex 8 v ∷ codes "][" ∷ decimal v ∷ codes "]\n" ∷ [])
