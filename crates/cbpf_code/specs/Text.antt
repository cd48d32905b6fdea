-- Texts and their parts: numbers between texts, hexadecimal digits in lower case, and padding. Decimal numbers are
-- std's `decimal`.
use Rattle.std.specs.Prelude.{ℕ, false, ◌-◌, ◌++◌, length, codes, decimal, List, [], ◌∷◌}
use Rattle.std.specs.List.{flat_map, repeat}
use Rattle.std.specs.Fmt.{digits}

-- pieces of text, one after another
abbrev pub concat : List (List ℕ) → List ℕ
concat parts = flat_map (λ p. p) parts

-- a byte at the front of the first of some parts, by which words and lines are built byte by byte
abbrev pub put_front : ℕ → List (List ℕ) → List (List ℕ)
put_front b [] = (b ∷ []) ∷ []
put_front b (part ∷ parts) = (b ∷ part) ∷ parts

-- a decimal number between two texts
abbrev pub with_number : List ℕ → ℕ → List ℕ → List ℕ
with_number before n after = concat (before ∷ decimal n ∷ after ∷ [])

-- two decimal numbers between texts
abbrev pub with_numbers : List ℕ → ℕ → List ℕ → ℕ → List ℕ → List ℕ
with_numbers before m between n after = concat (before ∷ decimal m ∷ between ∷ decimal n ∷ after ∷ [])

-- so many blanks
abbrev pub spaces : ℕ → List ℕ
spaces n = repeat n (codes " ")

-- a number in lower case hexadecimal, with zeros in front where it has fewer than `least` digits
abbrev pub hex : ℕ → ℕ → List ℕ
hex least n = repeat (least - length (digits 16 false n)) (codes "0") ++ digits 16 false n
