-- The lines of a script: each ends at a newline, and the last needs none.
use Rattle.std.specs.Prelude.{ℕ, Bool, ◌==◌, if◌then◌else◌, List, [], ◌∷◌, ◌++◌}
use Rattle.std.specs.List.{list_any}
use Rattle.cbpf_code.specs.Text.{put_front}

-- the lines, without their newlines
abbrev pub lines : List ℕ → List (List ℕ)
lines [] = []
lines (b ∷ bs) = if b == 10 then ([] ∷ lines bs) else put_front b (lines bs)

-- whether a newline is among some bytes
abbrev pub has_newline : List ℕ → Bool
has_newline bs = list_any (λ b. b == 10) bs

-- lines with their newlines
abbrev pub unlines : List (List ℕ) → List ℕ
unlines [] = []
unlines (l ∷ ls) = l ++ (10 ∷ unlines ls)
