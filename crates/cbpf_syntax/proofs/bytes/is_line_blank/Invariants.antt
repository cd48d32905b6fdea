use Rattle.std.proofs.Common.{◌≡◌, ◌≤◌, length, take, true, ◌||◌, ◌&&◌}
use Rattle.std.specs.Prelude.{◌==◌}
use Rattle.std.specs.List.{fold}
use Rattle.cbpf_code.specs.WordTokens.{is_blank}
use Rattle.cbpf_syntax.proofs.bytes.is_line_blank.Given as goal

-- the bytes after are blanks of the last line
abbrev pub invariant-loop-n : goal.invariant-loop-n
invariant-loop-n l = (l.n ≤ length l.bytes) × (fold (λ blank b. b == 10 || (blank && is_blank b)) true l.bytes
    ≡ fold (λ blank b. b == 10 || (blank && is_blank b)) true (take l.n l.bytes))

abbrev pub decreases-loop-n : goal.decreases-loop-n
decreases-loop-n l = l.n
