use Rattle.std.proofs.Common.{◌<◌, ℕ, map}
use Rattle.cbpf_syntax.specs.Refusals.{IsLargeNegative}
use Rattle.cbpf_syntax.specs.Views.{lexeme_of}
use Rattle.cbpf_syntax.proofs.range.large_negative.Given as goal

abbrev pub invariant-loop-i : goal.invariant-loop-i
invariant-loop-i l = (k : ℕ) → k < l.i → IsLargeNegative (map lexeme_of l.tokens) k → ⊥
