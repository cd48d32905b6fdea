use Rattle.std.proofs.Common.{length, ◌-◌, ◌≡◌, ◌+◌, ◌≤◌, drop}
use Rattle.std.specs.List.{common_prefix_len}
use Rattle.cbpf_syntax.specs.Fits.{fits}
use Rattle.cbpf_syntax.specs.Views.{class_of, symbol_of}
use Rattle.cbpf_syntax.proofs.choice.common_len.Given as goal

abbrev pub invariant-loop-n : goal.invariant-loop-n
invariant-loop-n l = (l.n ≤ length l.form) × (l.n ≤ length l.tokens)
    × (l.n + common_prefix_len (λ c t. fits (class_of c) (symbol_of t.symbol)) (drop l.n l.form) (drop l.n l.tokens)
    ≡ common_prefix_len (λ c t. fits (class_of c) (symbol_of t.symbol)) l.form l.tokens)

abbrev pub decreases-loop-n : goal.decreases-loop-n
decreases-loop-n l = length l.form - l.n
