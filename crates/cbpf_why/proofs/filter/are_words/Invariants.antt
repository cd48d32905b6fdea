use Rattle.std.proofs.Common.{◌≡◌, drop}
use Rattle.std.specs.Prelude.{find, not}
use Rattle.cbpf_code.specs.WordTokens.{is_blank}
use Rattle.cbpf_why.proofs.filter.are_words.Given as goal

abbrev pub invariant-loop-b : goal.invariant-loop-b
invariant-loop-b l = find (λ b. not (is_blank b)) l.text ≡ find (λ b. not (is_blank b)) (drop l.b-index l.text)
