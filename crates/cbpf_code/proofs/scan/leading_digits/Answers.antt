use Rattle.std.proofs.Common.{length, sym, arith}
use Rattle.std.proofs.lemmas.List.Sums.{prefix_len_is}
use Rattle.cbpf_code.specs.WordTokens.{is_digit}
use Rattle.cbpf_code.proofs.scan.leading_digits.Goals as goal

pub returns-clause-length : goal.returns-clause-length
returns-clause-length c =
    sym (prefix_len_is is_digit c.args.text.now (length c.args.text.now) 0 (omega arith)
    (λ k below. c.loop-i.invariant.digits k (omega arith)) (λ h. absurd (omega arith)))
