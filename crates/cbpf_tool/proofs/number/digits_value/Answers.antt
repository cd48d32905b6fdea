use Rattle.std.proofs.Common.{◌≡◌, ◌+◌, ◌*◌, ◌^◌, ◌∙◌, min, get_or, arith, rules, refl, true}
use Rattle.std.proofs.lemmas.Bool.Decides.{nat_tests}
use Rattle.std.specs.Prelude.{nat_lt}
use Rattle.std.specs.Char.{digit_value}
use Rattle.cbpf_tool.proofs.NumberLemmas.{capped-step, digit-more}
use Rattle.cbpf_tool.proofs.number.digits_value.Goals as goal

pub loop-b-init : goal.loop-b-init
loop-b-init c = (0, omega arith, refl)

pub loop-b-preserved : goal.loop-b-preserved
loop-b-preserved c =
    let ds = c.args.digits.now in
    let i = c.loop-b.b-index in
    let m = c.loop-b.invariant.0 in
    let digit : c.in_ok-digit.digit ≡ digit_value (get_or ds i 0) = search rules in
    let small : nat_lt (digit_value (get_or ds i 0)) c.args.base ≡ true = grind (arith, nat_tests) in
    let next : c.min-value.result ≡ min (c.loop-b.value * c.args.base + c.in_ok-digit.digit) (2 ^ 32) = search rules in (
      m * c.args.base + digit_value (get_or ds i 0),
      rw (next, c.loop-b.invariant.1, digit) (capped-step m c.args.base (digit_value (get_or ds i 0)) (2 ^ 32) (omega arith)),
      digit-more c.args.base m ds i c.loop-b-test.true small ∙ c.loop-b.invariant.2,
    )
