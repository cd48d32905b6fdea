use Rattle.std.proofs.Common.{arith, refl}
use Rattle.cbpf_syntax.proofs.number.digits_value.Goals as goal

pub loop-b-init : goal.loop-b-init
loop-b-init c = (c.args.high, omega (arith, c.requires.capped), refl)
