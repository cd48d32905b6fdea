use Rattle.std.proofs.Common.{◌+◌, ◌∙◌, arith}
use Rattle.cbpf_tool.proofs.NumberLemmas.{value-more, number-big}
use Rattle.cbpf_tool.proofs.number.number_up_to.Goals as goal

pub returns-in_err-checked_mul : goal.returns-in_err-checked_mul
returns-in_err-checked_mul c =
    c.from_residual.ensures ∙ number-big c.args.most c.args.word.now (c.loop-b.b-index + 1)
    (omega (arith, value-more, c.in_err-checked_mul.ensures {u = tt}))

pub returns-in_err-value : goal.returns-in_err-value
returns-in_err-value c =
    c.from_residual-in_err-value.ensures ∙ number-big c.args.most c.args.word.now (c.loop-b.b-index + 1)
    (omega (arith, value-more, c.in_err-value.ensures {u = tt}, (c.in_ok-checked_mul.ensures {u = tt}).1))
