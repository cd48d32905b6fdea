use Rattle.std.proofs.lemmas.Grind.{common_steps}
use Rattle.std.proofs.Common.{arith}
use Rattle.cbpf_code.specs.CForm.{c_line}
use Rattle.cbpf_code.proofs.WrittenLemmas.{loop-next, loop-stop, err-exit}
use Rattle.cbpf_code.proofs.c_form.write_c.Goals as goal

pub loop-insn-preserved : goal.loop-insn-preserved
loop-insn-preserved g c = loop-next c_line c.args.list.now c.loop-insn.insn-index _ _ _ _ (omega arith)
    c.loop-insn.invariant c.in_ok-write_c_line.ensures

pub returns-in_err-write_c_line : goal.returns-in_err-write_c_line
returns-in_err-write_c_line g c = err-exit _ _ _ _ c.from_residual.ensures.0 (loop-stop c_line c.args.list.now
    c.loop-insn.insn-index _ _ _ _ (omega arith) c.loop-insn.invariant c.in_err-write_c_line.ensures)

pub returns : goal.returns
returns g c = grind (arith, common_steps)
