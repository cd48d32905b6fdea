use Rattle.cbpf_tool.proofs.AssemblyLemmas.{refused-shown, written-shown}
use Rattle.cbpf_tool.proofs.asm_on_host.assemble_shown.Goals as goal

pub returns-in-Ok : goal.returns-in-Ok
returns-in-Ok g c =
    rw c.tooled.ensures (written-shown c.args.source.now c.args.form _ _ c.write_and_flush.result
    c.write_and_flush.ensures.fault (c.write_and_flush.ensures.wrote c.args.source.now
    (rw c.deref.ensures.value c.in-Ok.ensures.assembled)))

pub returns-in-Err : goal.returns-in-Err
returns-in-Err g c =
    rw c.source_failure.ensures
    (refused-shown c.args.source.now c.args.form _ c.in-Err.fault c.in-Err.ensures.refused)
