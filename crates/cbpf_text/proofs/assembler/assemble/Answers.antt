use Rattle.cbpf_text.proofs.FaultParts.{refused_on_line}
use Rattle.cbpf_text.proofs.assembler.assemble.Goals as goal

pub returns-in-Err-clause-refused : goal.returns-in-Err-clause-refused
returns-in-Err-clause-refused g c =
    rw c.on_line.ensures (refused_on_line c.args.text.now c.in-Err.fault c.in-Err.ensures.refused)
