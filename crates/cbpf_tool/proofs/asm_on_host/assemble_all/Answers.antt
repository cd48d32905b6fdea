use Rattle.cbpf_tool.proofs.AssemblyLemmas.{unread-shown}
use Rattle.cbpf_tool.proofs.asm_on_host.assemble_all.Goals as goal

pub returns-in-Ok : goal.returns-in-Ok
returns-in-Ok g c = λ source e. rw (c.in-Ok.ensures.bytes source e) at (rw c.deref.ensures.value at c.assemble_shown.ensures)

pub returns : goal.returns
returns g c = λ source e. unread-shown source c.args.form _ c.in-Err.fault c.in-Err.ensures.fault
