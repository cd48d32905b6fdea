use Rattle.std.proofs.Common.{inr}
use Rattle.cbpf_tool.proofs.HostLemmas.{asm-opened}
use Rattle.cbpf_tool.proofs.asm_on_host.asm_job.Goals as goal

pub returns-in-Ok : goal.returns-in-Ok
returns-in-Ok g c = λ ready.
    let o = c.in-Ok.ensures ready.0 in
    rw c.in-Some.is (inr (asm-opened _ _ _ _ _ o.0 c.args.form _ c.as_str.ensures.value o.1 o.3
    (c.assemble_from-in-Ok.ensures (rw o.3 ready) o.0 o.2)))

pub returns-in-None : goal.returns-in-None
returns-in-None g c = λ ready.
    let i = c.input-input.ensures ready.0 in
    rw c.in-None.is (rw i.0 at (c.assemble_from.ensures (rw i.0 ready) _ i.1))
