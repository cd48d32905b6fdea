use Rattle.std.proofs.Common.{inr}
use Rattle.cbpf_tool.proofs.HostLemmas.{dbg-opened}
use Rattle.cbpf_tool.proofs.dbg_on_host.dbg_job.Goals as goal

pub returns-in-Ok : goal.returns-in-Ok
returns-in-Ok g c = λ ready.
    let o = c.in-Ok.ensures ready.0 in
    rw c.in-Some.is (inr (dbg-opened _ _ _ _ _ o.0 _ _ c.as_str.ensures.value o.1 o.3
    (c.debug_from.ensures (rw o.3 ready) o.0 o.2)))
