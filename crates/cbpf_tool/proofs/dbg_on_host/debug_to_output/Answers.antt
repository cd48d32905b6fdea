use Rattle.cbpf_tool.proofs.HostLemmas.{debugged-left}
use Rattle.cbpf_tool.proofs.dbg_on_host.debug_to_output.Goals as goal

pub returns : goal.returns
returns g c = λ ready script e.
    let out = c.in-Ok.ensures.left ready.0 in
    let run = c.run_script-done.ensures (rw out ready.0) script e (c.in-Ok.ensures.empty ready) in
    debugged-left _ _ _ _ script _ _ _ out run.0 run.1 run.2 run.3 (c.print.ensures (rw (run.0, out) ready.0))
