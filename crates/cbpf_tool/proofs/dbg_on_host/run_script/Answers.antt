use Rattle.cbpf_tool.proofs.HostLemmas.{debugged-from}
use Rattle.cbpf_tool.proofs.dbg_on_host.run_script.Goals as goal

pub returns : goal.returns
returns g c = λ known script e empty.
    let disk = c.disk-disk.ensures known in
    let d = debugged-from (g.H.Host.view c.args.host.now) script _ _ _ _ _ c.debug.result empty disk.1
    (c.debug.ensures script e) in
    (disk.0, d.0, d.1, d.2)
