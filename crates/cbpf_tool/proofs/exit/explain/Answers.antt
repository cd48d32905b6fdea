use Rattle.std.proofs.Common.{string_bytes}
use Rattle.cbpf_tool.proofs.HostLemmas.{help-printed}
use Rattle.cbpf_tool.proofs.exit.explain.Goals as goal

pub returns : goal.returns
returns g c = λ ready.
    let out = c.output.ensures.left ready.0 in
    help-printed (g.H.Host.view c.args.host.now) _ _ (string_bytes c.args.text) _ _ c.write_help-done.result _ out
    (c.in-Ok.ensures.empty ready) (rw (c.as_bytes.ensures.value, c.as_str.ensures.value) at c.write_help-done.ensures)
    (c.print.ensures (rw out ready.0)) c.after_help.ensures
