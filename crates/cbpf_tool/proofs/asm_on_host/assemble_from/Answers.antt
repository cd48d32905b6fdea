use Rattle.std.proofs.Common.{inl, refl}
use Rattle.cbpf_tool.proofs.HostLemmas.{assembled-printed}
use Rattle.cbpf_tool.proofs.asm_on_host.assemble_from.Goals as goal

pub returns-in_default : goal.returns-in_default
returns-in_default g c = λ ready source e. inl (c.output.ensures.left ready.0, refl)

pub returns : goal.returns
returns g c = λ ready source e.
    let out = c.output.ensures.left ready.0 in
    assembled-printed (g.H.Host.view c.args.host.now) _ _ source c.args.form _ _ _ out (c.in-Ok.ensures.empty ready)
    (c.assemble_all-done.ensures source e) (c.print.ensures (rw out ready.0))
