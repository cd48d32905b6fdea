use Rattle.cbpf_tool.proofs.WhyLemmas.{report-printed}
use Rattle.cbpf_tool.proofs.why_on_host.print_report.Goals as goal

pub returns : goal.returns
returns g c = λ ready capture e.
    let out = c.output.ensures.left ready.0 in
    report-printed _ _ _ _ _ _ capture _ _ _ c.write_report-done.result _ out (c.in-Ok.ensures.empty ready)
    (c.write_report-done.ensures.reported capture e) c.write_report-done.ensures.within
    (c.print.ensures (rw out ready.0)) (rw (rw e at c.link-link.ensures) at c.reported.ensures)
