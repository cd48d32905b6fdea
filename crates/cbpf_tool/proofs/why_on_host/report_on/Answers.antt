use Rattle.cbpf_tool.proofs.WhyLemmas.{some-and, open-refused}
use Rattle.cbpf_tool.specs.WhyJobs.{a_capture}
use Rattle.cbpf_tool.proofs.why_on_host.report_on.Goals as goal

pub returns-in-Ok : goal.returns-in-Ok
returns-in-Ok g c = λ ready bytes e.
    let held = some-and _ _ (rw e at c.in-Ok.ensures.capture) in
    a_capture held.0 held.2 (c.print_report.ensures ready held.0 held.1)

pub returns-in-Err : goal.returns-in-Err
returns-in-Err g c = λ ready bytes e.
    open-refused _ _ _ _ bytes _ _ (rw e at c.in-Err.ensures.refused) c.open_failure.ensures
