use Rattle.std.proofs.Common.{inr}
use Rattle.cbpf_tool.proofs.WhyLemmas.{report-opened}
use Rattle.cbpf_tool.proofs.why_on_host.report_on_file.Goals as goal

pub returns-in-Ok : goal.returns-in-Ok
returns-in-Ok g c = λ ready.
    let o = c.in-Ok.ensures ready.0 in
    inr (report-opened _ _ _ _ _ o.0 _ _ _ c.as_str.ensures.value o.1 o.3 (c.report_on.ensures (rw o.3 ready) o.0 o.2))
