use Rattle.cbpf_tool.proofs.why_on_host.report_by_name.Goals as goal

pub returns-in-None : goal.returns-in-None
returns-in-None g c = λ ready. rw c.in-None.is (c.report_on_input.ensures ready)
