use Rattle.cbpf_tool.proofs.why_on_host.report_on_input.Goals as goal

pub returns : goal.returns
returns g c = λ ready.
    let i = c.input-input.ensures ready.0 in
    rw i.0 at (c.report_on.ensures (rw i.0 ready) _ i.1)
