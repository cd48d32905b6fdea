use Rattle.cbpf_tool.proofs.dbg_on_host.debug_input.Goals as goal

pub returns : goal.returns
returns g c = λ ready.
    let i = c.input-reader.ensures ready.0 in
    rw i.0 at (c.debug_from.ensures (rw i.0 ready) _ i.1)
