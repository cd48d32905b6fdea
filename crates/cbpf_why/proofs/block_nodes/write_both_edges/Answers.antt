use Rattle.cbpf_code.proofs.WrittenLemmas.{first-failed}
use Rattle.cbpf_why.proofs.TextLemmas.{wrote-both}
use Rattle.cbpf_why.proofs.block_nodes.write_both_edges.Goals as goal

pub returns-in_err-write_edge : goal.returns-in_err-write_edge
returns-in_err-write_edge g c = first-failed _ _ _ _ _ c.from_residual.ensures.0
    (rw (c.from-next.ensures, c.from.ensures) at c.in_err-write_edge.ensures)

pub returns : goal.returns
returns g c = wrote-both _ _ _ _ _ _ (rw (c.from-next.ensures, c.from.ensures) at c.in_ok-write_edge.ensures)
    (rw (c.from-next.ensures, c.from-2.ensures, c.saturating_sub-others.ensures) at c.write_edge-2.ensures)
