use Rattle.cbpf_code.proofs.WrittenLemmas.{first-failed, wrote-then}
use Rattle.cbpf_why.proofs.block_nodes.write_edges_out.Goals as goal

pub returns-in_err-write_closing : goal.returns-in_err-write_closing
returns-in_err-write_closing g c = first-failed _ _ _ _ _ c.from_residual.ensures.0 c.in_err-write_closing.ensures

pub returns : goal.returns
returns g c = rw c.at_index.ensures.value (wrote-then _ _ _ _ _ _ c.in_ok-write_closing.ensures
    (rw c.from.ensures at c.write_edges.ensures))
