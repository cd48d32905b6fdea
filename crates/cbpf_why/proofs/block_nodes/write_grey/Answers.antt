use Rattle.cbpf_code.proofs.WrittenLemmas.{err-exit, first-failed, part-more, part-then}
use Rattle.cbpf_why.proofs.block_nodes.write_grey.Goals as goal

pub returns-in_err-write_bytes : goal.returns-in_err-write_bytes
returns-in_err-write_bytes g c = first-failed _ _ _ _ _ c.from_residual.ensures.0 c.in_err-write_bytes.ensures

pub returns-in_err-write_label : goal.returns-in_err-write_label
returns-in_err-write_label g c = err-exit _ _ _ _ c.from_residual-in_err-write_label.ensures.0
    (part-then _ _ _ _ _ c.in_ok-write_bytes.ensures (part-more _ _ _ _ c.in_err-write_label.ensures))
