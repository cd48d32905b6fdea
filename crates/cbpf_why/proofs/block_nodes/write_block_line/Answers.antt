use Rattle.std.proofs.Common.{append-nil}
use Rattle.cbpf_code.proofs.WrittenLemmas.{first-failed, wrote-then}
use Rattle.cbpf_why.proofs.block_nodes.write_block_line.Goals as goal

pub returns-in_err-write_counted : goal.returns-in_err-write_counted
returns-in_err-write_counted g c = first-failed _ _ _ _ _ c.from_residual.ensures.0
    (rw (c.as_bytes.ensures, c.prepend_line.ensures.text, c.new-line.ensures, append-nil) at c.in_err-write_counted.ensures)

pub returns : goal.returns
returns g c = wrote-then _ _ _ _ _ _
    (rw (c.as_bytes.ensures, c.prepend_line.ensures.text, c.new-line.ensures, append-nil) at c.in_ok-write_counted.ensures)
    c.write_bytes.ensures
