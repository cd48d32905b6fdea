use Rattle.std.proofs.Common.{arith}
use Rattle.cbpf_code.proofs.WrittenLemmas.{loop-next, loop-stop, err-exit}
use Rattle.cbpf_why.specs.Graph.{label_byte}
use Rattle.cbpf_why.proofs.block_nodes.write_label.Goals as goal

pub loop-b-preserved : goal.loop-b-preserved
loop-b-preserved g c = loop-next label_byte c.args.text.now c.loop-b.b-index 0 _ _ _ (omega arith)
    c.loop-b.invariant (rw c.label_byte.ensures at c.in_ok-write_bytes.ensures)

pub returns-in_err-write_bytes : goal.returns-in_err-write_bytes
returns-in_err-write_bytes g c = err-exit _ _ _ _ c.from_residual.ensures.0 (loop-stop label_byte c.args.text.now
    c.loop-b.b-index 0 _ _ _ (omega arith) c.loop-b.invariant (rw c.label_byte.ensures at c.in_err-write_bytes.ensures))
