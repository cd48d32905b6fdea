use Rattle.std.proofs.Common.{arith}
use Rattle.cbpf_code.proofs.WrittenLemmas.{loop-next, loop-stop, err-exit}
use Rattle.cbpf_code.proofs.writing.write_parts.Goals as goal

pub loop-part-preserved : goal.loop-part-preserved
loop-part-preserved g c = loop-next (λ p. p.now) c.args.parts.now c.loop-part.part-index _ _ _ _ (omega arith)
    c.loop-part.invariant c.in_ok-write_bytes.ensures

pub returns-in_err-write_bytes : goal.returns-in_err-write_bytes
returns-in_err-write_bytes g c = err-exit _ _ _ _ c.from_residual.ensures.0 (loop-stop (λ p. p.now) c.args.parts.now
    c.loop-part.part-index _ _ _ _ (omega arith) c.loop-part.invariant c.in_err-write_bytes.ensures)
