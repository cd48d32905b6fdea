use Rattle.std.proofs.Common.{arith}
use Rattle.std.proofs.lemmas.Grind.{common_steps}
use Rattle.cbpf_reply.specs.Packet.{packet_row}
use Rattle.cbpf_reply.proofs.RowLemmas.{texts-before, row-taken}
use Rattle.cbpf_reply.proofs.packet.write_rows.Goals as goal

pub loop-r-preserved : goal.loop-r-preserved
loop-r-preserved g c = record {
  from = omega arith;
  within = omega arith;
  text = texts-before (packet_row c.args.bytes.now) c.loop-r.r c.args.to _ _ _ (omega arith) (omega arith)
      c.loop-r.invariant.text (grind (arith, common_steps, row-taken));
  grown = omega arith;
}
