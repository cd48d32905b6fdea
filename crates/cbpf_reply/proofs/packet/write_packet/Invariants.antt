use Rattle.std.proofs.Common.{◌≤◌, ◌-◌, ◌++◌, length}
use Rattle.cbpf_reply.specs.Dump.{why_line}
use Rattle.cbpf_reply.specs.Packet.{texts_from, packet_row, packet_head, packet_rows}
use Rattle.cbpf_reply.proofs.TextLeftLemmas.{Left}
use Rattle.cbpf_reply.proofs.packet.write_packet.Given as goal

abbrev pub invariant-loop-from : goal.invariant-loop-from
invariant-loop-from g l = record {
  within : l.from ≤ l.count;
  left : Left (g.W.Write.contents l.fn.w) (g.W.Write.contents l.w)
      (texts_from (packet_row l.bytes) l.from (l.count - l.from) ++ why_line l.why)
      (packet_head (length l.bytes) l.wire ++ (packet_rows l.bytes ++ why_line l.why));
}

abbrev pub decreases-loop-from : goal.decreases-loop-from
decreases-loop-from g l = l.count - l.from
