use Rattle.std.proofs.Common.{◌≡◌, ◌≤◌, ◌+◌, ◌-◌, ◌*◌, ◌++◌, [], length}
use Rattle.std.specs.Option.{option_map_or}
use Rattle.cbpf_reply.specs.Dump.{why_line}
use Rattle.cbpf_reply.specs.Packet.{texts_from, packet_row}
use Rattle.cbpf_reply.proofs.packet.write_rows.Given as goal

abbrev pub invariant-loop-r : goal.invariant-loop-r
invariant-loop-r g l = record {
  from : l.from ≤ l.r;
  within : l.r ≤ l.to;
  text : l.line ≡ texts_from (packet_row l.bytes) l.r (l.to - l.r) ++ option_map_or (λ y. why_line y) l.fn.why [];
  grown : length l.line + 75 * l.r ≤ 31 + 75 * l.to;
}

abbrev pub decreases-loop-r : goal.decreases-loop-r
decreases-loop-r g l = l.r
