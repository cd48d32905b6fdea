use Rattle.std.proofs.Common.{◌≡◌, ◌≤◌, ◌+◌, ◌*◌, ◌++◌, length, drop}
use Rattle.std.specs.List.{flat_map}
use Rattle.cbpf_reply.specs.Packet.{byte_text}
use Rattle.cbpf_reply.proofs.packet.prepend_cells.Given as goal

abbrev pub invariant-loop-i : goal.invariant-loop-i
invariant-loop-i l = record {
  within : l.i ≤ length l.row;
  text : l.line ≡ flat_map byte_text (drop l.i l.row) ++ l.initial.line;
  grown : length l.line + 3 * l.i ≤ length l.initial.line + 3 * length l.row;
}

abbrev pub decreases-loop-i : goal.decreases-loop-i
decreases-loop-i l = l.i
