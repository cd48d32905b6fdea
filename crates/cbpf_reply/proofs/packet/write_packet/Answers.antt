use Rattle.std.proofs.Common.{◌≡◌, ◌+◌, length, append-nil, arith, rules}
use Rattle.cbpf_code.proofs.WrittenLemmas.{first-failed}
use Rattle.cbpf_reply.specs.Dump.{why_line}
use Rattle.cbpf_reply.specs.Packet.{packet_head, packet_row}
use Rattle.cbpf_reply.proofs.TextLeftLemmas.{left-next, left-last, left-stop}
use Rattle.cbpf_reply.proofs.RowLemmas.{rows-split}
use Rattle.cbpf_reply.proofs.packet.write_packet.Goals as goal

pub returns-in_err-write : goal.returns-in_err-write
returns-in_err-write g c =
    let text : c.prepend-3.new.self ≡ packet_head (length c.args.bytes.now) c.args.wire = cc in
    first-failed _ _ _ _ _ c.from_residual.ensures.0 (rw text at c.in_err-write.ensures)

pub loop-from-preserved : goal.loop-from-preserved
loop-from-preserved g c = record {
  within = omega arith;
  left = left-next _ _ _ _ _ _ _
      (rows-split (packet_row c.args.bytes.now) c.loop-from.from (c.loop-from.from + 3) _ (why_line c.args.why)
      (omega arith) (omega arith)) c.loop-from.invariant.left (rw append-nil at c.in_ok-write_rows.ensures);
}

pub returns-in_err-write_rows : goal.returns-in_err-write_rows
returns-in_err-write_rows g c = left-stop _ _ _ _ _ _ _ _ c.from_residual-in_err-write_rows.ensures.0
    (rows-split (packet_row c.args.bytes.now) c.loop-from.from (c.loop-from.from + 3) _ (why_line c.args.why)
    (omega arith) (omega arith)) c.loop-from.invariant.left (rw append-nil at c.in_err-write_rows.ensures)

pub returns : goal.returns
returns g c = left-last _ _ _ _ _ _ c.loop-from.invariant.left c.write_rows-2.ensures

pub loop-from-init : goal.loop-from-init
loop-from-init g c = search rules
