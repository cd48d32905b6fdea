-- The text of a stop within a program and a capture.
use Rattle.std.proofs.Common.{◌≡◌, ◌-◌, ◌<◌, ◌≤◌, List, Some, length, slice_get, refl, sym}
use Rattle.cbpf_code.specs.declared.insn.Insn.{Insn}
use Rattle.cbpf_reply.specs.Dump.{shown_in, dump_text}
use Rattle.pcap_classic.specs.Records.{Record}
use Rattle.pcap_classic.specs.Savefile.{Savefile}
use Rattle.cbpf_reply.specs.declared.reply.Stop.{Stop}
use Rattle.cbpf_dbg.specs.View.{View}
use Rattle.cbpf_dbg.specs.Shown.{stop_text, CanShow}

pub text-within : (m : View) (stop : Stop) (list : List Insn) (c : Savefile) (r : Record) → m.program ≡ Some list
    → m.capture ≡ Some c → slice_get c.records (stop.place.packet - 1) ≡ Some r
    → dump_text list (shown_in r.bytes r.wire stop) ≡ stop_text m stop
unfolding stop_text
text-within m stop list c r p q e = sym (rw (p, q, e) refl)

-- what a caller that can't know may test
pub shows : (m : View) (stop : Stop) (list : List Insn) (c : Savefile) → Some list ≡ m.program → Some c ≡ m.capture
    → 1 ≤ stop.place.packet → stop.place.packet ≤ length c.records → stop.state.pc < length list → CanShow m stop
unfolding CanShow
shows m stop list c p q one packet pc = rw (← p, ← q) (record { from_one = one; packet = packet; pc = pc })
