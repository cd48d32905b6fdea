use Rattle.std.proofs.Common.{◌-◌, arith, refl, rules}
use Rattle.pcap_classic.specs.Lent.{record_of}
use Rattle.cbpf_machine.specs.Turn.{turn}
use Rattle.cbpf_machine.proofs.TraceLemmas.{goes_from_entry}
use Rattle.cbpf_dbg.specs.Joined.{Entry}
use Rattle.cbpf_dbg.specs.Commands.{back_place}
use Rattle.cbpf_dbg.specs.Loaded.{machine_in}
use Rattle.cbpf_dbg.proofs.step.step_back.Goals as goal

pub returns-then-b-from-clause-answer : goal.returns-then-b-from-clause-answer
returns-then-b-from-clause-answer g c = search rules

pub stop_at-requires : goal.stop_at-requires
stop_at-requires g c =
    (goes_from_entry _ c.requires.stands.sound (c.args.cursor.now.place.step - c.args.b - 1) c.back-state.result
    c.back-state.ensures.entry).inside

pub returns-clause-answer : goal.returns-clause-answer
returns-clause-answer g c =
    let e : Entry = record {
      place = back_place c.args.cursor.now.place c.args.b;
      state = c.back-state.result;
      turn = turn (machine_in c.args.loaded.now) c.item_at-item.result.bytes.now c.item_at-item.result.wire
          c.back-state.result;
    } in
    record {
      within = omega arith;
      entry = (
        e,
        rw (c.item_at-item.ensures.record, rw c.packet_of-packet.ensures at c.back-state.ensures.entry) refl,
        c.stop_at.ensures (record_of c.item_at-item.result),
      );
      place_is = refl;
      origin_is = refl;
    }

pub returns-clause-turns : goal.returns-clause-turns
returns-clause-turns g c = search rules
