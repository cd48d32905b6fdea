use Rattle.std.proofs.Common.{◌≡◌, ◌+◌, ◌∙◌, ap, arith, length, refl}
use Rattle.cbpf_dbg.specs.Joined.{stops_of}
use Rattle.cbpf_dbg.specs.Loaded.{breakpoints_in, records_in}
use Rattle.cbpf_dbg.proofs.GoingLemmas.{at_hit, hits_out, watches_hits}
use Rattle.cbpf_dbg.proofs.JoinedLemmas.{ahead-end}
use Rattle.cbpf_dbg.proofs.stops.next_stop.Goals as goal
use Rattle.cbpf_dbg.proofs.stops.next_stop.Goals.{then-not-go_on_in_packet+else-not-run_records, else-not-go_on_in_packet}

pub returns-then-not-run_records-clause-next : goal.returns-then-not-run_records-clause-next
returns-then-not-run_records-clause-next g c =
    let left = c.if-not-go_on_in_packet.ensures.goes in
    let ran = c.if-not-run_records.ensures.goes in
    let past : c.run_records.new.walk.cursor.place.packet ≡ length (records_in c.args.loaded.now) + 1 =
    c.if-not-run_records.ensures.none refl ∙ ran.same ∙ left.same ∙ c.requires.all in
    let none = ap (stops_of (breakpoints_in c.args.loaded.now)) (ahead-end _ _ _ _ (omega (arith, past))) in
    let covers = watches_hits c.args.loaded.now in
    (hits_out _ _ _ _ _ _ left covers ∙ hits_out _ _ _ _ _ _ ran covers ∙ none, none)

pub stop_at-requires : goal.stop_at-requires
stop_at-requires g c = elim c.if-not-go_on_in_packet.branch [
  | then-not-go_on_in_packet+else-not-run_records w ↦
      rw w.walk-is (at_hit _ _ _ _ _ w.if-not-run_records.ensures.goes).1
  | else-not-go_on_in_packet w ↦
      rw w.walk-is (at_hit _ _ _ _ _ w.if-not-go_on_in_packet.ensures.goes).1
]

pub returns-clause-next : goal.returns-clause-next
returns-clause-next g c = elim c.if-not-go_on_in_packet.branch [
  | then-not-go_on_in_packet+else-not-run_records w ↦
      let hit = at_hit _ _ _ _ _ w.if-not-run_records.ensures.goes in
      rw (c.stop_at.ensures hit.0, w.walk-is)
      (hits_out _ _ _ _ _ _ w.if-not-go_on_in_packet.ensures.goes (watches_hits c.args.loaded.now) ∙ hit.2)
  | else-not-go_on_in_packet w ↦
      let hit = at_hit _ _ _ _ _ w.if-not-go_on_in_packet.ensures.goes in
      rw (c.stop_at.ensures hit.0, w.walk-is) hit.2
]
