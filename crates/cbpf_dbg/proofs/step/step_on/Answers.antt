use Rattle.std.proofs.Common.{◌≡◌, ◌+◌, ◌-◌, length, arith, ap, ◌∙◌, None, slice_get, refl, ◌≤◌, false, length-drop}
use Rattle.std.proofs.lemmas.Option.{slice_get_within}
use Rattle.cbpf_reply.specs.Places.{is_before}
use Rattle.std.proofs.lemmas.Grind.{common_steps}
use Rattle.pcap_classic.specs.Lent.{record_of}
use Rattle.cbpf_reply.specs.declared.reply.Place.{Place}
use Rattle.cbpf_dbg.specs.Joined.{entries_after}
use Rattle.cbpf_dbg.proofs.CursorLemmas.{goes}
use Rattle.cbpf_dbg.proofs.RecordsLeftLemmas.{first_left, first_of, start_first, left_past, none_of, nothing_left, all_left}
use Rattle.cbpf_dbg.proofs.RunLemmas.{step_stopped, step_finished}
use Rattle.cbpf_dbg.proofs.KeepLemmas.{keeps_clear}
use Rattle.cbpf_dbg.proofs.StepLemmas.{nears_none, nears_more, steps_to, steps_out}
use Rattle.cbpf_dbg.proofs.GoingLemmas.{passes_more}
use Rattle.cbpf_dbg.proofs.TurnCountLemmas.{turns-reply, spent_between, owed-turns, few_after}
use Rattle.cbpf_dbg.specs.Loaded.{machine_in, records_in}
use Rattle.cbpf_dbg.proofs.step.step_on.Goals as goal
use Rattle.cbpf_dbg.proofs.step.step_on.Goals.{then-cursor-eq0, else-cursor-eq0}

pub skip_packets-ahead-requires-clause-spare : goal.skip_packets-ahead-requires-clause-spare
skip_packets-ahead-requires-clause-spare g c =
    let most = few_after (machine_in c.args.loaded.now) (records_in c.args.loaded.now) c.args.cursor.now.place c.requires.stands.sound c.args.loaded.now.few in
    omega (arith, most, c.requires.early)

pub go-init : goal.go-init
go-init g c = elim c.if-cursor-eq0.branch [
  | then-cursor-eq0 w ↦ rw (w.meter-is, w.cursor-is, w.trail-is, w.ahead-is, w.records-is) (record {
    nears = w.skip_packets-ahead.ensures.nears;
    left = w.skip_packets-ahead.ensures.left;
    keeps = keeps_clear (λ xs. g.T.Trail.stands_for w.clear.new.self xs) (machine_in c.args.loaded.now)
        (records_in c.args.loaded.now) _ w.skip_packets-ahead.ensures.before w.clear.ensures;
  })
  | else-cursor-eq0 w ↦ rw (w.meter-is, w.cursor-is, w.trail-is, w.ahead-is, w.records-is) (record {
    nears = nears_none _ _ _ _ _ c.requires.stands
        c.requires.some;
    left = all_left _ _ _ (rw c.count-count.ensures.value at c.records_at-records.ensures);
    keeps = c.requires.keeps;
  })
]

pub enter_packet-further-requires-clause-here : goal.enter_packet-further-requires-clause-here
enter_packet-further-requires-clause-here g c = first_left _ _ _ _ _ (first_of _ _ c.in-Some.ensures) c.go.invariant.left

pub step_in_packet-requires-clause-here : goal.step_in_packet-requires-clause-here
step_in_packet-requires-clause-here g c =
    rw c.enter_packet-further.ensures.packet (first_left _ _ _ _ _ (first_of _ _ c.in-Some.ensures) c.go.invariant.left)

-- no more turns are made than were owed
pub step_in_packet-requires-clause-spare : goal.step_in_packet-requires-clause-spare
step_in_packet-requires-clause-spare g c =
    let most = few_after (machine_in c.args.loaded.now) (records_in c.args.loaded.now) c.args.cursor.now.place c.requires.stands.sound c.args.loaded.now.few in
    omega (arith, most, c.requires.early, c.go.invariant.nears.passes.spent)

pub stop_at-requires : goal.stop_at-requires
stop_at-requires g c =
    let here = first_left _ _ _ _ _ (first_of _ _ c.in-Some.ensures) c.go.invariant.left in
    let place = (c.step_in_packet.ensures.on c.in-None.is).place in
    let packet : c.step_in_packet.new.cursor.place.packet ≡ c.go.cursor.place.packet =
    ap (λ (q : Place). q.packet) place ∙ c.enter_packet-further.ensures.packet in
    (goes _ _ c.step_in_packet.new.cursor (record_of c.in-Some.here) c.step_in_packet.ensures.stands (rw packet here)
    (omega (arith, ap (λ (q : Place). q.step) place, c.enter_packet-further.ensures.step))).inside

pub returns-in-None-clause-start : goal.returns-in-None-clause-start
returns-in-None-clause-start g c =
    let place = (c.step_in_packet.ensures.on c.in-None.is).place in
    let packet : c.step_in_packet.new.cursor.place.packet ≡ c.go.cursor.place.packet =
    ap (λ (q : Place). q.packet) place ∙ c.enter_packet-further.ensures.packet in
    rw packet (start_first _ _ _ _ c.go.invariant.left c.in-Some.ensures)

pub returns-in-None-clause-steps : goal.returns-in-None-clause-steps
returns-in-None-clause-steps g c = λ breakpoints.
    let here = first_left _ _ _ _ _ (first_of _ _ c.in-Some.ensures) c.go.invariant.left in
    let in_packet = c.enter_packet-further.ensures in
    let there = steps_to _ _ c.go.cursor (record_of c.in-Some.here) c.go.invariant.nears.passes.stands here
    c.enter_packet-further.new.cursor c.step_in_packet.new.cursor c.go.ahead c.enter_packet-further.result c.go.meter c.step_in_packet.new.meter
    c.step_in_packet.ensures.stands (c.step_in_packet.ensures.origin ∙ in_packet.origin) in_packet.packet in_packet.step in_packet.ahead
    c.go.invariant.nears.some (c.step_in_packet.ensures.on c.in-None.is) in
    step_stopped (machine_in c.args.loaded.now) c.args.loaded.now.capture.now breakpoints c.args.n c.args.cursor.now
    (record c.step_in_packet.new.cursor { start = c.in-Some.here.start }) (record_of c.in-Some.here) c.stop_at.result
    (c.go.invariant.nears.sought ∙ there.1) (c.stop_at.ensures (record_of c.in-Some.here))
    (there.0.origin ∙ c.go.invariant.nears.passes.origin)

pub returns-in-None-clause-turns : goal.returns-in-None-clause-turns
returns-in-None-clause-turns g c = λ breakpoints.
    let here = first_left _ _ _ _ _ (first_of _ _ c.in-Some.ensures) c.go.invariant.left in
    let in_packet = c.enter_packet-further.ensures in
    let there = steps_to _ _ c.go.cursor (record_of c.in-Some.here) c.go.invariant.nears.passes.stands here
    c.enter_packet-further.new.cursor c.step_in_packet.new.cursor c.go.ahead c.enter_packet-further.result c.go.meter c.step_in_packet.new.meter
    c.step_in_packet.ensures.stands (c.step_in_packet.ensures.origin ∙ in_packet.origin) in_packet.packet in_packet.step in_packet.ahead
    c.go.invariant.nears.some (c.step_in_packet.ensures.on c.in-None.is) in
    rw (turns-reply _ _ _ _ _ _ _ (returns-in-None-clause-steps g c breakpoints))
    (spent_between _ _ _ _ _ _ c.requires.stands (passes_more _ _ _ _ _ _ _ _ c.go.invariant.nears.passes there.0))

pub skip_packets-ahead-requires-in-Some-step_in_packet-clause-left : goal.skip_packets-ahead-requires-in-Some-step_in_packet-clause-left
skip_packets-ahead-requires-in-Some-step_in_packet-clause-left g c =
    let place = (rw c.in-Some-step_in_packet.is at c.step_in_packet.ensures.out).place in
    rw (place, c.enter_packet-further.ensures.packet) (left_past _ _ _ _ _ c.pass.ensures c.go.invariant.left
    (omega (arith, c.go.invariant.nears.passes.stands.from_one, c.go.invariant.nears.passes.stands.ordered)))

pub skip_packets-ahead-requires-in-Some-step_in_packet-clause-spare : goal.skip_packets-ahead-requires-in-Some-step_in_packet-clause-spare
skip_packets-ahead-requires-in-Some-step_in_packet-clause-spare g c =
    let here = first_left _ _ _ _ _ (first_of _ _ c.in-Some.ensures) c.go.invariant.left in
    let in_packet = c.enter_packet-further.ensures in
    let out = steps_out _ _ c.go.cursor (record_of c.in-Some.here) c.go.invariant.nears.passes.stands here
    c.enter_packet-further.new.cursor c.step_in_packet.new.cursor c.go.ahead c.enter_packet-further.result c.go.meter c.step_in_packet.new.meter
    c.step_in_packet.ensures.stands (c.step_in_packet.ensures.origin ∙ in_packet.origin) in_packet.packet in_packet.step in_packet.ahead
    c.go.invariant.nears.some _ (rw c.in-Some-step_in_packet.is at c.step_in_packet.ensures.out) in
    let most = few_after (machine_in c.args.loaded.now) (records_in c.args.loaded.now) c.args.cursor.now.place c.requires.stands.sound c.args.loaded.now.few in
    omega (arith, most, c.requires.early, c.go.invariant.nears.passes.spent, out.passes.spent)

packet_order : (p q : Place) → is_before p q ≡ false → q.packet ≤ p.packet
packet_order p q h = grind (arith, common_steps)

pub go-smaller : goal.go-smaller
go-smaller g c =
    let here = first_left _ _ _ _ _ (first_of _ _ c.in-Some.ensures) c.go.invariant.left in
    let in_packet = c.enter_packet-further.ensures in
    let out = steps_out _ _ c.go.cursor (record_of c.in-Some.here) c.go.invariant.nears.passes.stands here
    c.enter_packet-further.new.cursor c.step_in_packet.new.cursor c.go.ahead c.enter_packet-further.result c.go.meter c.step_in_packet.new.meter
    c.step_in_packet.ensures.stands (c.step_in_packet.ensures.origin ∙ in_packet.origin) in_packet.packet in_packet.step in_packet.ahead
    c.go.invariant.nears.some _ (rw c.in-Some-step_in_packet.is at c.step_in_packet.ensures.out) in
    let skipped = c.skip_packets-ahead-in-Some-step_in_packet.ensures in
    let place = (rw c.in-Some-step_in_packet.is at c.step_in_packet.ensures.out).place in
    let packet : c.step_in_packet.new.cursor.place.packet ≡ c.go.cursor.place.packet + 1 =
    ap (λ (q : Place). q.packet) place ∙ rw in_packet.packet refl in
    omega (
      arith,
      packet_order c.skip_packets-ahead-in-Some-step_in_packet.new.cursor.place c.step_in_packet.new.cursor.place skipped.nears.passes.order,
      packet,
      ap length c.go.invariant.left.is,
      ap length skipped.left.is,
      out.fewer,
      skipped.nears.fewer,
      length-drop (c.go.cursor.place.packet - 1) (records_in c.args.loaded.now),
      length-drop (c.skip_packets-ahead-in-Some-step_in_packet.new.cursor.place.packet - 1) (records_in c.args.loaded.now),
      slice_get_within (records_in c.args.loaded.now) (c.go.cursor.place.packet - 1) (record_of c.in-Some.here) here,
    )

pub go-preserved : goal.go-preserved
go-preserved g c =
    let here = first_left _ _ _ _ _ (first_of _ _ c.in-Some.ensures) c.go.invariant.left in
    let in_packet = c.enter_packet-further.ensures in
    let out = steps_out _ _ c.go.cursor (record_of c.in-Some.here) c.go.invariant.nears.passes.stands here
    c.enter_packet-further.new.cursor c.step_in_packet.new.cursor c.go.ahead c.enter_packet-further.result c.go.meter c.step_in_packet.new.meter
    c.step_in_packet.ensures.stands (c.step_in_packet.ensures.origin ∙ in_packet.origin) in_packet.packet in_packet.step in_packet.ahead
    c.go.invariant.nears.some _ (rw c.in-Some-step_in_packet.is at c.step_in_packet.ensures.out) in
    let skipped = c.skip_packets-ahead-in-Some-step_in_packet.ensures in
    record {
      nears = nears_more _ _ _ _ _ _ _ _ _ _ _ (nears_more _ _ _ _ _ _ _ _ _ _ _ c.go.invariant.nears out) skipped.nears;
      left = skipped.left;
      keeps = keeps_clear (λ xs. g.T.Trail.stands_for c.clear-in-Some-step_in_packet.new.self xs) (machine_in c.args.loaded.now)
          (records_in c.args.loaded.now) _ skipped.before c.clear-in-Some-step_in_packet.ensures;
    }

pub returns-clause-steps : goal.returns-clause-steps
returns-clause-steps g c = λ breakpoints.
    let so = c.go.invariant.nears in
    let m = nothing_left _ _ _ _ so.passes.stands c.go.invariant.left (none_of _ c.in_default.ensures) in
    let none : slice_get (entries_after (machine_in c.args.loaded.now) (records_in c.args.loaded.now) c.go.cursor.place)
    (c.go.ahead - 1) ≡ None = rw m.1 refl in
    (step_finished (machine_in c.args.loaded.now) c.args.loaded.now.capture.now breakpoints c.args.n c.args.cursor.now
    c.go.cursor c.before-2.result (so.sought ∙ none) so.passes.stands so.passes.origin m.0 c.before-2.ensures.place c.before-2.ensures.origin)

pub returns-clause-turns : goal.returns-clause-turns
returns-clause-turns g c = λ breakpoints.
    let m = nothing_left _ _ _ _ c.go.invariant.nears.passes.stands c.go.invariant.left (none_of _ c.in_default.ensures) in
    let steps = returns-clause-steps g c breakpoints in
    let all = owed-turns _ _ c.args.cursor.now c.requires.stands in
    rw (turns-reply _ _ _ _ _ _ _ steps) (omega (arith, all, ap length m.1, m.2, c.go.invariant.nears.passes.spent))
