use Rattle.std.proofs.Common.{◌≡◌, ◌+◌, ◌-◌, [], arith, refl, length-take}
use Rattle.std.proofs.lemmas.Option.{slice_get_within}
use Rattle.cbpf_machine.specs.Registers.{zero_state}
use Rattle.cbpf_machine.specs.Machine.{machine_of}
use Rattle.cbpf_machine.specs.Trace.{trace}
use Rattle.cbpf_machine.specs.Values.{no_values}
use Rattle.cbpf_machine.proofs.FollowLemmas.{paused_of}
use Rattle.cbpf_machine.proofs.TraceLemmas.{goes_from_entry, length-trace_from}
use Rattle.cbpf_machine.proofs.SoundLemmas.{sound_few}
use Rattle.session_tests.proofs.machine_trail.gone_on.Goals as goal

pub pauses_at-requires : goal.pauses_at-requires
pauses_at-requires g c =
    let sound = c.len-sound.ensures.sound in
    let here = goes_from_entry (record { machine = machine_of c.args.p.now no_values; bytes = []; wire = 0 }) sound _ _
    c.requires.last in
    omega (arith, here.inside, sound_few c.args.p.now sound)

pub returns-then-pauses_at-clause-within : goal.returns-then-pauses_at-clause-within
returns-then-pauses_at-clause-within g c =
    omega (
      arith,
      c.requires.from_one,
      slice_get_within (trace (machine_of c.args.p.now no_values) [] 0) (c.args.count - 1) c.args.s.now
          c.requires.last,
    )

pub follow-requires-clause-last : goal.follow-requires-clause-last
follow-requires-clause-last g c =
    let long = g.met.T.Trail.as_long _ _ c.requires.stands in
    let within = slice_get_within (trace (machine_of c.args.p.now no_values) [] 0) (c.args.count - 1) c.args.s.now
    c.requires.last in
    let kept : c.args.count ≡ g.T.Trail.kept c.args.trail.now =
    omega (arith, c.requires.from_one, long, within, length-take c.args.count (trace (machine_of c.args.p.now no_values) [] 0)) in
    rw c.new-values.ensures.value (rw kept at c.requires.last)

pub follow-requires-clause-spare : goal.follow-requires-clause-spare
follow-requires-clause-spare g c =
    omega (
      arith,
      c.requires.turns,
      sound_few c.args.p.now c.len-sound.ensures.sound,
      length-trace_from (machine_of c.args.p.now c.new-values.result) [] 0 zero_state,
    )

pub overflow_add-result : goal.overflow_add-result
overflow_add-result g c =
    let long = g.met.T.Trail.as_long _ _ c.requires.stands in
    let within = slice_get_within (trace (machine_of c.args.p.now no_values) [] 0) (c.args.count - 1) c.args.s.now
    c.requires.last in
    let kept : g.T.Trail.kept c.args.trail.now ≡ c.args.count =
    omega (arith, c.requires.from_one, long, within, length-take c.args.count (trace (machine_of c.args.p.now no_values) [] 0)) in
    let first = (paused_of _ (trace (machine_of c.args.p.now c.new-values.result) [] 0) (g.T.Trail.kept c.args.trail.now) _ _ _ _
    c.in-Paused.ensures.follows).0 in
    let there = slice_get_within (trace (machine_of c.args.p.now c.new-values.result) [] 0)
    (g.T.Trail.kept c.args.trail.now + c.in-Paused.more - 1) c.follow.new.s first.at in
    omega (
      arith,
      kept,
      there,
      sound_few c.args.p.now c.len-sound.ensures.sound,
      length-trace_from (machine_of c.args.p.now c.new-values.result) [] 0 zero_state,
    )

pub returns-clause-stands : goal.returns-clause-stands
returns-clause-stands g c =
    let long = g.met.T.Trail.as_long _ _ c.requires.stands in
    let within = slice_get_within (trace (machine_of c.args.p.now no_values) [] 0) (c.args.count - 1) c.args.s.now
    c.requires.last in
    let kept : g.T.Trail.kept c.args.trail.now ≡ c.args.count =
    omega (arith, c.requires.from_one, long, within, length-take c.args.count (trace (machine_of c.args.p.now no_values) [] 0)) in
    rw kept at (rw c.new-values.ensures.value at (c.in-Paused.ensures.stands c.in-Paused.more refl))

pub returns-clause-within : goal.returns-clause-within
returns-clause-within g c =
    let long = g.met.T.Trail.as_long _ _ c.requires.stands in
    let within = slice_get_within (trace (machine_of c.args.p.now no_values) [] 0) (c.args.count - 1) c.args.s.now
    c.requires.last in
    let kept : g.T.Trail.kept c.args.trail.now ≡ c.args.count =
    omega (arith, c.requires.from_one, long, within, length-take c.args.count (trace (machine_of c.args.p.now no_values) [] 0)) in
    let first = (paused_of _ (trace (machine_of c.args.p.now c.new-values.result) [] 0) (g.T.Trail.kept c.args.trail.now) _ _ _ _
    c.in-Paused.ensures.follows).0 in
    let some = first.some in
    let there = slice_get_within (trace (machine_of c.args.p.now no_values) [] 0)
    (g.T.Trail.kept c.args.trail.now + c.in-Paused.more - 1) c.follow.new.s
    (rw c.new-values.ensures.value at first.at) in
    omega (arith, kept, there, some)
