use Rattle.std.proofs.Common.{◌≡◌, ◌+◌, ◌-◌, [], arith, sym}
use Rattle.std.proofs.lemmas.Option.{slice_get_within}
use Rattle.cbpf_machine.specs.Core.{registers}
use Rattle.cbpf_machine.specs.Registers.{zero_state}
use Rattle.cbpf_machine.specs.OnPacket.{in_task, trace_in}
use Rattle.cbpf_machine.proofs.TraceLemmas.{first_entry, goes_at}
use Rattle.cbpf_machine.proofs.ListLemmas.{take-slice_get}
use Rattle.cbpf_machine.proofs.FollowLemmas.{few_entries, start_goes}
use Rattle.cbpf_machine.proofs.trail.Trail.fill.Goals as goal

pub fill-init : goal.fill-init
fill-init g c =
    let sound = c.len-sound.ensures.sound in
    let pushed = rw c.zero.ensures at (c.push.ensures [] c.requires.empty) in
    record {
      from_one = omega arith;
      within = c.requires.from_one;
      kept = sym (g.met.Self.Trail.as_long _ _ pushed);
      here = rw c.zero-here.ensures (start_goes _ sound);
      stands = rw (take-slice_get _ 0 zero_state (first_entry _ sound)) pushed;
      spent = omega arith;
    }

pub keep-requires-clause-few : goal.keep-requires-clause-few
keep-requires-clause-few g c =
    let to = rw c.in-Ok.is at (c.go_on.ensures.goes _ c.fill.invariant.here) in
    let within = slice_get_within (trace_in (in_task c.args.task.now))
    (c.fill.entries - 1 + c.in-Ok.turns) (registers c.go_on.new.s c.go_on.new.slots) (goes_at to.2) in
    let all = few_entries (in_task c.args.task.now) c.fill.invariant.here.sound in
    omega (arith, within, all, to.0, c.fill.invariant.kept)

pub fill-preserved : goal.fill-preserved
fill-preserved g c =
    let from_one = c.fill.invariant.from_one in
    let to = rw c.in-Ok.is at (c.go_on.ensures.goes _ c.fill.invariant.here) in
    let i : c.fill.entries - 1 + c.in-Ok.turns ≡ c.fill.entries + c.in-Ok.turns - 1 = omega arith in
    let here = rw i at to.2 in
    let k = c.fill.invariant.kept in
    let kept = c.keep.ensures.stands (trace_in (in_task c.args.task.now))
    (rw (k, c.of.ensures) (goes_at here)) (rw k c.fill.invariant.stands) in
    record {
      from_one = omega (arith, to.0);
      within = omega (arith, to.1, c.min-most.ensures, c.fill-test.true);
      kept = omega (arith, kept.1, k);
      here = here;
      stands = rw k at kept.0;
      spent = omega (arith, rw c.in-Ok.is at c.go_on.ensures.turns, c.fill.invariant.spent);
    }

pub returns-clause-entry : goal.returns-clause-entry
returns-clause-entry g c =
    let all : c.fill.entries ≡ c.args.to = omega (arith, c.fill-test.false, c.fill.invariant.within) in
    rw c.of-2.ensures (rw all at (goes_at c.fill.invariant.here))
