use Rattle.std.proofs.Common.{◌≡◌, ◌+◌, ◌-◌, arith, sym}
use Rattle.std.proofs.lemmas.Option.{slice_get_within}
use Rattle.cbpf_machine.specs.Core.{registers}
use Rattle.cbpf_machine.specs.OnPacket.{in_task, trace_in}
use Rattle.cbpf_machine.proofs.ByLemmas.{comes_by, ends_by}
use Rattle.cbpf_machine.proofs.TraceLemmas.{goes_at, goes_from_entry}
use Rattle.cbpf_machine.proofs.FollowLemmas.{few_entries}
use Rattle.cbpf_machine.proofs.trail.Trail.advance.Goals as goal

pub advance-init : goal.advance-init
advance-init g c =
    let k : g.Self.Trail.kept c.args.self.now + 0 ≡ g.Self.Trail.kept c.args.self.now = omega arith in
    record {
      within = omega arith;
      kept = sym k;
      here = rw (k, c.slots-slots.ensures, c.core-here.ensures)
          (goes_from_entry _ c.len-sound.ensures.sound _ _ c.requires.last);
      stands = rw k c.requires.of_trace;
      spent = omega arith;
    }

pub keep-requires-clause-few : goal.keep-requires-clause-few
keep-requires-clause-few g c =
    let to = rw c.in-Paused.is at (c.go_on_or_end.ensures.goes _ c.advance.invariant.here) in
    let within = slice_get_within (trace_in (in_task c.args.task.now)) _ (registers c.go_on_or_end.new.s c.go_on_or_end.new.slots)
    (goes_at to.2) in
    let all = few_entries (in_task c.args.task.now) c.advance.invariant.here.sound in
    omega (arith, within, all, to.0, c.advance.invariant.kept, c.requires.from_one)

pub advance-preserved : goal.advance-preserved
advance-preserved g c =
    let to = rw c.in-Paused.is at (c.go_on_or_end.ensures.goes _ c.advance.invariant.here) in
    let i : g.Self.Trail.kept c.args.self.now + c.advance.made - 1 + c.in-Paused.turns
    ≡ g.Self.Trail.kept c.args.self.now + (c.advance.made + c.in-Paused.turns) - 1 = omega (arith, c.requires.from_one) in
    let here = rw i at to.2 in
    let k = c.advance.invariant.kept in
    let n : g.Self.Trail.kept c.advance.self + c.in-Paused.turns
    ≡ g.Self.Trail.kept c.args.self.now + (c.advance.made + c.in-Paused.turns) = omega (arith, k) in
    let kept = c.keep.ensures.stands (trace_in (in_task c.args.task.now))
    (rw (n, c.of.ensures) (goes_at here)) (rw k c.advance.invariant.stands) in
    record {
      within = omega (arith, to.1, c.min-most.ensures, c.advance-test.true);
      kept = omega (arith, kept.1, k);
      here = here;
      stands = rw n at kept.0;
      spent = omega (arith, to.3, c.advance.invariant.spent);
    }

pub returns-in-Ended-clause-follows : goal.returns-in-Ended-clause-follows
returns-in-Ended-clause-follows g c =
    let end = rw c.in-Ended.is at (c.go_on_or_end.ensures.goes _ c.advance.invariant.here) in
    let within = slice_get_within (trace_in (in_task c.args.task.now)) _ c.args.s.now c.requires.last in
    rw end.2 (ends_by _ _ c.requires.from_one _ c.args.s.now c.args.count (omega (arith, within, c.requires.from_one))
    (omega (arith, end.1, c.min-most.ensures, c.advance-test.true, c.advance.invariant.kept, c.requires.from_one)))

pub returns-clause-follows : goal.returns-clause-follows
returns-clause-follows g c =
    let all : c.advance.made ≡ c.args.count = omega (arith, c.advance-test.false, c.advance.invariant.within) in
    comes_by _ _ c.requires.from_one _ c.args.s.now c.args.count c.of-2.result c.requires.last
    (rw c.of-2.ensures (rw all at (goes_at c.advance.invariant.here)))
