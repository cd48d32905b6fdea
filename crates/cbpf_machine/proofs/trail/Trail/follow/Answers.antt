use Rattle.std.proofs.Common.{◌≡◌, ◌≤◌, ◌+◌, ◌∙◌, ◌-◌, length, arith, refl, sym, false}
use Rattle.std.specs.Prelude.{None}
use Rattle.cbpf_code.specs.declared.checker.TheConstants.{MAX_INSTRUCTIONS}
use Rattle.cbpf_machine.specs.Core.{registers}
use Rattle.cbpf_machine.specs.Registers.{zero_state}
use Rattle.cbpf_machine.specs.Follow.{is_watched}
use Rattle.cbpf_machine.specs.OnPacket.{in_task, trace_in}
use Rattle.cbpf_machine.specs.Task.{outcome_in}
use Rattle.cbpf_machine.specs.Together.{Reaches}
use Rattle.cbpf_machine.proofs.SoundLemmas.{sound_few}
use Rattle.cbpf_machine.proofs.TraceLemmas.{goes_from_entry}
use Rattle.cbpf_machine.proofs.FollowLemmas.{Comes, comes, few_entries, unpaused_next, ended, paused_by}
use Rattle.cbpf_machine.proofs.FollowLemmas.{reaches_fenced, reaches_within}
use Rattle.cbpf_machine.proofs.KeptLemmas.{ignores_fewer}
use Rattle.cbpf_machine.proofs.trail.Trail.follow.Given.{Over}
use Rattle.cbpf_machine.proofs.trail.Trail.follow.Goals.{After-make_turns-turns}
use Rattle.cbpf_machine.proofs.trail.Trail.follow.Goals as goal

pub follow-init : goal.follow-init
follow-init g c = record {
  from_one = c.requires.from_one;
  kept = omega arith;
  here = rw (c.slots-slots.ensures, c.core-here.ensures)
      (goes_from_entry _ c.len-few.ensures.sound _ _ c.requires.last);
  stands = c.requires.of_trace;
  unpaused = λ i s low high at. absurd (omega arith);
  state = refl;
  spent = omega arith;
}

pub overflow_add-fence : goal.overflow_add-fence
overflow_add-fence g c = omega (
  arith,
  c.gap.ensures.few,
  c.follow.invariant.here.inside,
  sound_few c.args.task.now.program.now c.follow.invariant.here.sound,
)

reached : (g : Over) (c : After-make_turns-turns g)
    → Reaches (in_task c.args.task.now) zero_state (is_watched c.args.watched.now)
    (g.Self.Trail.kept c.follow.self - 1) (registers c.make_turns-turns.new.s c.make_turns-turns.new.slots) c.make_turns-turns.result.0
    c.make_turns-turns.result.1 × (c.make_turns-turns.result.0 ≤ c.gap.result)
reached g c = reaches_fenced c.gap.result (c.make_turns-turns.ensures.reaches zero_state _ c.follow.invariant.here)
    c.follow.invariant.here (c.make_turns-turns.ensures.some refl) c.gap.ensures.some (omega arith)

within : (g : Over) (c : After-make_turns-turns g)
    → (g.Self.Trail.kept c.follow.self + c.make_turns-turns.result.0
    ≤ length (trace_in (in_task c.args.task.now)) + 1)
    × (length (trace_in (in_task c.args.task.now)) ≤ MAX_INSTRUCTIONS)
within g c =
    let h = reaches_within _ (reached g c).0 (c.make_turns-turns.ensures.some refl) in
    (omega (arith, c.follow.invariant.from_one), few_entries _ c.follow.invariant.here.sound)

pub add-requires : goal.add-requires
add-requires g c =
    let h = within g (goal.at.add-requires g c).After-make_turns-turns in
    omega (arith, c.requires.spare, c.follow.invariant.spent, c.follow.invariant.kept)

pub returns-in-Some : goal.returns-in-Some
returns-in-Some g c =
    let end = ended {k = g.Self.Trail.kept c.args.self.now} (g.Self.Trail.kept c.follow.self) c.args.s.now
    (rw c.in-Some.is at (reached g (goal.at.returns-in-Some g c).After-make_turns-turns).0)
    c.follow.invariant.unpaused c.follow.invariant.from_one (c.make_turns-turns.ensures.some refl)
    (omega (arith, c.follow.invariant.kept)) c.from.ensures in
    record {
      follows = rw c.follow.invariant.state end.0;
      stands = λ n e. absurd cc;
      of_trace = c.follow.invariant.stands;
      more = omega (arith, c.follow.invariant.kept);
      turns = omega (arith, end.1, end.2, c.follow.invariant.spent, c.follow.invariant.kept);
    }

pub keep-requires-clause-near : goal.keep-requires-clause-near
keep-requires-clause-near g c =
    let few = (reached g (goal.at.keep-requires-clause-near g c).After-make_turns-turns).1 in
    omega (arith, c.gap.ensures.near)

pub keep-requires-clause-ignores : goal.keep-requires-clause-ignores
keep-requires-clause-ignores g c =
    ignores_fewer _ _ _ _ (reached g (goal.at.keep-requires-clause-ignores g c).After-make_turns-turns).1
    c.gap.ensures.ignores

-- and to another entry
on : (g : Over) (c : After-make_turns-turns g) → c.make_turns-turns.result.1 ≡ None
    → Comes (in_task c.args.task.now) (is_watched c.args.watched.now)
    (g.Self.Trail.kept c.args.self.now) (g.Self.Trail.kept c.follow.self + c.make_turns-turns.result.0)
    (registers c.make_turns-turns.new.s c.make_turns-turns.new.slots)
on g c is = comes (g.Self.Trail.kept c.follow.self) (rw is at (reached g c).0) c.follow.invariant.unpaused
    c.follow.invariant.from_one (c.make_turns-turns.ensures.some refl)

pub keep-requires-clause-few : goal.keep-requires-clause-few
keep-requires-clause-few g c =
    let at = (goal.at.keep-requires-clause-few g c).After-make_turns-turns in
    let to = on g at c.in_default.is in
    let few = within g at in
    omega (arith, to.within, few.1)

pub overflow_add-made : goal.overflow_add-made
overflow_add-made g c =
    let few = within g (goal.at.overflow_add-made g c).After-make_turns-turns in
    omega (arith, few.0, few.1, c.follow.invariant.kept, c.requires.from_one)

pub pauses_at-requires : goal.pauses_at-requires
pauses_at-requires g c =
    let inside = c.make_turns-turns.ensures.inside in
    rw c.of-state.ensures (omega (arith, inside, sound_few c.args.task.now.program.now c.follow.invariant.here.sound))

pub returns-then-pauses_at : goal.returns-then-pauses_at
returns-then-pauses_at g c =
    let on = on g (goal.at.returns-then-pauses_at g c).After-make_turns-turns c.in_default.is in
    let kept = c.keep.ensures.stands _ (rw c.of-state.ensures on.at) c.follow.invariant.stands in
    let some = c.make_turns-turns.ensures.some refl in
    let all : g.Self.Trail.kept c.follow.self + c.make_turns-turns.result.0
    ≡ g.Self.Trail.kept c.args.self.now + (c.follow.made + c.make_turns-turns.result.0) =
    omega (arith, c.follow.invariant.kept) in
    let first = paused_by (is_watched c.args.watched.now) _ (g.Self.Trail.kept c.args.self.now)
    (c.follow.made + c.make_turns-turns.result.0) _ (record {
      some = omega (arith, some);
      unpaused = rw (← all) on.unpaused;
      at = rw (← all) on.at;
      here = rw c.of-state.ensures at (sym c.pauses_at.ensures ∙ c.if-pauses_at.true);
    }) (outcome_in c.args.task.now) c.args.s.now in
    record {
      follows = rw c.of-state.ensures first.0;
      stands = λ n e.
          let same : c.follow.made + c.make_turns-turns.result.0 ≡ n = cc in
          rw (← same) (rw all at kept.0);
      of_trace = rw (← kept.1) at kept.0;
      more = omega (arith, kept.1, c.follow.invariant.kept);
      turns = omega (arith, c.add.ensures, c.follow.invariant.spent, first.1);
    }

pub follow-smaller : goal.follow-smaller
follow-smaller g c =
    let to = on g (goal.at.follow-smaller g c).After-make_turns-turns c.in_default.is in
    let some = c.make_turns-turns.ensures.some refl in
    omega (arith, some, to.within, c.follow.invariant.kept)

pub follow-preserved : goal.follow-preserved
follow-preserved g c =
    let to = on g (goal.at.follow-preserved g c).After-make_turns-turns c.in_default.is in
    let kept = c.keep.ensures.stands _ (rw c.of-state.ensures to.at) c.follow.invariant.stands in
    let some = c.make_turns-turns.ensures.some refl in
    let quiet : is_watched c.args.watched.now (registers c.make_turns-turns.new.s c.make_turns-turns.new.slots) ≡ false =
    rw c.of-state.ensures at (sym c.pauses_at.ensures ∙ c.if-pauses_at.false) in
    let all : g.Self.Trail.kept c.follow.self + c.make_turns-turns.result.0 - 1 + 1
    ≡ g.Self.Trail.kept c.keep.new.self = omega (arith, some, kept.1) in
    record {
      from_one = omega (arith, some, kept.1);
      kept = omega (arith, kept.1, c.follow.invariant.kept);
      here = rw (← kept.1) at to.goes;
      stands = rw (← kept.1) at kept.0;
      unpaused = rw all at (unpaused_next (is_watched c.args.watched.now) _ _ _ _ to.unpaused to.at quiet);
      state = c.follow.invariant.state;
      spent = omega (arith, c.add.ensures, c.follow.invariant.spent);
    }
