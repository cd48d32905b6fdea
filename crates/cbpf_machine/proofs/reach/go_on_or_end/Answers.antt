use Rattle.std.proofs.Common.{refl, ◌∙◌, ℕ, ◌≤◌, arith, false}
use Rattle.cbpf_machine.specs.Core.{registers}
use Rattle.cbpf_machine.specs.Registers.{Registers, zero_state}
use Rattle.cbpf_machine.specs.OnPacket.{IsOnTrace, in_task}
use Rattle.cbpf_machine.specs.Together.{Reaches}
use Rattle.cbpf_machine.proofs.TraceLemmas.{ended_last, outcome_at_end}
use Rattle.cbpf_machine.proofs.FollowLemmas.{reaches_fenced}
use Rattle.cbpf_machine.proofs.reach.go_on_or_end.Given.{Over}
use Rattle.cbpf_machine.proofs.reach.go_on_or_end.Goals.{After-make_turns-turns}
use Rattle.cbpf_machine.proofs.reach.go_on_or_end.Goals as goal

reached : (g : Over) (c : After-make_turns-turns g) (i : ℕ)
    → IsOnTrace (in_task c.args.task.now) i (registers c.args.s.now c.args.slots.now)
    → Reaches (in_task c.args.task.now) zero_state (λ (r : Registers). false) i
    (registers c.make_turns-turns.new.s c.make_turns-turns.new.slots) c.make_turns-turns.result.0 c.make_turns-turns.result.1
    × (c.make_turns-turns.result.0 ≤ c.args.most)
reached g c i on = reaches_fenced c.args.most (c.make_turns-turns.ensures.reaches zero_state i on) on
    (c.make_turns-turns.ensures.some refl) c.requires.some (omega arith)

pub add-requires : goal.add-requires
add-requires g c =
    let few = (reached g (goal.at.add-requires g c).After-make_turns-turns c.requires.on.0 c.requires.on.1).1 in
    omega (arith, few, c.requires.spare)

pub returns-in-None : goal.returns-in-None
returns-in-None g c = record {
  goes = λ i on.
      let h = reached g (goal.at.returns-in-None g c).After-make_turns-turns i on in
      (c.make_turns-turns.ensures.some refl, h.1, (rw c.in-None.is at h.0).arrives, c.add.ensures);
}

pub returns-in-Some : goal.returns-in-Some
returns-in-Some g c = record {
  goes = λ i on.
      let some = c.make_turns-turns.ensures.some refl in
      let h = reached g (goal.at.returns-in-Some g c).After-make_turns-turns i on in
      let end = (rw c.in-Some.is at h.0).arrives in
      let last = ended_last end.0 _ end.1 in (
        omega (arith, last, some),
        omega (arith, last, some, h.1),
        c.from.ensures ∙ outcome_at_end end.0 _ end.1,
        omega (arith, last, some, c.add.ensures),
      );
}
