use Rattle.std.proofs.Common.{rules}
use Rattle.cbpf_dbg.proofs.BreakpointLemmas.{without_breakpoint_is}
use Rattle.cbpf_dbg.proofs.CarryLemmas.{same-but, known-at, known-room, room-after}
use Rattle.cbpf_dbg.proofs.session.Session.delete.Goals as goal

pub watch_at-requires-clause-room : goal.watch_at-requires-clause-room
watch_at-requires-clause-room g c = room-after c.args.n _ _ _ (λ q h. c.shift_remove.ensures.updates.2 q h)
    (λ when at. let gone = c.shift_remove.ensures.updates.1 in absurd cc)
    (known-room _ _ _ _ _ _ c.in-Some.is c.self.invariant.1)

pub invariant_of-self : goal.invariant_of-self
invariant_of-self g c = (
  c.self.invariant.0,
  known-at _ _ _ _ _ _ c.in-Some.is c.self.invariant.1 _ _
      (λ w. c.watch_at.ensures.watches _ w (same-but c.args.n _ _ (λ q h. c.shift_remove.ensures.updates.2 q h)))
      (rw c.watch_at.ensures.room (room-after c.args.n _ _ _ (λ q h. c.shift_remove.ensures.updates.2 q h)
      (λ when at. let gone = c.shift_remove.ensures.updates.1 in absurd cc)
      (known-room _ _ _ _ _ _ c.in-Some.is c.self.invariant.1))),
)

pub returns-clause-after : goal.returns-clause-after
returns-clause-after g c =
    let is = without_breakpoint_is c.self.inside.breakpoints.entries c.args.n in
    search rules
