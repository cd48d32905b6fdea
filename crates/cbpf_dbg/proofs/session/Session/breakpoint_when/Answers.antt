use Rattle.std.proofs.Common.{rules}
use Rattle.cbpf_dbg.proofs.BreakpointLemmas.{with_breakpoint_is}
use Rattle.cbpf_dbg.proofs.CarryLemmas.{same-but, known-at, known-room, known-more, room-after, room-more}
use Rattle.cbpf_dbg.proofs.session.Session.breakpoint_when.Goals as goal

pub make_room-requires-clause-room : goal.make_room-requires-clause-room
make_room-requires-clause-room g c = known-room _ _ _ _ _ _ c.in-Some.is c.self.invariant.1

pub watch_at-requires-clause-room : goal.watch_at-requires-clause-room
watch_at-requires-clause-room g c = room-after c.args.n _ _ _ (λ q h. c.in-Ok-insert.ensures.updates.2 q h)
    (λ when at. c.in-Ok.ensures.here)
    (rw c.make_room.ensures.entries
    (room-more _ _ _ c.make_room.ensures.more (known-room _ _ _ _ _ _ c.in-Some.is c.self.invariant.1)))

pub invariant_of-self-in-Ok-insert : goal.invariant_of-self-in-Ok-insert
invariant_of-self-in-Ok-insert g c = (
  c.self.invariant.0,
  known-at _ _ _ _ _ _ c.in-Some.is (known-more _ _ _ _ _ _ c.in-Some.is c.self.invariant.1 _
      c.make_room.ensures.same c.make_room.ensures.more) _ _
      (λ w. c.watch_at.ensures.watches _ w (rw c.make_room.ensures.entries at
      (same-but c.args.n _ _ (λ q h. c.in-Ok-insert.ensures.updates.2 q h))))
      (rw c.watch_at.ensures.room (room-after c.args.n _ _ _ (λ q h. c.in-Ok-insert.ensures.updates.2 q h)
      (λ when at. c.in-Ok.ensures.here)
      (rw c.make_room.ensures.entries
      (room-more _ _ _ c.make_room.ensures.more (known-room _ _ _ _ _ _ c.in-Some.is c.self.invariant.1))))),
)

pub returns-clause-after : goal.returns-clause-after
returns-clause-after g c =
    let is = with_breakpoint_is c.self.inside.breakpoints.entries c.args.n c.args.when in
    search rules
