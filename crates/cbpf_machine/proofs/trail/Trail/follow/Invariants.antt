use Rattle.std.proofs.Common.{◌≡◌, ◌≤◌, ◌+◌, ◌-◌, length, take}
use Rattle.cbpf_machine.specs.Core.{registers}
use Rattle.cbpf_machine.specs.Follow.{is_watched}
use Rattle.cbpf_machine.specs.Together.{Unpaused}
use Rattle.cbpf_machine.specs.OnPacket.{IsOnTrace, in_task, trace_in}
use Rattle.cbpf_machine.proofs.trail.Trail.follow.Given as goal

-- the state is the last entry kept, after so many turns, and none of the new ones is watched
abbrev pub invariant-follow : goal.invariant-follow
invariant-follow g l =
    record {
      from_one : 1 ≤ g.Self.Trail.kept l.self;
      kept : g.Self.Trail.kept l.self ≡ g.Self.Trail.kept l.fn.self + l.made;
      here : IsOnTrace (in_task l.task) (g.Self.Trail.kept l.self - 1) (registers l.here l.slots);
      stands : g.Self.Trail.stands_for l.self
          (take (g.Self.Trail.kept l.self) (trace_in (in_task l.task)));
      unpaused : Unpaused (is_watched l.watched) (trace_in (in_task l.task))
          (g.Self.Trail.kept l.fn.self) (g.Self.Trail.kept l.self);
      state : l.s ≡ l.fn.s;
      spent : l.meter ≡ l.fn.meter + l.made;
    }

abbrev pub decreases-follow : goal.decreases-follow
decreases-follow g l = length (trace_in (in_task l.task)) - l.made
