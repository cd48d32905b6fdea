use Rattle.std.proofs.Common.{◌≡◌, ◌≤◌, ◌+◌, ◌-◌, take}
use Rattle.cbpf_machine.specs.Core.{registers}
use Rattle.cbpf_machine.specs.OnPacket.{IsOnTrace, in_task, trace_in}
use Rattle.cbpf_machine.proofs.trail.Trail.advance.Given as goal

-- the trail keeps so many entries more, of which the state is the last
abbrev pub invariant-advance : goal.invariant-advance
invariant-advance g l =
    record {
      within : l.made ≤ l.count;
      kept : g.Self.Trail.kept l.self ≡ g.Self.Trail.kept l.fn.self + l.made;
      here : IsOnTrace (in_task l.task) (g.Self.Trail.kept l.fn.self + l.made - 1) (registers l.here l.slots);
      stands : g.Self.Trail.stands_for l.self (take (g.Self.Trail.kept l.fn.self + l.made) (trace_in (in_task l.task)));
      spent : l.meter ≡ l.fn.meter + l.made;
    }

abbrev pub decreases-advance : goal.decreases-advance
decreases-advance g l = l.count - l.made
