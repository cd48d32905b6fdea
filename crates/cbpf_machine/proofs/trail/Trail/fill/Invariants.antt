use Rattle.std.proofs.Common.{◌≡◌, ◌≤◌, ◌+◌, ◌-◌, take}
use Rattle.cbpf_machine.specs.Core.{registers}
use Rattle.cbpf_machine.specs.OnPacket.{IsOnTrace, in_task, trace_in}
use Rattle.cbpf_machine.proofs.trail.Trail.fill.Given as goal

-- the trail keeps so many entries, of which the state is the last
abbrev pub invariant-fill : goal.invariant-fill
invariant-fill g l =
    record {
      from_one : 1 ≤ l.entries;
      within : l.entries ≤ l.to;
      kept : g.Self.Trail.kept l.self ≡ l.entries;
      here : IsOnTrace (in_task l.task) (l.entries - 1) (registers l.here l.slots);
      stands : g.Self.Trail.stands_for l.self (take l.entries (trace_in (in_task l.task)));
      spent : l.meter + 1 ≡ l.fn.meter + l.entries;
    }

abbrev pub decreases-fill : goal.decreases-fill
decreases-fill g l = l.to - l.entries
