use Rattle.std.proofs.Common.{◌≡◌, ◌≤◌, ◌+◌, ◌-◌}
use Rattle.cbpf_machine.specs.Core.{registers}
use Rattle.cbpf_machine.specs.OnPacket.{IsOnTrace, in_task}
use Rattle.cbpf_machine.proofs.reach.reach.Given as goal

-- the state is the last of so many entries
abbrev pub invariant-reach : goal.invariant-reach
invariant-reach g l =
    record {
      from_one : 1 ≤ l.entries;
      within : l.entries ≤ l.to;
      here : IsOnTrace (in_task l.task) (l.entries - 1) (registers l.here l.slots);
      spent : l.meter + 1 ≡ l.fn.meter + l.entries;
    }

abbrev pub decreases-reach : goal.decreases-reach
decreases-reach g l = l.to - l.entries
