use Rattle.std.proofs.Common.{◌≡◌, ◌-◌, length}
use Rattle.cbpf_machine.specs.OnPacket.{in_task}
use Rattle.cbpf_machine.specs.Running.{IsRunning}
use Rattle.cbpf_machine.proofs.TallyLemmas.{CountsFirst}
use Rattle.cbpf_machine.proofs.tally.count_turns.Given as goal

-- the entries before the state are counted
abbrev pub invariant-turns : goal.invariant-turns
invariant-turns g l =
    record {
      running : IsRunning (in_task l.task) l.running l.slots;
      long : length l.runs ≡ length l.task.program.now;
      counts : CountsFirst (in_task l.task) l.running.turns l.running.core.pc l.fn.runs l.runs;
    }

abbrev pub decreases-turns : goal.decreases-turns
decreases-turns g l = length l.task.program.now - l.running.core.pc
