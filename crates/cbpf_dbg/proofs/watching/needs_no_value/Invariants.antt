use Rattle.std.proofs.Common.{◌≡◌, ◌<◌, ℕ, None, List}
use Rattle.cbpf_machine.specs.Registers.{Registers}
use Rattle.cbpf_machine.specs.Machine.{machine_of}
use Rattle.cbpf_machine.specs.Turn.{turn, asked}
use Rattle.cbpf_dbg.proofs.watching.needs_no_value.Given as goal

-- the instructions that were seen ask for no extension
abbrev pub invariant-scan : goal.invariant-scan
invariant-scan g l =
    record {
      silent : (bytes : List ℕ) (wire : ℕ) (s : Registers) → s.pc < l.i
          → asked (turn (machine_of l.p l.values) bytes wire s) ≡ None;
    }
