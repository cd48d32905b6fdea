use Rattle.std.proofs.Common.{◌≡◌, ◌<◌, ℕ, Some}
use Rattle.std.specs.Prelude.{slice_get}
use Rattle.cbpf_code.specs.declared.insn.Insn.{Insn}
use Rattle.cbpf_machine.specs.Follow.{Knows}
use Rattle.session_tests.proofs.machine_trail.only.Given as goal

-- the codes of the instructions so far are those of the program
abbrev pub invariant-all : goal.invariant-all
invariant-all l =
    record {
      knows : (i : ℕ) (insn : Insn) → i < l.i → slice_get l.p i ≡ Some insn → Knows l.table i insn;
    }
