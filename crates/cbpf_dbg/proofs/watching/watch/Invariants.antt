use Rattle.std.proofs.Common.{◌≡◌, ◌<◌, ℕ, Some}
use Rattle.std.specs.Prelude.{slice_get}
use Rattle.cbpf_code.specs.declared.insn.Insn.{Insn}
use Rattle.cbpf_machine.specs.Follow.{Knows, room_in}
use Rattle.cbpf_machine.specs.Machine.{machine_of}
use Rattle.cbpf_dbg.specs.Session.{WatchesTo}
use Rattle.cbpf_dbg.proofs.watching.watch.Given as goal

-- at the instructions that were seen the entries that are watched are the hits, and the codes are those of the program
abbrev pub invariant-scan : goal.invariant-scan
invariant-scan g l =
    record {
      watches : WatchesTo l.watched (machine_of l.p l.values) l.breakpoints.entries l.i;
      knows : (i : ℕ) (insn : Insn) → i < l.i → slice_get l.p i ≡ Some insn → Knows l.watched i insn;
      room : room_in l.watched ≡ room_in l.initial.watched;
    }
