use Rattle.std.proofs.Common.{take}
use Rattle.std.specs.List.{All}
use Rattle.cbpf_code.proofs.FaultLemmas.{PassesBefore}
use Rattle.cbpf_code.specs.WordForm.{InRange}
use Rattle.cbpf_code.proofs.checker.first_fault.Given as goal

-- no instruction so far gives a refusal by itself
abbrev pub invariant-loop-i : goal.invariant-loop-i
invariant-loop-i l = record { passes : PassesBefore l.list l.i; ranges : All InRange (take l.i l.list) }
