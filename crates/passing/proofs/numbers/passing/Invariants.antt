use Rattle.std.proofs.Common.{◌≡◌, ◌++◌}
use Rattle.cbpf_machine.specs.Machine.{machine_of}
use Rattle.cbpf_machine.specs.Values.{no_values}
use Rattle.passing.specs.Passing as spec
use Rattle.passing.proofs.numbers.passing.Given as goal

abbrev pub invariant-loop-record : goal.invariant-loop-record
invariant-loop-record g l =
    l.numbers.items ++ spec.passing (machine_of l.fn.program no_values) l.record-iterator
    ≡ spec.passing (machine_of l.fn.program no_values) l.fn.capture.records
