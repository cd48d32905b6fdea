use Rattle.std.proofs.Common.{◌++◌, List}
use Rattle.std.specs.Prelude.{replicate}
use Rattle.cbpf_machine.specs.Registers.{Registers}
use Rattle.cbpf_machine.proofs.trail.Trail.keep.Given as goal

-- the state was added so often to each list that the trail stood for
abbrev pub invariant-each : goal.invariant-each
invariant-each g l = (xs : List Registers) → g.Self.Trail.stands_for l.fn.self xs
    → g.Self.Trail.stands_for l.self (xs ++ replicate l.i l.s)
