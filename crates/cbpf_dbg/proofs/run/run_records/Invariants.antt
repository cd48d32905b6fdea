use Rattle.std.proofs.Common.{false, length}
use Rattle.cbpf_dbg.specs.Going.{GoesOn}
use Rattle.cbpf_dbg.proofs.run.run_records.Given as goal

abbrev pub invariant-go : goal.invariant-go
invariant-go g l =
    GoesOn l.loaded (λ s. g.P.Pause.pauses l.pause s) l.fn.walk l.walk l.fn.meter l.meter false

abbrev pub decreases-go : goal.decreases-go
decreases-go g l = length l.walk.left
