use Rattle.std.proofs.Common.{◌+◌, length}
use Rattle.cbpf_dbg.specs.Joined.{entries_after}
use Rattle.cbpf_dbg.specs.Cursor.{Nears, AreLeft}
use Rattle.cbpf_dbg.specs.Here.{Keeps}
use Rattle.cbpf_dbg.specs.Loaded.{machine_in, records_in}
use Rattle.cbpf_dbg.proofs.step.step_on.Given as goal

-- the entry that is sought is the one at this distance
abbrev pub invariant-go : goal.invariant-go
invariant-go g l =
    record {
      nears : Nears (machine_in l.loaded) (records_in l.loaded) l.fn.cursor l.cursor l.n l.ahead l.fn.meter l.meter;
      left : AreLeft (records_in l.loaded) l.cursor.place l.records;
      keeps : Keeps (λ xs. g.T.Trail.stands_for l.trail xs) (machine_in l.loaded) (records_in l.loaded) l.cursor.place;
    }

abbrev pub decreases-go : goal.decreases-go
decreases-go g l = length (entries_after (machine_in l.loaded) (records_in l.loaded) l.cursor.place) + length l.records
