use Rattle.std.proofs.Common.{◌≡◌, ◌+◌, ◌-◌, length}
use Rattle.cbpf_dbg.specs.Loaded.{machine_in, records_in}
use Rattle.cbpf_dbg.specs.Cursor.{AreLeft, Nears}
use Rattle.cbpf_dbg.proofs.step.skip_packets.Given as goal

abbrev pub invariant-skip : goal.invariant-skip
invariant-skip g l =
    record {
      nears : Nears (machine_in l.loaded) (records_in l.loaded) l.fn.cursor l.walk.cursor l.n l.ahead
          l.fn.meter l.meter;
      left : AreLeft (records_in l.loaded) l.walk.cursor.place l.walk.left;
      before : l.walk.cursor.place.step ≡ 0;
    }

abbrev pub decreases-skip : goal.decreases-skip
decreases-skip g l = length (records_in l.loaded) + 1 - l.walk.cursor.place.packet
