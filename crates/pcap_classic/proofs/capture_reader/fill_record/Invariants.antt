use Rattle.std.proofs.Common.{◌≡◌, ◌-◌, ◌^◌, length}
use Rattle.std.specs.Io.KnownBytes.{Keeps, prepend_known}
use Rattle.pcap_classic.proofs.capture_reader.fill_record.Given as goal

abbrev pub invariant-reads : goal.invariant-reads
invariant-reads g l =
    Keeps (prepend_known l.fn.window.bytes (g.R.Read.remaining l.fn.reader))
    (prepend_known l.window.bytes (g.R.Read.remaining l.reader)) × (l.window.offset ≡ l.fn.window.offset)

abbrev pub decreases-reads : goal.decreases-reads
decreases-reads g l = 2 ^ 64 - length l.window.bytes
