-- The record that a value borrows from a capture.
use Rattle.pcap_classic.specs.Records.{Record}
use Rattle.pcap_classic.specs.declared.captured.Captured.{Captured}

-- the record that is lent
abbrev pub record_of : Captured → Record
record_of c =
    record {
      number = c.number;
      start = c.start;
      seconds = c.seconds;
      fraction = c.fraction;
      wire = c.wire;
      bytes = c.bytes.now;
    }
