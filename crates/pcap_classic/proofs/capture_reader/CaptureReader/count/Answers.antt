use Rattle.std.proofs.Common.{◌+◌}
use Rattle.pcap_classic.proofs.ReadingLemmas.{left-numbered}
use Rattle.pcap_classic.proofs.capture_reader.CaptureReader.count.Goals as goal

pub returns-clause-numbered : goal.returns-clause-numbered
returns-clause-numbered g c =
    let w = c.self.inside in rw (← c.self.view_is) (left-numbered w.header w.count (w.window.offset + w.last) _)
