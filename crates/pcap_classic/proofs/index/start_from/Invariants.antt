use Rattle.pcap_classic.specs.Index.{IsRecordStart}
use Rattle.pcap_classic.proofs.index.start_from.Given as goal

abbrev pub invariant-records : goal.invariant-records
invariant-records l = IsRecordStart l.order l.file l._i l.offset
