use Rattle.std.proofs.Common.{rules}
use Rattle.pcap_classic.proofs.ReachLemmas.{start_is}
use Rattle.pcap_classic.proofs.capture.Capture.item_at.Goals as goal

pub file_record-requires-clause-there : goal.file_record-requires-clause-there
file_record-requires-clause-there g c =
    let there = rw (← c.self.view_is) at c.requires.there in
    rw c.as_slice.ensures.value (start_is _ _ _ _ c.self.invariant.1.long c.requires.from_one
    (rw (← c.self.view_is) at c.requires.within) there)

pub returns-clause-number : goal.returns-clause-number
returns-clause-number g c = search rules
