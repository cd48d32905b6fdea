use Rattle.std.proofs.Common.{◌-◌, length}
use Rattle.pcap_classic.specs.Index.{ArePassed}
use Rattle.pcap_classic.proofs.index.index_of.Given as goal

abbrev pub invariant-lengths : goal.invariant-lengths
invariant-lengths g l = ArePassed l.order l.file l.passed.count l.passed.starts.items l.passed.offset

abbrev pub decreases-lengths : goal.decreases-lengths
decreases-lengths g l = length l.file - l.passed.offset
