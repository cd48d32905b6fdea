use Rattle.std.proofs.Common.{◌-◌, ◌<◌, ◌≤◌, ◌^◌, List, length}
use Rattle.pcap_classic.specs.Records.{Record}
use Rattle.cbpf_why.specs.Taking.{Going, HasGathered}
use Rattle.cbpf_why.proofs.taking.take_range.Given as goal

abbrev pub invariant-records : goal.invariant-records
invariant-records g l = record {
  few : l.reader.count < 2 ^ 60;
  since : l.fn.reader.count ≤ l.reader.count;
  up_to : l.fn.reader.count < l.reader.count → l.reader.count ≤ l.range.last;
  going : (records : List Record) → HasGathered l.question l.fn.counted records → length records ≤ l.fn.reader.count
      → Going l.question l.range.first records l.fn.reader l.reader l.counted
      (g.W.Write.contents l.fn.w) (g.W.Write.contents l.w);
}

abbrev pub decreases-records : goal.decreases-records
decreases-records g l = l.range.last - l.reader.count
