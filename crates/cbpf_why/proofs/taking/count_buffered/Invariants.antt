use Rattle.std.proofs.Common.{◌-◌, ◌<◌, ◌≤◌, ◌^◌}
use Rattle.cbpf_why.specs.Taking.{KeepsGoing}
use Rattle.cbpf_why.proofs.taking.count_buffered.Given as goal

abbrev pub invariant-records : goal.invariant-records
invariant-records g l = record {
  few : l.reader.count < 2 ^ 60;
  since : l.fn.reader.count ≤ l.reader.count;
  within : l.reader.count ≤ l.range.last;
  going : KeepsGoing l.question l.range.first l.fn.reader l.reader l.fn.counted l.counted;
}

abbrev pub decreases-records : goal.decreases-records
decreases-records g l = l.range.last - l.reader.count
