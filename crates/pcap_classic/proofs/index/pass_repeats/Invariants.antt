use Rattle.std.proofs.Common.{◌-◌, ◌≤◌, length}
use Rattle.pcap_classic.specs.Index.{ArePassed}
use Rattle.pcap_classic.proofs.index.pass_repeats.Given as goal

abbrev pub invariant-repeats : goal.invariant-repeats
invariant-repeats g l =
    record {
      passed : ArePassed l.order l.file l.passed.count l.passed.starts.items l.passed.offset;
      on : l.initial.passed.offset ≤ l.passed.offset;
    }

abbrev pub decreases-repeats : goal.decreases-repeats
decreases-repeats g l = length l.file - l.passed.offset
