use Rattle.std.proofs.Common.{◌≡◌, drop}
use Rattle.cbpf_tool.specs.Remarks.{lacks_any}
use Rattle.cbpf_tool.proofs.remarks.lacks_any.Given as goal

abbrev pub invariant-loop-range : goal.invariant-loop-range
invariant-loop-range l = lacks_any l.ranges l.count ≡ lacks_any (drop l.range-index l.ranges) l.count
