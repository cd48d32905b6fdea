use Rattle.std.proofs.Common.{◌<◌, ◌^◌, take}
use Rattle.std.specs.List.{All}
use Rattle.cbpf_why.specs.Taking.{Went}
use Rattle.cbpf_why.proofs.RangeLemmas.{EndsBy}
use Rattle.cbpf_why.proofs.taking.take_packets.Given as goal

abbrev pub invariant-loop-range : goal.invariant-loop-range
invariant-loop-range g l = record {
  few : l.reader.count < 2 ^ 60;
  went : Went l.question l.fn.reader l.reader l.counted (g.W.Write.contents l.fn.w) (g.W.Write.contents l.w);
  ended : All (EndsBy l.reader.count) (take l.range-index l.question.packets.now);
}
