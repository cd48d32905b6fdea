use Rattle.std.proofs.Common.{length, ◌-◌, ◌≤◌, take}
use Rattle.cbpf_code.specs.Writing.{Appended}
use Rattle.cbpf_code.proofs.writing.write_rest.Given as goal

abbrev pub invariant-loop-at : goal.invariant-loop-at
invariant-loop-at g l = record {
  within : l.at ≤ length l.text;
  so_far : Appended (g.W.Write.contents l.initial.w) (g.W.Write.contents l.w) (take l.at l.text);
}

abbrev pub decreases-loop-at : goal.decreases-loop-at
decreases-loop-at g l = length l.text - l.at
