use Rattle.std.proofs.Common.{◌≡◌, ◌-◌, ◌≤◌, length}
use Rattle.cbpf_code.specs.WordTokens.{tokens_from}
use Rattle.cbpf_code.proofs.scan.skip_blanks.Given as goal

abbrev pub invariant-loop-i : goal.invariant-loop-i
invariant-loop-i l = record {
  from : l.at ≤ l.i;
  within : l.i ≤ length l.text;
  same : tokens_from l.text l.i ≡ tokens_from l.text l.at;
}

abbrev pub decreases-loop-i : goal.decreases-loop-i
decreases-loop-i l = length l.text - l.i
