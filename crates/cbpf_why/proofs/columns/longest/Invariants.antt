use Rattle.std.proofs.Common.{◌≡◌, ◌≤◌}
use Rattle.cbpf_why.specs.Columns.{longest_of}
use Rattle.cbpf_why.proofs.columns.longest.Given as goal

abbrev pub invariant-loop-i : goal.invariant-loop-i
invariant-loop-i g l = record { value : l.longest ≡ longest_of l.p l.i; few : l.longest ≤ 77 }
