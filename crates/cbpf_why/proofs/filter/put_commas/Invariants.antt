use Rattle.std.proofs.Common.{◌≡◌, ◌++◌, take, drop, map}
use Rattle.cbpf_why.specs.Filters.{with_comma}
use Rattle.cbpf_why.proofs.filter.put_commas.Given as goal

abbrev pub invariant-loop-i : goal.invariant-loop-i
invariant-loop-i l = l.text ≡ map with_comma (take l.i l.fn.text) ++ drop l.i l.fn.text
