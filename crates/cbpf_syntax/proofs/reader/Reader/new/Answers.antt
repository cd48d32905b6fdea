use Rattle.std.proofs.Common.{rules, [], refl, arith}
use Rattle.cbpf_syntax.proofs.Taking.{ahead_none}
use Rattle.cbpf_syntax.proofs.reader.Reader.new.Goals as goal

pub invariant_of-result : goal.invariant_of-result
invariant_of-result g c = rw (c.new.ensures, c.new-2.ensures.items) (omega arith, refl, omega arith, ([], search (rules, ahead_none)))
