use Rattle.cbpf_syntax.proofs.Comments.{IsOpenTo}
use Rattle.cbpf_syntax.proofs.piece.close_len.Given as goal

abbrev pub invariant-loop-i : goal.invariant-loop-i
invariant-loop-i l = IsOpenTo l.body l.i l.star
