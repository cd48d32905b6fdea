use Rattle.std.proofs.Common.{length}
use Rattle.std.specs.Prelude.{decimal}
use Rattle.cbpf_code.specs.Writing.{Appended}
use Rattle.cbpf_reply.specs.Packet.{texts_from}
use Rattle.cbpf_machine.specs.Choices.{runs_at}
use Rattle.cbpf_why.specs.Columns.{longest}
use Rattle.cbpf_why.specs.Coverage.{coverage_line}
use Rattle.cbpf_why.proofs.coverage.write_coverage.Given as goal

abbrev pub invariant-loop-i : goal.invariant-loop-i
invariant-loop-i g l = Appended (g.W.Write.contents l.fn.w) (g.W.Write.contents l.w)
    (texts_from (λ i. coverage_line l.p (longest l.p) (length (decimal (runs_at l.runs 0).executed)) i
    (runs_at l.runs i).executed (runs_at l.runs i).taken) 0 l.i)
