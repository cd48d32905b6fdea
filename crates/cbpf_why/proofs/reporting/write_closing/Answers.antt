use Rattle.std.proofs.Common.{refl}
use Rattle.cbpf_code.proofs.WrittenLemmas.{appended-nil}
use Rattle.cbpf_why.proofs.CountedLemmas.{graph_counted, kept-summary, runs_counted, summary_counted}
use Rattle.cbpf_why.proofs.LawLemmas.{totals-are}
use Rattle.cbpf_why.specs.Question.{machine_in}
use Rattle.cbpf_why.proofs.InRangeLemmas.{closed_by}
use Rattle.cbpf_why.proofs.reporting.write_closing.Goals as goal

pub returns-in-Traces-clause-wrote : goal.returns-in-Traces-clause-wrote
returns-in-Traces-clause-wrote g c = λ records took. rw c.in-Traces.is (appended-nil _)

pub returns-in-Packets-clause-wrote : goal.returns-in-Packets-clause-wrote
returns-in-Packets-clause-wrote g c = λ records took. rw c.in-Packets.is (appended-nil _)

pub returns-in-Summary-clause-wrote : goal.returns-in-Summary-clause-wrote
returns-in-Summary-clause-wrote g c = λ records took. rw c.in-Summary.is
    (closed_by c.write_summary.result c.written.result _ _ _ c.written.ensures
    (rw (kept-summary (machine_in c.args.question.now) records, totals-are (machine_in c.args.question.now) records) at
    (c.write_summary.ensures _ (summary_counted c.args.question.now c.args.counted.now records c.in-Summary.is took))))

pub returns-in-Graph-clause-wrote : goal.returns-in-Graph-clause-wrote
returns-in-Graph-clause-wrote g c = λ records took. rw c.in-Graph.is
    (c.write_counted_graph.ensures records (graph_counted c.args.question.now c.args.counted.now records c.in-Graph.is took)
    (runs_counted c.args.question.now c.args.counted.now records (rw c.in-Graph.is refl) took))
