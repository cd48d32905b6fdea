use Rattle.std.proofs.Common.{◌∙◌, ap, length}
use Rattle.std.specs.Prelude.{decimal}
use Rattle.cbpf_machine.specs.Choices.{runs_at}
use Rattle.cbpf_machine.specs.declared.tally.Runs.{Runs}
use Rattle.cbpf_why.specs.Columns.{longest}
use Rattle.cbpf_why.specs.Coverage.{coverage_at, coverage_line, coverage_text, widest}
use Rattle.cbpf_why.specs.Question.{machine_in}
use Rattle.cbpf_why.proofs.TextLemmas.{texts-same}
use Rattle.cbpf_why.proofs.reporting.write_counted_coverage.Goals as goal

pub returns : goal.returns
unfolding coverage_text
returns g c = λ records tallies.
    let m = machine_in c.args.question.now in
    let runs = c.args.counted.now.tally.runs in
    let line = coverage_line m.list (longest m.list) in
    rw (texts-same (λ i. line (length (decimal (runs_at runs 0).executed)) i (runs_at runs i).executed (runs_at runs i).taken)
    (coverage_at m records)
    (λ i.
    ap (λ (r : Runs). line (length (decimal r.executed)) i (runs_at runs i).executed (runs_at runs i).taken) (tallies.runs 0)
    ∙ ap (λ (r : Runs). line (widest m records) i r.executed r.taken) (tallies.runs i)) 0 (length m.list))
    at (rw c.runs.ensures at c.write_coverage.ensures)
