use Rattle.std.proofs.Common.{◌<◌, length, arith}
use Rattle.std.specs.Prelude.{decimal}
use Rattle.cbpf_code.proofs.SoundLemmas.{sound_some}
use Rattle.cbpf_code.proofs.WrittenLemmas.{appended-nil, err-exit}
use Rattle.cbpf_machine.specs.Choices.{runs_at}
use Rattle.cbpf_why.specs.Columns.{longest}
use Rattle.cbpf_why.specs.Coverage.{coverage_line}
use Rattle.cbpf_why.proofs.TextLemmas.{texts-next, texts-stop}
use Rattle.cbpf_why.proofs.coverage.write_coverage.Goals as goal

pub loop-i-init : goal.loop-i-init
loop-i-init g c = appended-nil _

pub loop-i-preserved : goal.loop-i-preserved
loop-i-preserved g c =
    texts-next (λ i. coverage_line c.args.p.now (longest c.args.p.now) (length (decimal (runs_at c.args.runs.now 0).executed)) i
    (runs_at c.args.runs.now i).executed (runs_at c.args.runs.now i).taken)
    c.loop-i.i _ _ _ c.loop-i.invariant
    (rw (c.longest-long.ensures.0, c.digits_of-wide.ensures.value) at c.in_ok-write_coverage_line.ensures)

pub returns-in_err-write_coverage_line : goal.returns-in_err-write_coverage_line
returns-in_err-write_coverage_line g c =
    let below : c.loop-i.i < length c.args.p.now = omega (arith, c.loop-i-test.true, c.len-i-end.ensures.value) in
    err-exit _ _ _ _ c.from_residual.ensures.0
    (texts-stop (λ i. coverage_line c.args.p.now (longest c.args.p.now) (length (decimal (runs_at c.args.runs.now 0).executed)) i
    (runs_at c.args.runs.now i).executed (runs_at c.args.runs.now i).taken)
    c.loop-i.i (length c.args.p.now) _ _ _ below c.loop-i.invariant
    (rw (c.longest-long.ensures.0, c.digits_of-wide.ensures.value) at c.in_err-write_coverage_line.ensures))

pub bounds-runs-0 : goal.bounds-runs-0
bounds-runs-0 g c = let some = sound_some c.args.p.now c.len-sound.ensures.sound in omega (arith, some, c.requires)
