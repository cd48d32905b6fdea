use Rattle.std.proofs.Common.{refl, length, arith}
use Rattle.pcap_classic.specs.Lent.{record_of}
use Rattle.cbpf_why.specs.Taking.{kept_ends}
use Rattle.cbpf_why.specs.declared.report.Report.TheVariants.{Summary}
use Rattle.cbpf_why.specs.Question.{machine_in}
use Rattle.cbpf_why.proofs.CountedLemmas.{took-groups, summary_counted, length-kept}
use Rattle.cbpf_why.proofs.gathered.add_ended.Goals as goal

pub add-requires : goal.add-requires
add-requires g c =
    let records = c.requires.took.0 in
    let few = length-kept Summary (machine_in c.args.question.now) records in (
      length c.args.question.now.program.now,
      kept_ends Summary (machine_in c.args.question.now) records,
      summary_counted c.args.question.now c.args.counted.now records c.requires.summary c.requires.took.1,
      omega (arith, few, c.requires.took.2),
      c.end_of.ensures.inside,
    )

pub returns : goal.returns
returns g c = λ records took.
    took-groups c.args.question.now c.args.counted.now _ records (record_of c.args.item.now) c.requires.summary took refl refl
    (rw c.end_of.ensures.decided at (c.add.ensures _ _
    (summary_counted c.args.question.now c.args.counted.now records c.requires.summary took) c.end_of.ensures.inside))
