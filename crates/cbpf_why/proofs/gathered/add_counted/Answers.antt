use Rattle.std.proofs.Common.{length, arith}
use Rattle.pcap_classic.specs.Lent.{record_of}
use Rattle.cbpf_why.specs.Taking.{kept_ends}
use Rattle.cbpf_why.specs.Question.{machine_in}
use Rattle.cbpf_why.proofs.CountedLemmas.{took-both, groups_counted, runs_counted, length-kept}
use Rattle.cbpf_why.proofs.gathered.add_counted.Goals as goal

pub count_packet-ended-requires-clause-long : goal.count_packet-ended-requires-clause-long
count_packet-ended-requires-clause-long g c =
    (runs_counted c.args.question.now c.args.counted.now c.requires.took.0 c.requires.counts.1 c.requires.took.1).long

pub count_packet-ended-requires-clause-few : goal.count_packet-ended-requires-clause-few
count_packet-ended-requires-clause-few g c =
    let runs = runs_counted c.args.question.now c.args.counted.now c.requires.took.0 c.requires.counts.1 c.requires.took.1 in
    omega (arith, runs.packets, c.requires.took.2)

pub add-requires : goal.add-requires
add-requires g c =
    let records = c.requires.took.0 in
    let few = length-kept c.args.question.now.report (machine_in c.args.question.now) records in (
      length c.args.question.now.program.now,
      kept_ends c.args.question.now.report (machine_in c.args.question.now) records,
      groups_counted c.args.question.now c.args.counted.now records c.requires.counts.0 c.requires.took.1,
      omega (arith, few, c.requires.took.2),
      record { pc = c.count_packet-ended.ensures.inside; by = tt },
    )

pub returns : goal.returns
returns g c = λ records took.
    took-both c.args.question.now _ records (record_of c.args.item.now) c.requires.counts.0 c.requires.counts.1
    (rw c.count_packet-ended.ensures.ended at (c.add.ensures _ _
    (groups_counted c.args.question.now c.args.counted.now records c.requires.counts.0 took)
    (record { pc = c.count_packet-ended.ensures.inside; by = tt })))
    (c.count_packet-ended.ensures.tallies records
    (runs_counted c.args.question.now c.args.counted.now records c.requires.counts.1 took)) took.longest
