use Rattle.std.proofs.Common.{◌<◌, ◌∙◌, length}
use Rattle.std.specs.Prelude.{IfSome}
use Rattle.cbpf_machine.specs.declared.follow.Choice.{Choice}
use Rattle.cbpf_machine.specs.OnPacket.{OnPacket}
use Rattle.pcap_classic.specs.Lent.{record_of}
use Rattle.cbpf_why.specs.Question.{machine_in}
use Rattle.cbpf_why.proofs.CountedLemmas.{decided-is, ended-is}
use Rattle.cbpf_why.proofs.StepLemmas.{choice_inside, deciding_inside, last_inside}
use Rattle.cbpf_why.proofs.gathered.end_of.Goals as goal

pub returns-clause-decided : goal.returns-clause-decided
returns-clause-decided g c =
    let m = machine_in c.args.question.now in
    let r = record_of c.args.item.now in
    let ended = c.of.ensures ∙ ended-is m r c.decided_end-decided.result.end.last c.decided_end-decided.result.end.reason
    (rw c.task_of-task.ensures at c.decided_end-decided.ensures.last)
    (rw c.task_of-task.ensures at c.decided_end-decided.ensures.reason) in
    c.of-2.ensures ∙ decided-is m r c.of.result c.decided_end-decided.result.choice ended
    (rw c.task_of-task.ensures at c.decided_end-decided.ensures.choice)

pub returns-clause-inside : goal.returns-clause-inside
returns-clause-inside g c =
    let task : OnPacket = record {
      machine = machine_in c.args.question.now;
      bytes = c.args.item.now.bytes.now;
      wire = c.args.item.now.wire;
    } in
    let pc : c.of.result.pc < length c.args.question.now.program.now =
    rw (c.of.ensures, c.decided_end-decided.ensures.last, c.task_of-task.ensures) (last_inside task c.len-sound.ensures.sound) in
    let choice : IfSome c.decided_end-decided.result.choice (λ o. o.pc < length c.args.question.now.program.now) =
    rw (c.decided_end-decided.ensures.choice, c.task_of-task.ensures) (choice_inside task c.len-sound.ensures.sound) in
    rw c.of-2.ensures (record {
      pc = pc;
      by = deciding_inside (λ (o : Choice). o.pc < length c.args.question.now.program.now) c.of.result.reason
          c.decided_end-decided.result.choice choice;
    })
