use Rattle.std.proofs.Common.{◌∙◌}
use Rattle.cbpf_machine.specs.OnPacket.{OnPacket}
use Rattle.pcap_classic.specs.Lent.{record_of}
use Rattle.cbpf_why.specs.Question.{machine_in}
use Rattle.cbpf_why.proofs.CountedLemmas.{ended-is, tallies-more}
use Rattle.cbpf_why.proofs.StepLemmas.{last_inside}
use Rattle.cbpf_why.proofs.gathered.count_packet.Goals as goal

pub returns-clause-ended : goal.returns-clause-ended
returns-clause-ended g c =
    c.of.ensures ∙ ended-is (machine_in c.args.question.now) (record_of c.args.item.now)
    c.count_packet-end.result.last c.count_packet-end.result.reason
    (rw c.task_of-task.ensures at c.count_packet-end.ensures.last) (rw c.task_of-task.ensures at c.count_packet-end.ensures.reason)

pub returns-clause-inside : goal.returns-clause-inside
returns-clause-inside g c =
    let task : OnPacket = record {
      machine = machine_in c.args.question.now;
      bytes = c.args.item.now.bytes.now;
      wire = c.args.item.now.wire;
    } in
    rw (c.of.ensures, c.count_packet-end.ensures.last, c.task_of-task.ensures) (last_inside task c.len-sound.ensures.sound)

pub returns-clause-tallies : goal.returns-clause-tallies
returns-clause-tallies g c = λ records had.
    tallies-more _ _ (machine_in c.args.question.now) records (record_of c.args.item.now) had
    c.count_packet-end.ensures.packets c.count_packet-end.ensures.long
    (rw c.task_of-task.ensures at c.count_packet-end.ensures.executed) (rw c.task_of-task.ensures at c.count_packet-end.ensures.taken)
