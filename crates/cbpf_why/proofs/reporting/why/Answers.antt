use Rattle.std.proofs.Common.{◌≡◌, ap, refl, rules, Err, Ok}
use Rattle.cbpf_why.specs.Question.{machine_in}
use Rattle.cbpf_why.proofs.CountedLemmas.{took-nothing}
use Rattle.cbpf_why.proofs.ReportLemmas.{broke, complete, left_after, unclosed, unflushed, unstarted, within_after}
use Rattle.cbpf_why.proofs.reporting.why.Goals as goal

pub take_packets-requires-clause-took : goal.take_packets-requires-clause-took
take_packets-requires-clause-took g c =
    took-nothing c.args.question.now _ c.in-Ok.ensures.groups (c.in-Ok.ensures.tally (machine_in c.args.question.now) refl)
    c.in-Ok.ensures.longest

pub returns-in_default-clause-reported : goal.returns-in_default-clause-reported
returns-in_default-clause-reported g c =
    unstarted c.args.question.now.report c.args.question.now.packets.now (machine_in c.args.question.now)
    c.args.reader.now.left _ _ c.requires.count

pub returns-in_err-is_over-clause-reported : goal.returns-in_err-is_over-clause-reported
returns-in_err-is_over-clause-reported g c =
    let is : c.from_residual.result ≡ Err c.in_err-is_over.field-0.0 = search rules in
    rw is (broke c.args.question.now c.args.reader.now.left c.take_packets.new.reader _ _ c.in_err-is_over.field-0.0
    c.in_err-is_over.ensures)

pub returns-in_err-write_closing-clause-reported : goal.returns-in_err-write_closing-clause-reported
returns-in_err-write_closing-clause-reported g c =
    let is : c.from_residual-in_err-write_closing.result ≡ Err c.in_err-write_closing.field-0.0 = search rules in
    let went = c.in_ok-is_over.ensures.0 in
    rw is (unclosed c.args.question.now c.args.reader.now c.take_packets.new.reader c.take_packets.new.counted _ _ _
    c.in_ok-is_over.is_over _ went c.in_ok-is_over.ensures.1 c.end_read-end.ensures.numbered c.end_read-end.ensures.end
    c.in_err-write_closing.field-0.0 (c.in_err-write_closing.ensures.wrote went.records went.took)
    (λ is. c.in_err-write_closing.ensures.room (ap Err is)))

pub returns-then-is_err-clause-reported : goal.returns-then-is_err-clause-reported
returns-then-is_err-clause-reported g c =
    let went = c.in_ok-is_over.ensures.0 in
    unflushed c.args.question.now c.args.reader.now c.take_packets.new.reader c.take_packets.new.counted _ _ _
    c.in_ok-is_over.is_over _ went c.in_ok-is_over.ensures.1 c.end_read-end.ensures.numbered c.end_read-end.ensures.end
    _ (c.in_ok-write_closing.ensures.wrote went.records went.took) c.flush.ensures.bytes

pub returns-clause-reported : goal.returns-clause-reported
returns-clause-reported g c =
    let went = c.in_ok-is_over.ensures.0 in
    complete c.args.question.now c.args.reader.now c.take_packets.new.reader c.take_packets.new.counted _ _ _
    c.in_ok-is_over.is_over _ went c.in_ok-is_over.ensures.1 c.end_read-end.ensures.numbered c.end_read-end.ensures.end
    _ (c.in_ok-write_closing.ensures.wrote went.records went.took) c.flush.ensures.bytes

pub returns-in_err-is_over-clause-left : goal.returns-in_err-is_over-clause-left
returns-in_err-is_over-clause-left g c =
    left_after c.args.question.now c.args.reader.now c.take_packets.new.reader c.take_packets.new.counted _ _ (Err c.in_err-is_over.field-0.0) c.in_err-is_over.ensures

pub returns-in_err-write_closing-clause-left : goal.returns-in_err-write_closing-clause-left
returns-in_err-write_closing-clause-left g c =
    left_after c.args.question.now c.args.reader.now c.take_packets.new.reader c.take_packets.new.counted _ _ (Ok c.in_ok-is_over.is_over) c.in_ok-is_over.ensures

pub returns-then-is_err-clause-left : goal.returns-then-is_err-clause-left
returns-then-is_err-clause-left g c =
    left_after c.args.question.now c.args.reader.now c.take_packets.new.reader c.take_packets.new.counted _ _ (Ok c.in_ok-is_over.is_over) c.in_ok-is_over.ensures

pub returns-clause-left : goal.returns-clause-left
returns-clause-left g c =
    left_after c.args.question.now c.args.reader.now c.take_packets.new.reader c.take_packets.new.counted _ _ (Ok c.in_ok-is_over.is_over) c.in_ok-is_over.ensures

pub returns-in_err-is_over-clause-within : goal.returns-in_err-is_over-clause-within
returns-in_err-is_over-clause-within g c =
    within_after c.args.question.now c.args.reader.now c.take_packets.new.reader c.take_packets.new.counted _ _ (Err c.in_err-is_over.field-0.0) c.in_err-is_over.ensures

pub returns-in_err-write_closing-clause-within : goal.returns-in_err-write_closing-clause-within
returns-in_err-write_closing-clause-within g c =
    within_after c.args.question.now c.args.reader.now c.take_packets.new.reader c.take_packets.new.counted _ _ (Ok c.in_ok-is_over.is_over) c.in_ok-is_over.ensures

pub returns-then-is_err-clause-within : goal.returns-then-is_err-clause-within
returns-then-is_err-clause-within g c =
    within_after c.args.question.now c.args.reader.now c.take_packets.new.reader c.take_packets.new.counted _ _ (Ok c.in_ok-is_over.is_over) c.in_ok-is_over.ensures

pub returns-clause-within : goal.returns-clause-within
returns-clause-within g c =
    within_after c.args.question.now c.args.reader.now c.take_packets.new.reader c.take_packets.new.counted _ _ (Ok c.in_ok-is_over.is_over) c.in_ok-is_over.ensures
