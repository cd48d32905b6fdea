use Rattle.std.proofs.Common.{[]}
use Rattle.cbpf_code.proofs.WrittenLemmas.{appended-nil, appended-kept, appended-then, part-then, part-take}
use Rattle.cbpf_why.proofs.ReadLemmas.{stepped_over, stepped_on, stepped_failed, stepped_end, stepped_unread, stepped_unheld, stepped_unflushed}
use Rattle.cbpf_why.proofs.taking.take_next.Goals as goal

pub returns-then-item-first : goal.returns-then-item-first
returns-then-item-first g c = λ records took.
    let h = rw (c.in-Ok-Some.is, c.in-Ok-Some.field-0-is) at c.next_record.follows.holds-at-none in
    stepped_over c.args.question.now c.args.first records c.args.reader.now _ c.args.counted.now _ _ c.in-Ok-Some.item
    h.0 h.1 c.if-item-first.true took
    (appended-kept _ _ _ [] (appended-nil _) c.flush_if_due.ensures.kept)

pub returns-in-Ok : goal.returns-in-Ok
returns-in-Ok g c = λ records took.
    let h = rw (c.in-Ok-Some.is, c.in-Ok-Some.field-0-is) at c.next_record.follows.holds-at-none in
    let kept = appended-kept _ _ _ [] (appended-nil _) c.flush_if_due.ensures.kept in
    stepped_on c.args.question.now c.args.first records c.args.reader.now _ c.take_packet.new.counted _ _ c.in-Ok-Some.item
    h.0 h.1 c.if-item-first.false (c.in-Ok.ensures.took records took)
    (appended-then _ _ _ [] _ kept c.in-Ok.ensures.wrote)

pub returns-in-Err : goal.returns-in-Err
returns-in-Err g c = λ records took.
    let h = rw (c.in-Ok-Some.is, c.in-Ok-Some.field-0-is) at c.next_record.follows.holds-at-none in
    let kept = appended-kept _ _ _ [] (appended-nil _) c.flush_if_due.ensures.kept in
    stepped_failed c.args.question.now c.args.first records c.args.reader.now _ c.args.counted.now _ _ c.in-Ok-Some.item
    h.0 h.1 c.if-item-first.false (part-then _ _ _ [] _ kept c.in-Err.ensures.wrote)

pub returns-in-Ok-None : goal.returns-in-Ok-None
returns-in-Ok-None g c = λ records took.
    let h = rw (c.in-Ok-None.is, c.in-Ok-None.field-0-is) at c.next_record.follows.holds-at-none in
    stepped_end c.args.question.now c.args.first c.args.reader.now _ _ _
    (appended-kept _ _ _ [] (appended-nil _) c.flush_if_due.ensures.kept) records c.args.counted.now h.0 h.1 took

pub returns-in-Err-Read : goal.returns-in-Err-Read
returns-in-Err-Read g c = λ records took.
    let h = rw (c.in-Err-Read.is, c.in-Err-Read.field-0-is) at c.next_record.follows.holds-at-none in
    stepped_unread c.args.question.now c.args.first c.args.reader.now _ _ _
    (appended-kept _ _ _ [] (appended-nil _) c.flush_if_due.ensures.kept) c.in-Err-Read.field-0-0 h.0 h.1

pub returns-in-Err-Memory : goal.returns-in-Err-Memory
returns-in-Err-Memory g c = λ records took.
    let h = rw (c.in-Err-Memory.is, c.in-Err-Memory.field-0-is) at c.next_record.follows.holds-at-none in
    stepped_unheld c.args.question.now c.args.first c.args.reader.now _ _ _
    (appended-kept _ _ _ [] (appended-nil _) c.flush_if_due.ensures.kept) h.0 h.1

pub returns-then-is_err : goal.returns-then-is_err
returns-then-is_err g c = λ records took.
    stepped_unflushed c.args.question.now c.args.first c.args.reader.now _ _
    (part-take _ _ 0 [] (appended-kept _ _ _ [] (appended-nil _) c.flush_if_due.ensures.kept))
