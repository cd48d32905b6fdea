use Rattle.std.proofs.Common.{◌≡◌, ◌++◌, arith, refl, true, false}
use Rattle.cbpf_code.proofs.WrittenLemmas.{appended-nil}
use Rattle.cbpf_why.proofs.InRangeLemmas.{range-starts, range-goes, range-ends, range-fails}
use Rattle.cbpf_why.proofs.taking.take_range.Goals as goal

pub records-init : goal.records-init
records-init g c = record {
  few = c.requires.few;
  since = omega arith;
  up_to = λ h. absurd (omega (arith, h));
  going = λ records took few. range-starts c.args.question.now c.args.range.first records c.args.reader.now
      c.args.counted.now _ took few (appended-nil _);
}

pub records-preserved : goal.records-preserved
records-preserved g c =
    let before = c.records.invariant in
    let ready = c.take_ready.ensures in
    let was = c.requires.took in
    let first = ready.going _ was.0 _ _ (before.going was.0 was.1 was.2) in
    let is : c.in-Ok.has_more ≡ true = grind arith in
    let step = rw is at (c.in-Ok.ensures (was.0 ++ first.more) first.took) in
    record {
      few = step.few ready.few;
      since = omega (arith, before.since, ready.since, step.count);
      up_to = λ h. omega (arith, ready.within, step.count, step.is_one);
      going = λ records took few.
          let going = ready.going _ records _ _ (before.going records took few) in
          range-goes c.args.question.now c.args.range.first records c.args.reader.now
          c.take_ready.new.reader c.take_next.new.reader c.take_ready.new.counted c.take_next.new.counted _ _ _
          going (rw is at (c.in-Ok.ensures (records ++ going.more) going.took));
    }

pub returns-then-count-range : goal.returns-then-count-range
returns-then-count-range g c = λ records took few.
    let before = c.records.invariant in
    let ready = c.take_ready.ensures in
    record {
      going = ready.going _ records _ _ (before.going records took few);
      since = omega (arith, before.since, ready.since);
      up_to = λ h. ready.within;
      most = ready.few;
      ends = λ h. absurd (omega arith);
    }

pub returns-in-Err : goal.returns-in-Err
returns-in-Err g c = λ records took few.
    let before = c.records.invariant in
    let ready = c.take_ready.ensures in
    let going = ready.going _ records _ _ (before.going records took few) in
    range-fails c.args.question.now c.args.range records c.args.reader.now c.take_ready.new.reader
    c.take_next.new.reader c.take_ready.new.counted _ _ _ c.in-Err.fault going
    (omega (arith, ready.within)) (c.in-Err.ensures (records ++ going.more) going.took)

pub returns-then-not-has_more : goal.returns-then-not-has_more
returns-then-not-has_more g c = λ records took few.
    let before = c.records.invariant in
    let ready = c.take_ready.ensures in
    let going = ready.going _ records _ _ (before.going records took few) in
    let is : c.in-Ok.has_more ≡ false = grind arith in
    let step = rw is at (c.in-Ok.ensures (records ++ going.more) going.took) in
    range-ends c.args.question.now c.args.range records c.args.reader.now c.take_ready.new.reader
    c.take_next.new.reader c.take_ready.new.counted c.take_next.new.counted _ _ _ step.one
    going (omega (arith, before.since, ready.since)) ready.within ready.few
    step.is_one step.took step.count step.leaves (step.ends refl) step.wrote
