use Rattle.std.proofs.Common.{◌≡◌, ◌<◌, arith, length, take, get_or, rules, Err}
use Rattle.std.proofs.lemmas.List.Elements.{All-more}
use Rattle.std.proofs.lemmas.Option.{slice_get-get_or}
use Rattle.cbpf_code.proofs.WrittenLemmas.{appended-nil}
use Rattle.cbpf_why.proofs.RangeLemmas.{EndsBy, all-ended, asks-end, asks-no-end, broke-more, ends-later, is-over, went-more, went-nothing}
use Rattle.cbpf_why.proofs.taking.take_packets.Goals as goal

pub loop-range-init : goal.loop-range-init
loop-range-init g c = record {
  few = omega (arith, c.requires.count);
  went = went-nothing c.args.question.now c.args.reader.now c.args.counted.now _ c.requires.took c.requires.count (appended-nil _);
  ended = λ k d l. absurd (omega (arith, l));
}

pub loop-range-preserved : goal.loop-range-preserved
loop-range-preserved g c =
    let before = c.loop-range.invariant in
    let ranges = c.args.question.now.packets.now in
    let i = c.loop-range.range-index in
    let inside : i < length ranges = c.loop-range-test.true in
    let ranged = c.in_ok-take_range.ensures before.went.records before.went.took before.went.few in
    record {
      few = ranged.most;
      went = went-more c.args.question.now i _ c.args.reader.now c.loop-range.reader
          c.take_range.new.reader c.loop-range.counted c.take_range.new.counted _ _ _ c.args.question.now.sorted
          (slice_get-get_or ranges i (record { first = 0; last = 0 }) inside) before.ended before.went ranged;
      ended = All-more (EndsBy c.take_range.new.reader.count) ranges i (record { first = 0; last = 0 }) inside
          (ends-later c.loop-range.reader.count c.take_range.new.reader.count (take i ranges) before.ended ranged.since)
          (omega arith);
    }

pub returns-then-count-range : goal.returns-then-count-range
returns-then-count-range g c =
    let before = c.loop-range.invariant in
    let ranges = c.args.question.now.packets.now in
    let i = c.loop-range.range-index in
    let inside : i < length ranges = c.loop-range-test.true in
    let at = slice_get-get_or ranges i (record { first = 0; last = 0 }) inside in
    let ranged = c.in_ok-take_range.ensures before.went.records before.went.took before.went.few in
    let went = went-more c.args.question.now i _ c.args.reader.now c.loop-range.reader
    c.take_range.new.reader c.loop-range.counted c.take_range.new.counted _ _ _ c.args.question.now.sorted
    at before.ended before.went ranged in (
      went,
      record {
        asked = asks-end ranges i (get_or ranges i (record { first = 0; last = 0 })) c.take_range.new.reader.count at
            (omega arith);
        over = λ e. is-over c.args.question.now c.args.reader.now c.loop-range.reader c.take_range.new.reader
            c.loop-range.counted _ _ before.went (ranged.ends (omega arith));
      },
    )

pub returns : goal.returns
returns g c =
    let before = c.loop-range.invariant in (
      before.went,
      record {
        asked = asks-no-end c.args.question.now.packets.now c.loop-range.reader.count
            (all-ended _ _ _ c.loop-range-test.false before.ended);
        over = λ e. absurd cc;
      },
    )

pub returns-in_err-take_range : goal.returns-in_err-take_range
returns-in_err-take_range g c =
    let before = c.loop-range.invariant in
    let ranges = c.args.question.now.packets.now in
    let i = c.loop-range.range-index in
    let inside : i < length ranges = c.loop-range-test.true in
    let at = slice_get-get_or ranges i (record { first = 0; last = 0 }) inside in
    let faulted = c.in_err-take_range.ensures before.went.records before.went.took before.went.few in
    let is : c.from_residual.result ≡ Err c.in_err-take_range.field-0.0 = search rules in
    rw is (broke-more c.args.question.now i _ c.args.reader.now c.loop-range.reader
    c.take_range.new.reader c.loop-range.counted c.loop-range.counted _ _ _ c.args.question.now.sorted at before.ended before.went
    c.in_err-take_range.field-0.0 faulted)
