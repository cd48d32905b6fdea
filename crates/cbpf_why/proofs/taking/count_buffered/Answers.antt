use Rattle.std.proofs.Common.{◌≤◌, ◌++◌, arith, None}
use Rattle.cbpf_code.proofs.WrittenLemmas.{appended-nil}
use Rattle.cbpf_why.proofs.InRangeLemmas.{range-goes, range-starts}
use Rattle.cbpf_why.proofs.ReadLemmas.{stepped_on}
use Rattle.cbpf_why.proofs.taking.count_buffered.Goals as goal

pub add_ended-requires-clause-took : goal.add_ended-requires-clause-took
add_ended-requires-clause-took g c =
    let before = c.records.invariant in
    let was = c.requires.took in
    let going = before.going c.args.reader.now was.0 None None
    (range-starts c.args.question.now c.args.range.first was.0 c.args.reader.now c.args.counted.now None
    was.1 was.2 (appended-nil None)) in
    (was.0 ++ going.more, going.took, omega (arith, going.few, before.few))

pub records-preserved : goal.records-preserved
records-preserved g c =
    let before = c.records.invariant in
    let q = c.args.question.now in
    let first = c.args.range.first in
    let h = rw (c.in-Some.is, c.in-Some.item-is) at c.next_buffered.follows.holds-at-none in
    let above : first ≤ c.in-Some.item.number = omega (arith, h.0.0, before.since, c.requires.begun) in
    record {
      few = omega (arith, h.0.1, h.0.2);
      since = omega (arith, h.0.1, before.since);
      within = omega (arith, h.0.1);
      going = λ start records w v had.
          let going = before.going start records w v had in
          range-goes q first records start c.records.reader c.next_buffered.follows.lender-at-none c.records.counted
          c.add_ended.new.counted w v v going
          (stepped_on q first (records ++ going.more) c.records.reader c.next_buffered.follows.lender-at-none
          c.add_ended.new.counted v v c.in-Some.item h.0 h.1 above (c.add_ended.ensures (records ++ going.more) going.took)
          (rw c.requires.summary (appended-nil v)));
    }
