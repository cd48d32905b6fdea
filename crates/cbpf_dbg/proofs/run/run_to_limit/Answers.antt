use Rattle.std.proofs.Common.{arith, rules}
use Rattle.std.proofs.lemmas.Grind.{common_steps}
use Rattle.cbpf_dbg.specs.Loaded.{machine_in, records_in}
use Rattle.cbpf_dbg.proofs.RecordsLeftLemmas.{all_left, is_end, is_end_of_all, end_reckoned}
use Rattle.cbpf_dbg.proofs.RunLemmas.{run_stopped, run_limited, run_finished, none_ahead}
use Rattle.cbpf_dbg.proofs.TurnCountLemmas.{turns-reply, spent_between, owed-turns, few_after}
use Rattle.cbpf_dbg.proofs.run.run_to_limit.Goals as goal

pub run_to_hit-stop-requires-clause-can : goal.run_to_hit-stop-requires-clause-can
run_to_hit-stop-requires-clause-can g c =
    let ends = end_reckoned c.args.limit c.args.cursor.now.place.packet c.count-count.ensures.value
    c.args.loaded.now.few c.unwrap_or-most.ensures c.saturating_add.ensures c.min-end.ensures in
    let most = few_after (machine_in c.args.loaded.now) (records_in c.args.loaded.now) c.args.cursor.now.place c.requires.stands.sound c.args.loaded.now.few in
    record {
      stands = c.requires.stands;
      left = all_left _ _ _ (rw c.count-count.ensures.value at c.records_at.ensures);
      ends = is_end _ _ c.args.limit _ ends c.requires.limit (is_end_of_all _ _ _ c.requires.stands);
      spare = omega (arith, most, c.requires.early);
    }

pub returns-in-Some-clause-start : goal.returns-in-Some-clause-start
returns-in-Some-clause-start g c = grind (arith, common_steps)

pub returns-in-Some-clause-runs : goal.returns-in-Some-clause-runs
returns-in-Some-clause-runs g c =
    let ends = end_reckoned c.args.limit c.args.cursor.now.place.packet c.count-count.ensures.value
    c.args.loaded.now.few c.unwrap_or-most.ensures c.saturating_add.ensures c.min-end.ensures in
    let came = c.in-Some.ensures in
    run_stopped _ _ _ _ _ _ ends _ _ came.passes.origin came.comes

pub returns-in-Some-clause-inside : goal.returns-in-Some-clause-inside
returns-in-Some-clause-inside g c = grind (arith, common_steps)

pub returns-in-Some-clause-ahead : goal.returns-in-Some-clause-ahead
returns-in-Some-clause-ahead g c = search rules

pub returns-in-Some-clause-turns : goal.returns-in-Some-clause-turns
returns-in-Some-clause-turns g c =
    let came = c.in-Some.ensures in
    rw (turns-reply _ _ _ _ _ _ _ (returns-in-Some-clause-runs g c))
    (spent_between _ _ _ _ _ _ c.requires.stands came.passes)

pub returns-then-end-count-clause-stands : goal.returns-then-end-count-clause-stands
returns-then-end-count-clause-stands g c = grind (arith, common_steps)

pub returns-then-end-count-clause-start : goal.returns-then-end-count-clause-start
returns-then-end-count-clause-start g c = grind (arith, common_steps)

pub returns-then-end-count-clause-runs : goal.returns-then-end-count-clause-runs
returns-then-end-count-clause-runs g c =
    let ends = end_reckoned c.args.limit c.args.cursor.now.place.packet c.count-count.ensures.value
    c.args.loaded.now.few c.unwrap_or-most.ensures c.saturating_add.ensures c.min-end.ensures in
    let came = c.in_default.ensures in
    let gives = run_limited _ _ _ _ c.args.cursor.now _ ends
    c.run_to_hit-stop.new.walk.cursor came.passes.stands came.passes.origin came.comes
    (rw c.count-count.ensures.value at c.if-end-count.true) in
    record { reply_is = gives.reply_is; place_is = gives.place_is; origin_is = gives.origin_is }

pub returns-then-end-count-clause-inside : goal.returns-then-end-count-clause-inside
returns-then-end-count-clause-inside g c = grind (arith, common_steps)

pub returns-then-end-count-clause-ahead : goal.returns-then-end-count-clause-ahead
returns-then-end-count-clause-ahead g c = search rules

pub returns-then-end-count-clause-turns : goal.returns-then-end-count-clause-turns
returns-then-end-count-clause-turns g c =
    let came = c.in_default.ensures in
    rw (turns-reply _ _ _ _ _ _ _ (returns-then-end-count-clause-runs g c))
    (spent_between _ _ _ _ _ _ c.requires.stands came.passes)

pub returns-clause-stands : goal.returns-clause-stands
returns-clause-stands g c = grind (arith, common_steps)

pub returns-clause-start : goal.returns-clause-start
returns-clause-start g c = grind (arith, common_steps)

pub returns-clause-runs : goal.returns-clause-runs
returns-clause-runs g c =
    let ends = end_reckoned c.args.limit c.args.cursor.now.place.packet c.count-count.ensures.value
    c.args.loaded.now.few c.unwrap_or-most.ensures c.saturating_add.ensures c.min-end.ensures in
    let came = c.in_default.ensures in
    run_finished _ _ _ _ _ _ ends _ _ came.passes.stands came.passes.origin
    came.comes (rw c.count-count.ensures.value at c.if-end-count.false) c.before-2.ensures.place c.before-2.ensures.origin

pub returns-clause-inside : goal.returns-clause-inside
returns-clause-inside g c = grind (arith, common_steps)

pub returns-clause-ahead : goal.returns-clause-ahead
returns-clause-ahead g c =
    let ends = end_reckoned c.args.limit c.args.cursor.now.place.packet c.count-count.ensures.value
    c.args.loaded.now.few c.unwrap_or-most.ensures c.saturating_add.ensures c.min-end.ensures in
    (none_ahead _ c.args.loaded.now.capture.now _ c.args.limit c.args.cursor.now _
    ends c.run_to_hit-stop.new.walk.cursor c.in_default.ensures.comes
    (rw c.count-count.ensures.value at c.if-end-count.false)).1

pub returns-clause-turns : goal.returns-clause-turns
returns-clause-turns g c =
    let ends = end_reckoned c.args.limit c.args.cursor.now.place.packet c.count-count.ensures.value
    c.args.loaded.now.few c.unwrap_or-most.ensures c.saturating_add.ensures c.min-end.ensures in
    let came = c.in_default.ensures in
    let none = (none_ahead _ c.args.loaded.now.capture.now _ c.args.limit c.args.cursor.now _
    ends c.run_to_hit-stop.new.walk.cursor came.comes
    (rw c.count-count.ensures.value at c.if-end-count.false)).0 in
    let all = owed-turns _ _ c.args.cursor.now c.requires.stands in
    rw (turns-reply _ _ _ _ _ _ _ (returns-clause-runs g c)) (omega (arith, all, none, came.passes.spent))
