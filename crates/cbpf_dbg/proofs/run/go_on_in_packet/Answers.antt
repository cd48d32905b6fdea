use Rattle.std.proofs.Common.{◌<◌, arith, sym, refl}
use Rattle.std.proofs.lemmas.Grind.{common_steps}
use Rattle.pcap_classic.specs.Lent.{record_of}
use Rattle.cbpf_dbg.specs.declared.cursor.Moved.TheVariants as moved
use Rattle.cbpf_dbg.proofs.CountLemmas.{countable}
use Rattle.cbpf_dbg.proofs.FollowLemmas.{steps_fit, goes_to_entry, goes_out}
use Rattle.cbpf_dbg.proofs.KeepLemmas.{keeps_followed, keeps_to}
use Rattle.cbpf_dbg.proofs.RecordsLeftLemmas.{first_left, first_of}
use Rattle.cbpf_dbg.proofs.run.go_on_in_packet.Goals as goal

pub front-here-requires : goal.front-here-requires
front-here-requires g c = grind (arith, common_steps)

pub follow_on-followed-requires-clause-sound : goal.follow_on-followed-requires-clause-sound
follow_on-followed-requires-clause-sound g c = rw c.task_of-task.ensures c.requires.can.stands.sound

pub follow_on-followed-requires-clause-keeps : goal.follow_on-followed-requires-clause-keeps
follow_on-followed-requires-clause-keeps g c =
    let here = first_left _ _ _ _ _ (first_of _ _ (sym c.front-here.ensures)) c.requires.can.left in
    let begun : 0 < c.args.walk.now.cursor.place.step = omega (arith, c.if-walk-eq0.false) in rw c.task_of-task.ensures (
      c.args.walk.now.cursor.place.step,
      keeps_to (λ xs. g.K.Keeper.stands_for c.args.keeper.now xs) _ _ _ (record_of c.front-here.result)
          c.requires.can.stands here begun c.requires.keeps,
    )

pub apply-requires-clause-counts : goal.apply-requires-clause-counts
apply-requires-clause-counts g c =
    countable _ _ c.args.walk.now.cursor c.requires.can.stands c.args.loaded.now.few

pub apply-requires-clause-steps : goal.apply-requires-clause-steps
apply-requires-clause-steps g c = λ n e.
    let here = first_left _ _ _ _ _ (first_of _ _ (sym c.front-here.ensures)) c.requires.can.left in
    let begun : 0 < c.args.walk.now.cursor.place.step = omega (arith, c.if-walk-eq0.false) in
    let at = keeps_to (λ xs. g.K.Keeper.stands_for c.args.keeper.now xs) _ _ _ (record_of c.front-here.result)
    c.requires.can.stands here begun c.requires.keeps in
    let follows = (rw c.task_of-task.ensures at c.follow_on-followed.ensures.follows) _ at in
    let fit = steps_fit _ _ _ (record_of c.front-here.result) c.requires.can.stands here _ n
    c.follow_on-followed.new.state (rw e at follows) in
    omega (arith, fit)

pub returns-in-Entry-clause-goes : goal.returns-in-Entry-clause-goes
returns-in-Entry-clause-goes g c =
    let is = first_of _ _ (sym c.front-here.ensures) in
    let here = first_left _ _ _ _ _ is c.requires.can.left in
    let begun : 0 < c.args.walk.now.cursor.place.step = omega (arith, c.if-walk-eq0.false) in
    let at = keeps_to (λ xs. g.K.Keeper.stands_for c.args.keeper.now xs) _ _ _ (record_of c.front-here.result)
    c.requires.can.stands here begun c.requires.keeps in
    let follows = (rw c.task_of-task.ensures at c.follow_on-followed.ensures.follows) _ at in
    let turns = (rw c.task_of-task.ensures at c.follow_on-followed.ensures.turns) _ at in
    goes_to_entry _ _ (record_of c.front-here.result) c.requires.can.stands here _ c.follow_on-followed.result
    c.follow_on-followed.new.state c.apply.new.self c.args.meter.now c.follow_on-followed.new.meter
    c.args.walk.now.left _ _ c.requires.can.left c.requires.can.ends (c.requires.can.ends.later begun)
    c.in-Entry.ensures.cursor follows (omega (arith, turns, begun)) is
    c.in-Entry.ensures.moved

pub returns-in-Entry-clause-keeps : goal.returns-in-Entry-clause-keeps
returns-in-Entry-clause-keeps g c = λ _.
    let here = first_left _ _ _ _ _ (first_of _ _ (sym c.front-here.ensures)) c.requires.can.left in
    let begun : 0 < c.args.walk.now.cursor.place.step = omega (arith, c.if-walk-eq0.false) in
    let at = keeps_to (λ xs. g.K.Keeper.stands_for c.args.keeper.now xs) _ _ _ (record_of c.front-here.result)
    c.requires.can.stands here begun c.requires.keeps in
    let stands = (rw c.task_of-task.ensures at c.follow_on-followed.ensures.stands) _ at in
    keeps_followed (λ xs. g.K.Keeper.stands_for c.follow_on-followed.new.self xs) _ _ c.args.walk.now.cursor
    (record_of c.front-here.result) here c.follow_on-followed.result c.follow_on-followed.new.state moved.Entry
    c.apply.new.self c.in-Entry.ensures.cursor c.in-Entry.ensures.moved stands refl

pub returns-clause-goes : goal.returns-clause-goes
returns-clause-goes g c =
    let here = first_left _ _ _ _ _ c.pass.ensures c.requires.can.left in
    let begun : 0 < c.args.walk.now.cursor.place.step = omega (arith, c.if-walk-eq0.false) in
    let at = keeps_to (λ xs. g.K.Keeper.stands_for c.args.keeper.now xs) _ _ _ (record_of c.front-here.result)
    c.requires.can.stands here begun c.requires.keeps in
    let follows = (rw c.task_of-task.ensures at c.follow_on-followed.ensures.follows) _ at in
    let turns = (rw c.task_of-task.ensures at c.follow_on-followed.ensures.turns) _ at in
    goes_out _ _ (record_of c.front-here.result) c.requires.can.stands here _ c.follow_on-followed.result
    c.follow_on-followed.new.state c.apply.new.self c.args.meter.now c.follow_on-followed.new.meter
    c.args.walk.now.left _ _ c.requires.can.left c.requires.can.ends (c.requires.can.ends.later begun)
    c.in_default.ensures.cursor follows (omega (arith, turns, begun)) c.pass.ensures c.in_default.ensures.moved
