use Rattle.std.proofs.Common.{◌≡◌, ◌+◌, ◌∙◌, arith, sym, refl, subst, take}
use Rattle.std.proofs.lemmas.Grind.{common_steps}
use Rattle.pcap_classic.specs.Lent.{record_of}
use Rattle.pcap_classic.specs.Records.{Record}
use Rattle.cbpf_machine.specs.Trace.{trace}
use Rattle.cbpf_dbg.specs.Loaded.{machine_in}
use Rattle.cbpf_dbg.proofs.CountLemmas.{countable}
use Rattle.cbpf_dbg.proofs.FollowLemmas.{goes_to_entry, goes_out}
use Rattle.cbpf_dbg.proofs.GoingLemmas.{goes_more}
use Rattle.cbpf_dbg.proofs.RecordsLeftLemmas.{first_left, first_of}
use Rattle.cbpf_dbg.proofs.run.run_records.Goals as goal

pub front-here-requires : goal.front-here-requires
front-here-requires g c = grind (arith, common_steps)

pub follow_packet-requires-clause-spare : goal.follow_packet-requires-clause-spare
follow_packet-requires-clause-spare g c = omega (arith, c.requires.can.spare, c.go.invariant.passes.spent)

pub finish_whole_packet-requires-clause-counts : goal.finish_whole_packet-requires-clause-counts
finish_whole_packet-requires-clause-counts g c = countable _ _ c.go.walk.cursor c.go.invariant.passes.stands c.args.loaded.now.few

pub returns-in-Paused-clause-goes : goal.returns-in-Paused-clause-goes
returns-in-Paused-clause-goes g c =
    let so = c.go.invariant in
    let is = first_of _ _ (sym c.front-here.ensures) in
    let here = first_left _ _ _ _ _ is so.left in
    let step = so.out refl in
    let follows = rw c.task_of-task.ensures at c.follow_packet.ensures.follows in
    let turns = rw c.task_of-task.ensures at c.follow_packet.ensures.turns in
    let sum : c.go.walk.cursor.place.step + c.in-Paused.entries ≡ c.in-Paused.entries = omega (arith, step) in
    goes_more _ _ _ _ _ _ _ _ _ so (goes_to_entry _ _ (record_of c.front-here.result)
    so.passes.stands here _ c.follow_packet.result c.follow_packet.new.state _ c.go.meter
    c.follow_packet.new.meter c.go.walk.left _ _ so.left so.ends (omega (arith, c.go-test.true, so.same))
    (rw (c.in-Paused.is, sum) refl) (rw step follows) (rw step (omega (arith, turns))) is (rw c.in-Paused.is refl))

pub returns-in-Paused-clause-keeps : goal.returns-in-Paused-clause-keeps
returns-in-Paused-clause-keeps g c = λ _ r there.
    let here = first_left _ _ _ _ _ (first_of _ _ (sym c.front-here.ensures)) c.go.invariant.left in
    let same : record_of c.front-here.result ≡ r = cc in
    subst (λ (q : Record). g.K.Keeper.stands_for c.follow_packet.new.self (take c.in-Paused.entries
    (trace (machine_in c.args.loaded.now) q.bytes q.wire))) same
    (rw c.task_of-task.ensures at (c.follow_packet.ensures.stands c.in-Paused.entries c.in-Paused.is))

pub go-preserved : goal.go-preserved
go-preserved g c =
    let so = c.go.invariant in
    let here = first_left _ _ _ _ _ c.pass.ensures so.left in
    let step = so.out refl in
    let follows = rw c.task_of-task.ensures at c.follow_packet.ensures.follows in
    let turns = rw c.task_of-task.ensures at c.follow_packet.ensures.turns in
    goes_more _ _ _ _ _ _ _ _ _ so (goes_out _ _ (record_of c.front-here.result)
    so.passes.stands here _ c.follow_packet.result c.follow_packet.new.state c.finish_whole_packet.new.self c.go.meter
    c.follow_packet.new.meter c.go.walk.left _ _ so.left so.ends (omega (arith, c.go-test.true, so.same))
    (c.finish_whole_packet.ensures ∙ rw c.in-Ended.is refl) (rw step follows)
    (rw step (omega (arith, turns))) c.pass.ensures (rw c.in-Ended.is refl))

pub returns-clause-none : goal.returns-clause-none
returns-clause-none g c = λ _. omega (arith, c.go.invariant.ends.most, c.go.invariant.same, c.go-test.false)
