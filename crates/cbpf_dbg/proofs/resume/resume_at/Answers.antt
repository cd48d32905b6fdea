use Rattle.std.proofs.Common.{◌≡◌, ◌-◌, Some, ap, arith, take, slice_get, subst, rules}
use Rattle.std.proofs.lemmas.Option.{slice_get_within}
use Rattle.cbpf_machine.specs.Trace.{trace}
use Rattle.pcap_classic.specs.Records.{Record}
use Rattle.pcap_classic.specs.Lent.{record_of}
use Rattle.cbpf_dbg.specs.Here.{Keeps}
use Rattle.cbpf_dbg.specs.Loaded.{machine_in, records_in}
use Rattle.cbpf_dbg.proofs.resume.resume_at.Goals as goal

pub returns-clause-found : goal.returns-clause-found
returns-clause-found g c =
    let r : Record = record_of c.item-item.result in
    let at : slice_get (records_in c.args.loaded.now) (c.args.place.packet - 1) ≡ Some r = c.item-item.ensures.record in
    let entry = rw c.task_of-task.ensures at c.in_ok-state.ensures.entry in
    let within =
    slice_get_within (trace (machine_in c.args.loaded.now) r.bytes r.wire) (c.args.place.step - 1) _ entry in
    let keeps : Keeps (λ xs. g.T.Trail.stands_for c.go_to.new.self xs) (machine_in c.args.loaded.now)
    (records_in c.args.loaded.now) c.args.place = λ q there.
    let same : r ≡ q = cc in
    subst (λ (k : Record). g.T.Trail.stands_for c.go_to.new.self
    (take c.args.place.step (trace (machine_in c.args.loaded.now) k.bytes k.wire)))
    same (rw c.task_of-task.ensures at c.in_ok-state.ensures.stands) in (
      c.at.ensures.stands (machine_in c.args.loaded.now) (records_in c.args.loaded.now)
          c.args.loaded.now.sound (omega arith) (λ begun. (r, at, entry)),
      rw c.at.ensures.place keeps,
      c.at.ensures.place,
      c.at.ensures.origin,
      (λ q there.
          let same : r ≡ q = cc in rw c.at.ensures.start (ap (λ (k : Record). k.start) same)),
      rw at (omega (arith, within)),
    )

pub returns-in_err-state-clause-short : goal.returns-in_err-state-clause-short
returns-in_err-state-clause-short g c = search rules
