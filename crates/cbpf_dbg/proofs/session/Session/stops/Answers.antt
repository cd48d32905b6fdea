use Rattle.cbpf_machine.specs.Machine.{machine_of}
use Rattle.cbpf_dbg.proofs.WholeLemmas.{HasLoaded}
use Rattle.std.proofs.Common.{arith, refl, Some}
use Rattle.cbpf_dbg.specs.Session.{Fits, IsKnown}
use Rattle.cbpf_dbg.proofs.RecordsLeftLemmas.{all_left, is_end_of_all}
use Rattle.cbpf_dbg.proofs.TurnCountLemmas.{few_hits, few_after}
use Rattle.cbpf_dbg.proofs.CarryLemmas.{known-sound}
use Rattle.cbpf_dbg.proofs.HereLemmas.{returns-rest}
use Rattle.cbpf_dbg.proofs.ShownStops.{shows-rest}
use Rattle.cbpf_dbg.proofs.session.Session.stops.Goals as goal

pub returns-clause-shown : goal.returns-clause-shown
returns-clause-shown g c =
    let holds : HasLoaded (machine_of c.in-Some.program c.self.inside.values) c.in-Some-capture.capture c.args.self.now =
    record {
      program = rw (← c.self.view_is) c.in-Some.is;
      values = rw (← c.self.view_is) refl;
      capture = rw (← c.self.view_is) c.in-Some-capture.is;
    } in
    shows-rest _ _ _ holds _ (known-sound _ _ _ _ _ _ c.in-Some.is c.self.invariant.1) _

pub returns-clause-returns : goal.returns-clause-returns
returns-clause-returns g c =
    let holds : HasLoaded (machine_of c.in-Some.program c.self.inside.values) c.in-Some-capture.capture c.args.self.now =
    record {
      program = rw (← c.self.view_is) c.in-Some.is;
      values = rw (← c.self.view_is) refl;
      capture = rw (← c.self.view_is) c.in-Some-capture.is;
    } in
    returns-rest _ _ _ holds _ _ (rw (← c.self.view_is) refl)

pub returns-clause-few : goal.returns-clause-few
returns-clause-few g c =
    few_hits _ _ _ _ (known-sound _ _ _ _ _ _ c.in-Some.is c.self.invariant.1) (omega (arith, c.count-few.ensures.value, c.count-few.ensures.bounded))

pub invariant_of-result : goal.invariant_of-result
invariant_of-result g c =
    let machine = machine_of c.in-Some.program c.self.inside.values in
    let records = c.in-Some-capture.capture.records in
    let fits : Fits (λ xs. g.T.Trail.stands_for c.self.inside.trail xs) (Some c.in-Some.program) c.self.inside.values
    (Some c.in-Some-capture.capture) c.self.inside.cursor =
    rw (c.in-Some.is, c.in-Some-capture.is) at c.self.invariant.0 in
    let known : IsKnown c.self.inside.needs_no_value c.self.inside.watched (Some c.in-Some.program)
    c.self.inside.values c.self.inside.breakpoints.entries = rw c.in-Some.is at c.self.invariant.1 in
    let few = few_after machine records c.self.inside.cursor.place known.3
    (omega (arith, c.count-few.ensures.value, c.count-few.ensures.bounded)) in (
      record {
        stands = fits.0;
        left = all_left _ _ _ (rw c.count-end.ensures.value at c.records_at-left.ensures);
        ends = rw c.count-end.ensures.value (is_end_of_all _ _ _ fits.0);
        spare = omega (arith, few, c.new.ensures);
      },
      omega (arith, c.count-end.ensures.value),
    )
