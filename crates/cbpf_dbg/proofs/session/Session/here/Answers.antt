use Rattle.std.proofs.Common.{◌≡◌, ◌∙◌, Some, ap, arith, cond, refl, sym}
use Rattle.cbpf_machine.specs.Machine.{machine_of}
use Rattle.cbpf_machine.proofs.SoundLemmas.{sound_few}
use Rattle.cbpf_reply.specs.declared.reply.Why.TheVariants as why
use Rattle.cbpf_dbg.specs.Cursor.{entry_here}
use Rattle.cbpf_dbg.specs.Joined.{is_hit, stop_at}
use Rattle.cbpf_dbg.specs.Session.{Fits, IsKnown}
use Rattle.cbpf_dbg.proofs.HereLemmas.{at_entry, here-entry}
use Rattle.cbpf_dbg.proofs.ShownLemmas.{shows}
use Rattle.cbpf_dbg.proofs.WholeLemmas.{HasLoaded}
use Rattle.cbpf_dbg.proofs.session.Session.here.Goals as goal
use Rattle.cbpf_dbg.proofs.session.Session.here.Goals.{then-pauses_at, else-pauses_at}

pub pauses_at-requires : goal.pauses_at-requires
pauses_at-requires g c =
    let fits : Fits (λ xs. g.T.Trail.stands_for c.self.inside.trail xs) (Some c.in-Some-Some.program)
    c.self.inside.values (Some c.in-Some-Some.field-0-1) c.self.inside.cursor =
    rw (c.in-Some-Some.is-0, c.in-Some-Some.is-1) at c.self.invariant.0 in
    let at = at_entry _ _ c.self.inside.cursor fits.0 (omega (arith, c.if-self-eq0.false)) in
    omega (arith, at.pc, sound_few c.in-Some-Some.program fits.0.sound)

pub stop_at-requires : goal.stop_at-requires
stop_at-requires g c =
    let fits : Fits (λ xs. g.T.Trail.stands_for c.self.inside.trail xs) (Some c.in-Some-Some.program)
    c.self.inside.values (Some c.in-Some-Some.field-0-1) c.self.inside.cursor =
    rw (c.in-Some-Some.is-0, c.in-Some-Some.is-1) at c.self.invariant.0 in
    (at_entry _ _ c.self.inside.cursor fits.0 (omega (arith, c.if-self-eq0.false))).pc

pub returns-clause-stop : goal.returns-clause-stop
returns-clause-stop g c =
    let machine = machine_of c.in-Some-Some.program c.self.inside.values in
    let breakpoints = c.self.inside.breakpoints.entries in
    let fits : Fits (λ xs. g.T.Trail.stands_for c.self.inside.trail xs) (Some c.in-Some-Some.program)
    c.self.inside.values (Some c.in-Some-Some.field-0-1) c.self.inside.cursor =
    rw (c.in-Some-Some.is-0, c.in-Some-Some.is-1) at c.self.invariant.0 in
    let known : IsKnown c.self.inside.needs_no_value c.self.inside.watched (Some c.in-Some-Some.program)
    c.self.inside.values breakpoints = rw c.in-Some-Some.is-0 at c.self.invariant.1 in
    let at = at_entry _ _ c.self.inside.cursor fits.0 (omega (arith, c.if-self-eq0.false)) in
    let e = entry_here machine at.r c.self.inside.cursor in
    let hit : c.pauses_at.result ≡ is_hit breakpoints e =
    c.pauses_at.ensures ∙ known.1.hits_are at.r.bytes at.r.wire c.self.inside.cursor.state at.pc in
    let reason : c.if-pauses_at.reason ≡ cond c.pauses_at.result why.Break why.Step = elim c.if-pauses_at.branch [
      | then-pauses_at w ↦ rw (w.reason-is, w.if-pauses_at.true) refl
      | else-pauses_at w ↦ rw (w.reason-is, w.if-pauses_at.false) refl
    ] in
    let holds : HasLoaded machine c.in-Some-Some.field-0-1 c.args.self.now = record {
      program = rw (← c.self.view_is) c.in-Some-Some.is-0;
      values = rw (← c.self.view_is) refl;
      capture = rw (← c.self.view_is) c.in-Some-Some.is-1;
    } in
    let here = here-entry machine c.in-Some-Some.field-0-1 c.args.self.now holds breakpoints e (rw (← c.self.view_is) refl)
    (rw (← c.self.view_is) at.entry_is) in
    ap Some (c.stop_at.ensures at.r ∙ ap (λ q. stop_at q e) (reason ∙ ap (λ b. cond b why.Break why.Step) hit))
    ∙ sym here

pub returns-clause-shown : goal.returns-clause-shown
returns-clause-shown g c =
    let fits : Fits (λ xs. g.T.Trail.stands_for c.self.inside.trail xs) (Some c.in-Some-Some.program)
    c.self.inside.values (Some c.in-Some-Some.field-0-1) c.self.inside.cursor =
    rw (c.in-Some-Some.is-0, c.in-Some-Some.is-1) at c.self.invariant.0 in
    let at = at_entry _ _ c.self.inside.cursor fits.0 (omega (arith, c.if-self-eq0.false)) in
    rw (c.stop_at.ensures at.r) (shows c.args.self.now _ c.in-Some-Some.program c.in-Some-Some.field-0-1
    (rw (← c.self.view_is) (sym c.in-Some-Some.is-0)) (rw (← c.self.view_is) (sym c.in-Some-Some.is-1))
    at.from_one at.packet at.pc)
