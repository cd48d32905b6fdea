use Rattle.std.proofs.Common.{◌≡◌, ◌+◌, ◌-◌, ◌++◌, ◌∷◌, [], take, length-take, length-append, append-nil, append_assoc, ap, sym, subst, ◌∙◌, arith}
use Rattle.std.specs.Prelude.{replicate}
use Rattle.std.proofs.lemmas.Option.{slice_get_within}
use Rattle.std.proofs.lemmas.List.{length-replicate, replicate_more}
use Rattle.cbpf_machine.proofs.KeptLemmas.{ignored}
use Rattle.cbpf_machine.proofs.trail.Trail.keep.Goals as goal

pub each-init : goal.each-init
each-init g c = λ xs at. rw append-nil at

pub push-requires : goal.push-requires
push-requires g c =
    let xs = c.requires.stands.0 in
    let at = c.requires.stands.1 in
    let before = g.met.Self.Trail.as_long _ _ at in
    let now = g.met.Self.Trail.as_long _ _ (c.each.invariant xs at) in
    omega (
      arith,
      before,
      now,
      length-append xs (replicate c.each.i c.args.s),
      length-replicate c.each.i c.args.s,
      c.requires.few,
    )

pub each-preserved : goal.each-preserved
each-preserved g c = λ xs at.
    subst (λ l. g.Self.Trail.stands_for c.push.new.self l)
    (append_assoc xs (replicate c.each.i c.args.s) (c.args.s ∷ [])
    ∙ ap (λ l. xs ++ l) (replicate_more c.each.i c.args.s))
    (c.push.ensures _ (c.each.invariant xs at))

pub returns : goal.returns
returns g c = record {
  stands = λ xs at before.
      let all : c.each.i ≡ c.args.count = omega arith in
      let on = ignored g.Self.Trail.stands_for c.each.self (g.Self.Trail.kept c.args.self.now) c.args.count xs c.args.s
      c.requires.some c.requires.ignores at
      (rw all at (c.each.invariant (take (g.Self.Trail.kept c.args.self.now) xs) before)) in
      let within = slice_get_within xs (g.Self.Trail.kept c.args.self.now + c.args.count - 1) c.args.s at in (
        on,
        sym (g.met.Self.Trail.as_long _ _ on)
            ∙ omega (arith, length-take (g.Self.Trail.kept c.args.self.now + c.args.count) xs, within),
      );
}
