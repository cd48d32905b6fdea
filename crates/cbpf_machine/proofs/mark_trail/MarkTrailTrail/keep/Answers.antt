use Rattle.std.proofs.Common.{◌≡◌, ◌+◌, ◌-◌, ◌<◌, ◌≤◌, ◌*◌, ◌/◌, ◌%◌, ◌∙◌, ℕ, List, arith, length, take, length-take, sym, ap, subst}
use Rattle.std.proofs.lemmas.Option.{slice_get_within}
use Rattle.cbpf_machine.specs.Registers.{Registers}
use Rattle.cbpf_machine.specs.Trail.{AreCheckpoints, Checkpoints}
use Rattle.cbpf_machine.specs.declared.mark_trail.TheConstants.{STRIDE}
use Rattle.cbpf_machine.proofs.ListLemmas.{take-slice_get, slice_get-take}
use Rattle.cbpf_machine.proofs.mark_trail.MarkTrailTrail.keep.Goals as goal

-- up to the next entry that is stored, the same states are
unstored : (kept n : ℕ) (items xs : List Registers) → 1 ≤ kept → n < STRIDE - (kept - 1) % STRIDE
    → kept + n ≤ length xs
    → AreCheckpoints (record { checkpoints = take ((kept + (STRIDE - 1)) / STRIDE) items; count = kept }) (take kept xs)
    → AreCheckpoints (record { checkpoints = take ((kept + n + (STRIDE - 1)) / STRIDE) items; count = kept + n })
    (take (kept + n) xs)
unstored kept n items xs some near within are =
    let same : (kept + n + (STRIDE - 1)) / STRIDE ≡ (kept + (STRIDE - 1)) / STRIDE = omega arith in
    rw same (record {
      long = omega (arith, length-take (kept + n) xs);
      stored = are.stored ∙ sym same;
      at = λ j low.
          let under : STRIDE * j < kept = omega (arith, low, are.stored) in
          are.at j low ∙ (slice_get-take xs kept (STRIDE * j) under
          ∙ sym (slice_get-take xs (kept + n) (STRIDE * j) (omega (arith, under))));
    })

pub returns : goal.returns
returns c = record {
  stands = λ xs at before.
      let same : c.self.inside.kept ≡ c.args.self.now.count = ap (λ (k : Checkpoints). k.count) c.self.view_is in
      let within = slice_get_within xs (c.args.self.now.count + c.args.count - 1) c.args.s at in
      let mid = unstored c.self.inside.kept (c.args.count - 1) c.self.inside.checkpoints.items xs
      (omega (arith, c.requires.from_one, same)) (omega (arith, c.requires.near, c.requires.some, same))
      (omega (arith, within, c.requires.some, same))
      (subst (λ (k : Checkpoints). AreCheckpoints k (take k.count xs)) (sym c.self.view_is) before) in
      let to : c.args.self.now.count + c.args.count - 1 ≡ c.self.inside.kept + (c.args.count - 1) =
      omega (arith, c.requires.some, same) in
      let all : c.self.inside.kept + (c.args.count - 1) + 1 ≡ c.args.self.now.count + c.args.count =
      omega (arith, c.requires.some, same) in
      let on = rw all at (rw (← take-slice_get xs (c.self.inside.kept + (c.args.count - 1)) c.args.s (rw to at at))
      at (c.push.ensures _ mid)) in
      (on, omega (arith, on.long, within, length-take (c.args.self.now.count + c.args.count) xs));
}
