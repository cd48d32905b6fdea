use Rattle.std.proofs.Common.{◌≡◌, ◌+◌, ◌*◌, ◌<◌, ◌-◌, ◌/◌, ◌∙◌, ℕ, List, arith, sym, ap, refl, subst, length}
use Rattle.std.proofs.Common.{length-take, take, get_or}
use Rattle.std.specs.Prelude.{Some, slice_get}
use Rattle.std.proofs.lemmas.List.{get_or-take}
use Rattle.std.proofs.lemmas.Option.{slice_get_read, slice_get_within, get_or_from_slice_get}
use Rattle.cbpf_machine.specs.Trail.{AreCheckpoints, Checkpoints}
use Rattle.cbpf_machine.specs.Registers.{Registers}
use Rattle.cbpf_machine.specs.OnPacket.{on_packet, trace_in}
use Rattle.cbpf_machine.specs.declared.mark_trail.TheConstants.{STRIDE}
use Rattle.cbpf_machine.proofs.ByLemmas.{by_within}
use Rattle.cbpf_machine.proofs.mark_trail.MarkTrailTrail.back.Goals as goal

taken_at : (xs : List Registers) (n i : ℕ) (r : Registers) → slice_get (take n xs) i ≡ Some r → i < n
    → slice_get xs i ≡ Some r
taken_at xs n i r at under =
    let within = slice_get_within (take n xs) i r at in
    slice_get_read xs (length xs) i r refl (omega (arith, length-take n xs))
    (sym (get_or_from_slice_get (take n xs) i r r at) ∙ get_or-take n xs i r under)

-- a checkpoint is an entry
kept_at : (kept : ℕ) (items xs : List Registers) (j : ℕ) (r : Registers)
    → AreCheckpoints (record { checkpoints = take ((kept + (STRIDE - 1)) / STRIDE) items; count = kept }) (take kept xs)
    → STRIDE * j < kept → r ≡ get_or items j r → slice_get xs (STRIDE * j) ≡ Some r
kept_at kept items xs j r are under is =
    let within : j < length (take ((kept + (STRIDE - 1)) / STRIDE) items) = omega (arith, are.stored) in
    taken_at xs kept (STRIDE * j) r (sym (are.at j within)
    ∙ slice_get_read (take ((kept + (STRIDE - 1)) / STRIDE) items) _ j r refl within
    (is ∙ sym (get_or-take ((kept + (STRIDE - 1)) / STRIDE) items j r (omega arith)))) under

pub returns-clause-stands : goal.returns-clause-stands
returns-clause-stands g c =
    let first : ℕ = STRIDE * ((c.args.to - 1) / STRIDE) in
    let count : c.self.inside.kept ≡ c.args.self.now.count = ap (λ (k : Checkpoints). k.count) c.self.view_is in
    let at = kept_at c.self.inside.kept c.self.inside.checkpoints.items
    (trace_in (on_packet c.args.p.now c.args.values.now c.args.packet)) ((c.args.to - 1) / STRIDE)
    c.index-deref-checkpoint.result (subst (λ k. AreCheckpoints k
    (take k.count (trace_in (on_packet c.args.p.now c.args.values.now c.args.packet))))
    (sym c.self.view_is) c.requires.of_trace) (omega (arith, c.requires.within, c.requires.from_one, count))
    (rw c.deref.ensures.0 at c.index-deref-checkpoint.is) in
    let i : first + 1 - 1 ≡ first = omega arith in
    let all : first + 1 + (c.args.to - (first + 1)) ≡ c.args.to = omega (arith, c.requires.from_one) in
    let there = by_within (trace_in (on_packet c.args.p.now c.args.values.now c.args.packet)) (first + 1) (omega arith) _
    c.index-deref-checkpoint.result (c.args.to - (first + 1)) c.advance-on.result c.advance-on.new.s (rw i at)
    (omega (
      arith,
      all,
      c.requires.within,
      c.requires.of_trace.long,
      length-take c.args.self.now.count (trace_in (on_packet c.args.p.now c.args.values.now c.args.packet)),
    ))
    c.advance-on.ensures.follows in
    rw all at (c.advance-on.ensures.stands _ there.0)
