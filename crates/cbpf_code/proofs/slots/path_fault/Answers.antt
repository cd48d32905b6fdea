use Rattle.std.proofs.Common.{◌≡◌, ℕ, ◌<◌, List, length, get_or, arith, sym, ◌∙◌, refl}
use Rattle.std.specs.Prelude.{Some, slice_get}
use Rattle.std.proofs.lemmas.Option.{slice_get-get_or, slice_get_within}
use Rattle.cbpf_code.specs.declared.insn.Insn.{Insn}
use Rattle.cbpf_code.proofs.PathLemmas.{tracks_paths-start, tracks_paths-next, unwritten_at-reached}
use Rattle.cbpf_code.proofs.PathLemmas.{loads_use-slot, stores_use-slot, first_fault-slot, sound_of}
use Rattle.cbpf_code.proofs.FaultLemmas.{zero_insn}
use Rattle.cbpf_code.proofs.SoundLemmas.{formed_known, formed_allowed, formed_next}
use Rattle.cbpf_code.proofs.slots.path_fault.Goals as goal

here : (list : List Insn) (i : ℕ) → i < length list → slice_get list i ≡ Some (get_or list i zero_insn)
here list i below = slice_get-get_or list i zero_insn below

pub loop-i-init : goal.loop-i-init
loop-i-init c = tracks_paths-start c.args.list.now

pub unreachable-requires : goal.unreachable-requires
unreachable-requires c =
    let known = formed_known _ _ _ c.requires (here c.args.list.now c.loop-i.i c.loop-i-test.true) in
    cc

pub loads_any-requires : goal.loads_any-requires
loads_any-requires c = λ loads.
    (formed_allowed _ _ _ _ c.requires (here _ _ c.loop-i-test.true) (sym c.op_of.ensures ∙ c.in-Some.is)).slot
    (loads_use-slot c.in-Some.op loads)

pub still_unwritten-after-requires : goal.still_unwritten-after-requires
still_unwritten-after-requires c = λ stores.
    (formed_allowed _ _ _ _ c.requires (here _ _ c.loop-i-test.true) (sym c.op_of.ensures ∙ c.in-Some.is)).slot
    (stores_use-slot c.in-Some.op stores)

pub propagate-requires-clause-inside : goal.propagate-requires-clause-inside
propagate-requires-clause-inside c = λ t follows.
    let long = c.loop-i.invariant.long in
    let few = c.requires.few in
    let below = formed_next _ _ _ _ c.requires (here _ _ c.loop-i-test.true)
    (sym c.op_of.ensures ∙ c.in-Some.is) t follows in
    omega arith

pub returns-then-loads_any : goal.returns-then-loads_any
returns-then-loads_any c =
    let known = sym c.op_of.ensures ∙ c.in-Some.is in
    let loaded = c.if-loads_any.ensures.0 refl in
    let at = here _ _ c.loop-i-test.true in
    let small = (formed_allowed _ _ _ _ c.requires at known).slot (loads_use-slot c.in-Some.op loaded.0) in
    let unwritten = unwritten_at-reached _ _ _ (c.loop-i.invariant.only_reached _ _ small loaded.1) in
    first_fault-slot _ _ c.requires (_, _, at, known, (loaded.0, unwritten)) c.loop-i.invariant.written

pub loop-i-preserved : goal.loop-i-preserved
loop-i-preserved c =
    let known = sym c.op_of.ensures ∙ c.in-Some.is in
    let at = here _ _ c.loop-i-test.true in
    tracks_paths-next _ _ _ _ _ _ _ at known c.loop-i.invariant c.still_unwritten-after.ensures c.propagate.ensures
    (λ loads. (formed_allowed _ _ _ _ c.requires at known).slot (loads_use-slot c.in-Some.op loads))
    (λ loaded. let never = c.if-loads_any.ensures.1 loaded in absurd (cc))

pub returns : goal.returns
returns c = sound_of _ c.requires (λ j stands.
    let below = slice_get_within c.args.list.now j stands.0 stands.2 in
    c.loop-i.invariant.written j (omega arith) stands)
