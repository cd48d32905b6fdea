use Rattle.std.proofs.Common.{◌≡◌, ◌<◌, ◌-◌, ◌/◌, ℕ, List, [], ◌∷◌, get_or, arith, refl, sym, ap, ◌∙◌}
use Rattle.std.proofs.lemmas.Slice.Eq.{bytes_eq-Decides}
use Rattle.cbpf_code.specs.Extension.{ext_name, ext_offset}
use Rattle.cbpf_code.specs.declared.extension.Ext.{Ext}
use Rattle.cbpf_code.specs.declared.extension.Ext.TheVariants.{Proto, PktType, IfIdx, Nla, NlaN, Mark, Queue, HaType}
use Rattle.cbpf_code.specs.declared.extension.Ext.TheVariants.{RxHash, Cpu, VlanTci, VlanAvail, PayOff, Rand, VlanTpid}
use Rattle.cbpf_code.proofs.NameLemmas.{name-found, none_named}
use Rattle.cbpf_code.proofs.extension.ext_named.Goals as goal

abbrev extensions : List Ext
extensions =
    Proto ∷ PktType ∷ IfIdx ∷ Nla ∷ NlaN ∷ Mark ∷ Queue ∷ HaType ∷ RxHash ∷ Cpu ∷ VlanTci ∷ VlanAvail ∷ PayOff ∷ Rand
    ∷ VlanTpid ∷ []

-- the place of an extension in the list: the offsets are the multiples of 4, without 40
abbrev place : Ext → ℕ
place e = ext_offset e / 4 - ext_offset e / 44

at_place : (e : Ext) → (place e < 15) × (get_or extensions (place e) Proto ≡ e)
at_place Proto = (omega arith, refl)
at_place _ = (omega arith, refl)

pub returns-then-eq : goal.returns-then-eq
returns-then-eq c =
    let same = (bytes_eq-Decides c.args.name.now c.as_bytes.result.now).0 (sym (c.if-eq.ensures {u = tt})) in
    name-found _ _ (same ∙ c.as_bytes.ensures.value ∙ c.ext_name.ensures.value)

pub returns : goal.returns
returns c = sym (none_named c.args.name.now (λ e named.
    let at = at_place e in
    c.loop-e.invariant (place e) (omega arith) (named ∙ ap ext_name (sym at.1))))
