use Rattle.std.proofs.Common.{◌≡◌, ◌∙◌, sym, subst, ℕ, ◌<◌, false, List, [], ◌∷◌, length, map, get_or, arith}
use Rattle.std.specs.Prelude.{Contains, ◌==◌}
use Rattle.std.specs.List.{filter}
use Rattle.std.proofs.lemmas.List.{get_or_default, take_all}
use Rattle.cbpf_syntax.specs.declared.table.Mnemonic.{Mnemonic}
use Rattle.cbpf_syntax.specs.Table.{mnemonics}
use Rattle.cbpf_syntax.specs.Initials.{begins_with}
use Rattle.cbpf_syntax.specs.Views.{mnemonic_view}
use Rattle.cbpf_syntax.proofs.Elements.{into_map}
use Rattle.cbpf_syntax.proofs.Mnemonics.{from_known, none_from}
use Rattle.cbpf_syntax.proofs.reserved.mnemonic_named.Goals as goal

known_at : (b : ℕ) (items : List Mnemonic) (i : ℕ) (d : Mnemonic) → i < length items
    → map mnemonic_view items ≡ filter (begins_with b) mnemonics → Contains mnemonics (mnemonic_view (get_or items i d))
known_at b items i d l e = from_known b mnemonics (mnemonic_view (get_or items i d))
    (subst (λ ms. Contains ms (mnemonic_view (get_or items i d))) e
    (into_map mnemonic_view items (get_or items i d) (i, l, get_or_default items i (get_or items i d) d l)))

some_bytes : (w : List ℕ) → (length w == 0) ≡ false → 0 < length w
some_bytes [] e = cc
some_bytes (b ∷ bs) e = omega arith

pub returns-then-eq-clause-found : goal.returns-then-eq-clause-found
returns-then-eq-clause-found c = known_at _ c.mnemonics_from-mnemonic-items.result.now c.loop-mnemonic.mnemonic-index
    _ c.loop-mnemonic-test.true c.mnemonics_from-mnemonic-items.ensures

pub returns-clause-none : goal.returns-clause-none
returns-clause-none c =
    let items = c.mnemonics_from-mnemonic-items.result.now in
    none_from c.args.word.now 0 (some_bytes c.args.word.now (sym c.is_empty.ensures ∙ c.if-is_empty.false)) (rw (
      take_all c.loop-mnemonic.mnemonic-index items c.loop-mnemonic-test.false,
      c.mnemonics_from-mnemonic-items.ensures,
    ) at c.loop-mnemonic.invariant)
