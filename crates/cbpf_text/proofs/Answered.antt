-- What the assembler keeps of items shows their fault; and each text assembles, or is refused at a line.
use Rattle.std.proofs.lemmas.Option.{slice_get_past}
use Rattle.std.proofs.Common.{◌≡◌, refl, ◌∙◌, subst, ℕ, ◌≤◌, List, [], ◌∷◌, length, Some, None, Option}
use Rattle.std.proofs.Common.{option_map, ◌⊎◌, inl, inr, arith, append-nil}
use Rattle.std.proofs.lemmas.List.{nil_from_length}
use Rattle.std.specs.Prelude.{slice_get}
use Rattle.std.specs.Option.{option_or}
use Rattle.cbpf_code.specs.declared.checker.TheConstants.{MAX_INSTRUCTIONS}
use Rattle.cbpf_code.specs.declared.insn.Insn.{Insn}
use Rattle.cbpf_syntax.specs.Tokens.{line_of}
use Rattle.cbpf_syntax.specs.Lexemes.{Lexeme, lexemes_of}
use Rattle.cbpf_syntax.specs.Items.{Item, Items}
use Rattle.cbpf_syntax.specs.Refusals.{IsAccepted}
use Rattle.cbpf_syntax.proofs.Cuts.{some-same}
use Rattle.cbpf_syntax.proofs.EachLexed.{each_lexed}
use Rattle.cbpf_syntax.proofs.FirstRefusal.{each_parsed, each_shown}
use Rattle.cbpf_text.specs.declared.fault.AsmKind.{AsmKind}
use Rattle.cbpf_text.specs.declared.fault.AsmKind.TheVariants as kinds
use Rattle.cbpf_text.specs.declared.name.Name.{Name}
use Rattle.cbpf_text.specs.declared.draft.Statement.{Statement}
use Rattle.cbpf_text.specs.Labels.{labels_from, first_repeat}
use Rattle.cbpf_text.specs.Assembled.{TokensAssemble, insns_from}
use Rattle.cbpf_text.specs.Refusals.{mnemonic_at, uses_from, uses_fault, items_fault, IsTokensFault, bad_piece_kind}
use Rattle.cbpf_text.specs.Refusals.IsTokensFault.{of_grammar, of_items}
use Rattle.cbpf_text.specs.Refusals.IsTextFault.{of_piece, of_tokens}
use Rattle.cbpf_text.specs.Laws.{EachAnswered}
use Rattle.cbpf_text.specs.Drafts.{AreSet, IsKept, Resolves}
use Rattle.cbpf_text.proofs.Encoding.{statements_size}
use Rattle.cbpf_text.proofs.FaultParts.{tokens_assembled}

-- more items than a program has
pub fault_excess : (is : List Item) (at : ℕ) → option_map mnemonic_at (slice_get is MAX_INSTRUCTIONS) ≡ Some at
    → items_fault is ≡ Some (kinds.TooMany, at)
fault_excess [] at e = let k : ◌≡◌ {A = Option ℕ} None (Some at) = e in cc
fault_excess (i ∷ is) at e = by_item (slice_get (i ∷ is) MAX_INSTRUCTIONS) _ e
  where
    by_item : (o : Option Item) (rest : Option (AsmKind × ℕ)) → option_map mnemonic_at o ≡ Some at
        → option_or (option_map (λ item. (kinds.TooMany, mnemonic_at item)) o) rest ≡ Some (kinds.TooMany, at)
    by_item None rest p = let k : ◌≡◌ {A = Option ℕ} None (Some at) = p in cc
    by_item (Some x) rest p = let q : mnemonic_at x ≡ at = some-same (mnemonic_at x) at p in rw q refl

-- as many as a program has: their labels and uses decide
pub fault_counted : (is : List Item) → (length is ≡ 0 → ⊥) → length is ≤ MAX_INSTRUCTIONS
    → items_fault is ≡ option_or (option_map (λ at. (kinds.LabelSetTwice, at)) (first_repeat (labels_from 0 is)))
    (uses_fault (labels_from 0 is) (uses_from 0 is))
fault_counted [] some most = absurd (some refl)
fault_counted (i ∷ is) some most = rw (slice_get_past (i ∷ is) MAX_INSTRUCTIONS most) refl

-- What the assembler keeps of items after which no label waits shows their fault.
module _ {ss : List Statement} {rep : Option ℕ} {look : Name → Option ℕ} {is : List Item}
    (k : IsKept ss rep look is []) where
  pub kept_none : length ss ≡ 0 → items_fault is ≡ Some (kinds.NoInstruction, 0)
  kept_none e = rw (nil_from_length is (omega (arith, statements_size ss is k.same))) refl

  kept_labels : AreSet (labels_from 0 is) rep look
  kept_labels = subst (λ ls. AreSet ls rep look) (append-nil (labels_from 0 is)) k.set

  kept_fault : (length ss ≡ 0 → ⊥) → items_fault is
      ≡ option_or (option_map (λ at. (kinds.LabelSetTwice, at)) (first_repeat (labels_from 0 is)))
      (uses_fault (labels_from 0 is) (uses_from 0 is))
  kept_fault some = fault_counted is (λ z. some (omega (arith, statements_size ss is k.same, z))) k.most

  -- where a label is set a second time, and where none is
  pub kept_repeat : (at : ℕ) → rep ≡ Some at → (length ss ≡ 0 → ⊥) → items_fault is ≡ Some (kinds.LabelSetTwice, at)
  kept_repeat at e some =
      let s : first_repeat (labels_from 0 is) ≡ Some at =
      subst (λ o. AreSet (labels_from 0 is) o look) e kept_labels in
      kept_fault some ∙ rw s refl

  pub kept_once : rep ≡ None → (length ss ≡ 0 → ⊥)
      → Resolves (labels_from 0 is) look × (items_fault is ≡ uses_fault (labels_from 0 is) (uses_from 0 is))
  kept_once e some = let s : AreSet (labels_from 0 is) None look = subst (λ o. AreSet (labels_from 0 is) o look) e kept_labels in
      (s.0, kept_fault some ∙ rw s.1 refl)

each_tokens : (ts : List Lexeme)
    → ((insns : List Insn) × TokensAssemble ts insns) ⊎ ((kind : AsmKind) × (at : ℕ) × IsTokensFault ts kind at)
each_tokens ts = elim (each_parsed ts) [
  | inr r ↦ let shown = each_shown ts r.0 r.1 r.2 in inr (_, shown.0, of_grammar r.0 shown.0 shown.1)
  | inl p ↦ by_fault p.0 p.1 p.2 (items_fault p.0) refl
]
  where
    by_fault : (is : List Item) → Items ts is → IsAccepted ts → (o : Option (AsmKind × ℕ)) → items_fault is ≡ o
        → ((insns : List Insn) × TokensAssemble ts insns) ⊎ ((kind : AsmKind) × (at : ℕ) × IsTokensFault ts kind at)
    by_fault is p a None e = let insns = insns_from (labels_from 0 is) 0 is in
        inl (insns, tokens_assembled ts is insns p a e refl)
    by_fault is p a (Some f) e = inr (f.0, f.1, of_items is f.0 f.1 p a e)

pub each_answered : EachAnswered
each_answered text = elim (each_lexed text) [
  | inr b ↦ inr (bad_piece_kind b.0, line_of text b.1, (b.1, of_piece b.0 b.1 b.2, refl))
  | inl l ↦ elim (each_tokens (lexemes_of text l.0)) [
    | inl a ↦ inl (a.0, record { tokens = l.0; lexed = l.1; assembled = a.1 })
    | inr f ↦ inr (f.0, line_of text f.1, (f.1, of_tokens l.0 f.0 f.1 l.1 f.2, refl))
  ]
]
