-- Steps of the reader, one after another.
use Rattle.std.proofs.Common.{◌≡◌, ◌≢◌, ℕ, inl, inr, List, [], ◌∷◌, ◌++◌, length, drop, append_assoc, append-nil}
use Rattle.std.proofs.Common.{◌≤◌, length-append, refl, sym, ◌∙◌, ap, subst, arith, Some, None}
use Rattle.cbpf_code.specs.WordTokens.{tokens, tokens_from}
use Rattle.cbpf_code.specs.WordText.{Due, count, count_comma, code, comma, end_fault, first_word_fault, numbers}
use Rattle.cbpf_code.specs.WordText.{in_fours, list_of, Spells, Refused}
use Rattle.cbpf_code.proofs.WordAnswerLemmas.{as-refused}
use Rattle.cbpf_code.specs.WordSteps.{fault_from, PassesTokens, IsFaultAt, IsReadWhole, fields_of}
use Rattle.cbpf_code.specs.declared.insn.Insn.{Insn}
use Rattle.cbpf_code.specs.declared.words.WordFault.TheVariants.{NumberExpected, CountDiffers, CommaExpected}
use Rattle.cbpf_code.specs.declared.words.WordFault.{WordFault}

-- the text was read up to `at`: its count, and a list with a comma after each instruction; where the text ends there, the
-- last comma may be missing
abbrev pub IsRead : List ℕ → ℕ → List Insn → ℕ → Type 0
IsRead text n list at = PassesTokens text count 0 (n ∷ fields_of list) code at

pub passes-then : {text : List ℕ} {a b c : Due} {at mid end : ℕ} {ns ms : List ℕ} → PassesTokens text a at ns b mid
    → PassesTokens text b mid ms c end → PassesTokens text a at (ns ++ ms) c end
passes-then {text} {a} {b} {c} {at} {mid} {end} {ns} {ms} x y = record {
  within = y.within;
  after = omega (arith, x.after, y.after);
  good = x.good ∙ y.good;
  spelled = x.spelled ∙ ap (λ (t : List ℕ). ns ++ t) y.spelled
      ∙ sym (append_assoc ns ms (numbers (tokens_from text end)));
}

-- what is wrong after good tokens
stops-then : {text : List ℕ} {a b : Due} {at mid : ℕ} {ns : List ℕ} {e at_end : WordFault}
    → PassesTokens text a at ns b mid
    → IsFaultAt text b mid e at_end → (tokens_from text mid ≡ [] → end_fault b (length text) ≡ Some at_end)
    → fault_from text a at ≡ Some e
stops-then x (inl h) last = x.good ∙ h
stops-then {text} {a} {b} x (inr h) last =
    x.good ∙ ap (first_word_fault b (length text)) h.0 ∙ last h.0 ∙ ap Some (sym h.1)

in_fours-fields : (list : List Insn) → in_fours (fields_of list) ≡ list
in_fours-fields [] = refl
in_fours-fields (i ∷ is) = ap (λ (l : List Insn). i ∷ l) (in_fours-fields is)

fields_of-push : (list : List Insn) (i : Insn)
    → fields_of list ++ (i.code ∷ i.jt ∷ i.jf ∷ i.k ∷ []) ≡ fields_of (list ++ i ∷ [])
fields_of-push [] i = refl
fields_of-push (x ∷ xs) i = ap (λ (l : List ℕ). x.code ∷ x.jt ∷ x.jf ∷ x.k ∷ l) (fields_of-push xs i)

read-insn : (text : List ℕ) (n : ℕ) (list : List Insn) (i : Insn) (at end : ℕ) → IsRead text n list at
    → PassesTokens text code at (i.code ∷ i.jt ∷ i.jf ∷ i.k ∷ []) comma end
    → PassesTokens text count 0 (n ∷ fields_of (list ++ i ∷ [])) comma end
read-insn text n list i at end r x =
    subst (λ (ns : List ℕ). PassesTokens text count 0 (n ∷ ns) comma end) (fields_of-push list i) (passes-then r x)

pub read-next : (text : List ℕ) (n : ℕ) (list : List Insn) (i : Insn) (at mid end : ℕ) → IsRead text n list at
    → PassesTokens text code at (i.code ∷ i.jt ∷ i.jf ∷ i.k ∷ []) comma mid → PassesTokens text comma mid [] code end
    → IsRead text n (list ++ i ∷ []) end
read-next text n list i at mid end r x y = grind (arith, append-nil, passes-then, read-insn)

pub five : (text : List ℕ) (n : ℕ) (list : List Insn) (i : Insn) (at end : ℕ) → IsRead text n list at
    → PassesTokens text code at (i.code ∷ i.jt ∷ i.jf ∷ i.k ∷ []) comma end → 5 ≤ length (numbers (tokens text))
five text n list i at end r x =
    omega (arith, ap length r.spelled, ap length x.spelled, length-append (n ∷ fields_of list) (numbers (tokens_from text at)))

-- the end, where it may stand
read-end : (text : List ℕ) (n : ℕ) (list : List Insn) (due : Due) (end : ℕ)
    → PassesTokens text count 0 (n ∷ fields_of list) due end → tokens_from text end ≡ []
    → end_fault due (length text) ≡ None → IsReadWhole text n list
read-end text n list due end r e fine = grind (arith, append-nil)

pub read-last : (text : List ℕ) (n : ℕ) (list : List Insn) (i : Insn) (at end : ℕ) → IsRead text n list at
    → PassesTokens text code at (i.code ∷ i.jt ∷ i.jf ∷ i.k ∷ []) comma end → tokens_from text end ≡ []
    → IsReadWhole text n (list ++ i ∷ [])
read-last text n list i at end r x e =
    read-end text n (list ++ i ∷ []) comma end (read-insn text n list i at end r x) e refl

whole-list : (text : List ℕ) (n : ℕ) (list : List Insn) → IsReadWhole text n list → list ≡ list_of text
whole-list text n list w = sym (ap (λ (ns : List ℕ). in_fours (drop 1 ns)) w.spelled ∙ in_fours-fields list)

pub whole-spells : (text : List ℕ) (n : ℕ) (list : List Insn) → IsReadWhole text n list → n ≡ length list
    → Spells text list
whole-spells text n list w same = grind (arith, whole-list)

pub whole-miscounts : (text : List ℕ) (n : ℕ) (list : List Insn) → IsReadWhole text n list → n ≢ length list
    → Refused text (CountDiffers n (length list))
whole-miscounts text n list w differs = grind (arith, whole-list)

-- ---- refusals

pub stops-first : (text : List ℕ) (e : WordFault) → IsFaultAt text count 0 e (NumberExpected (length text))
    → Refused text e
stops-first text e (inl h) = as-refused text e (inl h)
stops-first text e (inr h) =
    as-refused text e (inl (ap (first_word_fault count (length text)) h.0 ∙ ap Some (sym h.1)))

pub stops-count : (text : List ℕ) (n a : ℕ) (e : WordFault) → PassesTokens text count 0 (n ∷ []) count_comma a
    → IsFaultAt text count_comma a e (CommaExpected (length text)) → Refused text e
stops-count text n a e x s = as-refused text e (inl (stops-then x s (λ none. refl)))

pub stops-fields : (text : List ℕ) (n : ℕ) (list : List Insn) (at : ℕ) (e : WordFault) → IsRead text n list at
    → (tokens_from text at ≡ [] → ⊥) → IsFaultAt text code at e (NumberExpected (length text)) → Refused text e
stops-fields text n list at e r some s = as-refused text e (inl (stops-then r s (λ none. absurd (some none))))

pub ruleset reading = (stops-first, stops-count, stops-fields, whole-spells, whole-miscounts)
