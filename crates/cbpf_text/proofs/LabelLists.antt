-- Labels one after another: for which item each stands, and the first that is set a second time.
use Rattle.std.proofs.lemmas.Bool.{cases_Bool}
use Rattle.std.proofs.Common.{rules, ◌≡◌, refl, sym, ◌∙◌, ap, cond, ℕ, Bool, true, false, inl, inr, List, [], ◌∷◌, ◌++◌}
use Rattle.std.proofs.Common.{Option, Some, None, append_assoc, append-nil}
use Rattle.std.specs.Prelude.{bytes_eq, is_some}
use Rattle.std.specs.Map.{lookup}
use Rattle.std.specs.Option.{option_or}
use Rattle.cbpf_syntax.specs.Lexemes.{Lexeme}
use Rattle.cbpf_syntax.proofs.Apart.{equal_bytes}
use Rattle.cbpf_text.specs.Labels.{name_of, item_named, repeat_after}
use Rattle.cbpf_text.specs.Drafts.{AreSet}
use Rattle.cbpf_text.specs.declared.name.Name.{Name}

pub lookup_append : {K X : Type 0} (p : K → Bool) (xs ys : List (K × X))
    → lookup p (xs ++ ys) ≡ option_or (lookup p xs) (lookup p ys)
lookup_append p [] ys = refl
lookup_append p (x ∷ xs) ys = elim (cases_Bool (p x.0)) [
  | inl e ↦ rw e refl
  | inr e ↦ rw e (lookup_append p xs ys)
]

-- the place of a label whose name one of those before it gives
abbrev pub repeat_at : List (Lexeme × ℕ) → Lexeme → Option ℕ
repeat_at before t = cond (is_some (item_named before (name_of t))) (Some t.at) None

-- one more label
pub repeat_more : (before ls : List (Lexeme × ℕ)) (l : Lexeme × ℕ) → repeat_after before (ls ++ (l ∷ []))
    ≡ option_or (repeat_after before ls) (repeat_at (before ++ ls) l.0)
repeat_more before [] l = rw (append-nil before) refl
repeat_more before (x ∷ ls) l = elim (cases_Bool (is_some (item_named before (name_of x.0)))) [
  | inl e ↦ rw e refl
  | inr e ↦ rw (e, ← append_assoc before (x ∷ []) ls) (repeat_more (before ++ (x ∷ [])) ls l)
]

pub is_some_false : (o : Option ℕ) → false ≡ is_some o → o ≡ None
is_some_false None e = refl
is_some_false (Some x) e = let k : false ≡ true = e in cc

-- a label after the first that is set a second time
pub set_past : (ls : List (Lexeme × ℕ)) (l : Lexeme × ℕ) (rep : Option ℕ) (look : Name → Option ℕ)
    → true ≡ is_some rep → AreSet ls rep look → AreSet (ls ++ (l ∷ [])) rep look
set_past ls l rep look h1 h2 = search (rules, repeat_more)

-- the first label that is set a second time
pub set_again : (ls : List (Lexeme × ℕ)) (l : Lexeme × ℕ) (rep : Option ℕ) (look look2 : Name → Option ℕ) (k : Name)
    → false ≡ is_some rep → AreSet ls rep look → k.bytes.now ≡ name_of l.0 → true ≡ is_some (look k)
    → AreSet (ls ++ (l ∷ [])) (Some l.0.at) look2
set_again ls l (Some at) look look2 k h1 h2 h3 h4 = let q : false ≡ true = h1 in cc
set_again ls l None look look2 k h1 h2 h3 h4 =
    let given : is_some (item_named ls (name_of l.0)) ≡ true =
    ap (λ w. is_some (item_named ls w)) (sym h3) ∙ (ap (λ (o : Option ℕ). is_some o) (sym (h2.0 k)) ∙ sym h4) in
    repeat_more [] ls l ∙ rw (h2.1, given) refl

-- a label of a new name
pub set_new : (ls : List (Lexeme × ℕ)) (l : Lexeme × ℕ) (rep : Option ℕ) (look look2 : Name → Option ℕ) (k : Name)
    → false ≡ is_some rep → AreSet ls rep look → k.bytes.now ≡ name_of l.0 → false ≡ is_some (look k)
    → ((j : Name) → look2 j ≡ cond (bytes_eq k.bytes.now j.bytes.now) (Some l.1) (look j))
    → AreSet (ls ++ (l ∷ [])) rep look2
set_new ls l (Some at) look look2 k e s n h up = let q : false ≡ true = e in cc
set_new ls l None look look2 k e s n h up =
    let new : item_named ls (name_of l.0) ≡ None =
    ap (item_named ls) (sym n) ∙ (sym (s.0 k) ∙ is_some_false (look k) h) in (
      λ j. up j ∙ rw (n, s.0 j) (by_test j.bytes.now (bytes_eq (name_of l.0) j.bytes.now) refl new),
      repeat_more [] ls l ∙ rw (s.1, new) refl,
    )
  where
    by_test : (w : List ℕ) (t : Bool) → bytes_eq (name_of l.0) w ≡ t → item_named ls (name_of l.0) ≡ None
        → cond (bytes_eq (name_of l.0) w) (Some l.1) (item_named ls w) ≡ item_named (ls ++ (l ∷ [])) w
    by_test w true q new = sym (lookup_append _ ls (l ∷ []) ∙ rw (q, ← equal_bytes (name_of l.0) w q, new) refl)
    by_test w false q new = search (rules, lookup_append)
