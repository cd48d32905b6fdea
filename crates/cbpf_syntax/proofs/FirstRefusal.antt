-- The first refusal of a token list, and how it is reported: lemmas with a case for each refusal.
use Rattle.std.proofs.Common.{◌≡◌, ℕ, ◌+◌, ◌-◌, ◌<◌, ◌≤◌, min, List, [], ◌∷◌, length, take, refl, arith, ap, sym}
use Rattle.std.proofs.Common.{◌∙◌, inl, inr, subst, append-nil, Some, None, option_map}
use Rattle.std.proofs.lemmas.List.{take_all, take-take}
use Rattle.std.proofs.lemmas.Bool.{cases_lt}
use Rattle.std.proofs.lemmas.Option.{slice_get-get_or}
use Rattle.cbpf_syntax.specs.Lexemes.{Lexeme}
use Rattle.cbpf_syntax.specs.Items.{Item, Items, BeginsItems}
use Rattle.cbpf_syntax.specs.Refusals.ParseFault.{Misplaced, LargeNegative, Unfinished}
use Rattle.cbpf_syntax.specs.Refusals.{ParseFault, IsLargeNegative, ItemsStuckAt, IsRefusedAt, IsFirstRefusal}
use Rattle.cbpf_syntax.specs.Refusals.{IsAccepted, IsPositionOf, IsFirstRefusalAtPosition}
use Rattle.cbpf_syntax.specs.Ahead.{IsFirstLarge}
use Rattle.cbpf_syntax.specs.Laws.{OneFirstRefusal, EachParsed}
use Rattle.cbpf_syntax.proofs.Cuts.{some-same}
use Rattle.cbpf_syntax.proofs.Greedy.{begins_take}
use Rattle.cbpf_syntax.proofs.Refused.{large_within}
use Rattle.cbpf_syntax.proofs.Minus.{never_both}
use Rattle.cbpf_syntax.proofs.Answered.{reach, first_large}
use Rattle.cbpf_syntax.proofs.Taking.{place_left, place_right, large_left}
use Rattle.std.proofs.Common.{◌++◌, length-append}

-- Where the tokens begin items up to an index, and no literal before one is too large, nothing is refused before that.
not_before : (ts : List Lexeme) (s i : ℕ) → BeginsItems (take s ts) → i ≤ s → s ≤ length ts
    → ((k : ℕ) → k < i → IsLargeNegative ts k → ⊥) → (other : ParseFault) (q : ℕ) → IsRefusedAt ts other q → i ≤ q
not_before ts s i b l w none Misplaced q r = elim (cases_lt q s) [
  | inl m ↦ absurd
      (r.with_it (subst BeginsItems (take-take (q + 1) s ts (omega arith)) (begins_take (take s ts) (q + 1) b)))
  | inr m ↦ omega arith
]
not_before ts s i b l w none LargeNegative q r = elim (cases_lt q i) [ inl m ↦ absurd (none q m r) | inr m ↦ m ]
not_before ts s i b l w none Unfinished q r = omega (arith, r.0)

large_first : (ts : List Lexeme) (s i : ℕ) → ItemsStuckAt ts s → i < s → IsLargeNegative ts i
    → ((k : ℕ) → k < i → IsLargeNegative ts k → ⊥) → IsFirstRefusal ts LargeNegative i
large_first ts s i stuck l large none =
    record { refused = large; first = not_before ts s i stuck.before (omega arith) stuck.within none }

misplaced_first : (ts : List Lexeme) (s : ℕ) → ItemsStuckAt ts s → s < length ts
    → ((k : ℕ) → k < s → IsLargeNegative ts k → ⊥) → IsFirstRefusal ts Misplaced s
misplaced_first ts s stuck l none = record {
  refused = record { within = l; before = stuck.before; with_it = stuck.next l };
  first = not_before ts s s stuck.before (omega arith) stuck.within none;
}

unfinished_first : (ts : List Lexeme) (s : ℕ) → ItemsStuckAt ts s → s ≡ length ts
    → ((k : ℕ) → k < s → IsLargeNegative ts k → ⊥) → IsFirstRefusal ts Unfinished s
unfinished_first ts s stuck e none = record {
  refused = (
    e,
    record {
      begins = subst BeginsItems (take_all s ts (omega (arith, e))) stuck.before;
      none = stuck.end e;
    },
  );
  first = not_before ts s s stuck.before (omega arith) stuck.within none;
}

-- Where the tokens are items.
items_begin : (ts : List Lexeme) (items : List Item) → Items ts items → BeginsItems ts
items_begin ts items p = ([], items, subst (λ us. Items us items) (sym (append-nil ts)) p)

pub items_accepted : (ts : List Lexeme) (items : List Item) → Items ts items → ((k : ℕ) → IsLargeNegative ts k → ⊥)
    → IsAccepted ts
items_accepted ts items p none Misplaced q r = r.with_it (begins_take ts (q + 1) (items_begin ts items p))
items_accepted ts items p none LargeNegative q r = none q r
items_accepted ts items p none Unfinished q r = r.1.none items p

items_large : (ts : List Lexeme) (items : List Item) (i : ℕ) → Items ts items → IsLargeNegative ts i
    → ((k : ℕ) → k < i → IsLargeNegative ts k → ⊥) → IsFirstRefusal ts LargeNegative i
items_large ts items i p large none =
    let l = large_within ts i large in
    let begin = begins_take ts (length ts) (items_begin ts items p) in
    record { refused = large; first = not_before ts (length ts) i begin (omega arith) (omega arith) none }

same_fault : (ts : List Lexeme) (f g : ParseFault) (p : ℕ) → IsRefusedAt ts f p → IsRefusedAt ts g p → f ≡ g
same_fault ts Misplaced Misplaced p a b = refl
same_fault ts Misplaced LargeNegative p a b = absurd (never_both ts p a b)
same_fault ts Misplaced Unfinished p a b = absurd (omega (arith, b.0, a.within))
same_fault ts LargeNegative Misplaced p a b = absurd (never_both ts p b a)
same_fault ts LargeNegative LargeNegative p a b = refl
same_fault ts LargeNegative Unfinished p a b = absurd (omega (arith, b.0, large_within ts p a))
same_fault ts Unfinished Misplaced p a b = absurd (omega (arith, a.0, b.within))
same_fault ts Unfinished LargeNegative p a b = absurd (omega (arith, a.0, large_within ts p b))
same_fault ts Unfinished Unfinished p a b = refl

pub one_refusal : OneFirstRefusal
one_refusal ts f g p q a b =
    let before = a.first g q b.refused in
    let after = b.first f p a.refused in
    let e : p ≡ q = omega arith in
    (same_fault ts f g q (subst (λ i. IsRefusedAt ts f i) e a.refused) b.refused, e)

pub each_parsed : EachParsed
each_parsed ts = elim (reach ts (length ts) 0 [] (omega arith) refl) [
  | inl p ↦ elim (first_large ts (length ts)) [
    | inl f ↦ inr (LargeNegative, f.0, items_large ts p.0 f.0 p.1 f.2 f.3)
    | inr none ↦ inl (p.0, p.1, items_accepted ts p.0 p.1 (λ k h. none k (large_within ts k h) h))
  ]
  | inr q ↦ elim (first_large ts q.0) [
    | inl f ↦ inr (LargeNegative, f.0, large_first ts q.0 f.0 q.1 f.1 f.2 f.3)
    | inr none ↦ elim (cases_lt q.0 (length ts)) [
      | inl l ↦ inr (Misplaced, q.0, misplaced_first ts q.0 q.1 l none)
      | inr l ↦ inr (Unfinished, q.0, unfinished_first ts q.0 q.1 (omega (arith, q.1.within)) none)
    ]
  ]
]

-- The first refusal of tokens of a text, as it is reported.

-- a list of no tokens is items, so each refusal has a token that shows it
pub each_shown : (ts : List Lexeme) (f : ParseFault) (p : ℕ) → IsFirstRefusal ts f p
    → (at : ℕ) × IsFirstRefusalAtPosition ts f at
each_shown [] f p r = absurd (items_accepted [] [] refl (λ k h. omega (arith, large_within [] k h)) f p r.refused)
each_shown (t ∷ ts) f p r =
    let some = slice_get-get_or (t ∷ ts) (min p (length (t ∷ ts) - 1)) t (omega arith) in
    (_, record { index = p; first = r; shown = ap (option_map (λ (u : Lexeme). u.at)) some })

pub one_shown : (ts : List Lexeme) (f g : ParseFault) (m n : ℕ) → IsFirstRefusalAtPosition ts f m
    → IsFirstRefusalAtPosition ts g n
    → (f ≡ g) × (m ≡ n)
one_shown ts f g m n a b =
    let e = one_refusal ts f g a.index b.index a.first b.first in
    (e.0, some-same m n (sym (subst (λ p. IsPositionOf ts (min p (length ts - 1)) m) e.1 a.shown) ∙ b.shown))

-- a refusal that is shown by the token at its index
shown_there : (ts : List Lexeme) (f : ParseFault) (p at : ℕ) → p < length ts → IsFirstRefusal ts f p
    → IsPositionOf ts p at → IsFirstRefusalAtPosition ts f at
shown_there ts f p at l r place =
    let e : min p (length ts - 1) ≡ p = omega arith in record { index = p; first = r; shown = rw e place }

pub refused_large : (us vs : List Lexeme) (at : ℕ) → ItemsStuckAt (us ++ vs) (length us) → IsFirstLarge us (Some at)
    → IsFirstRefusalAtPosition (us ++ vs) LargeNegative at
refused_large us vs at stuck h =
    let l = large_within us h.0 h.1 in
    let here = large_left us vs h.0 l ∙ h.1 in
    shown_there (us ++ vs) LargeNegative h.0 at (large_within (us ++ vs) h.0 here)
    (large_first (us ++ vs) (length us) h.0 stuck l here
    (λ k b g. h.2 k b (sym (large_left us vs k (omega arith)) ∙ g))) (place_left us vs h.0 at l h.3)

-- the same where the tokens are items
pub large_refused : (ts : List Lexeme) (items : List Item) (at : ℕ) → Items ts items → IsFirstLarge ts (Some at)
    → IsFirstRefusalAtPosition ts LargeNegative at
large_refused ts items at p h =
    shown_there ts LargeNegative h.0 at (large_within ts h.0 h.1) (items_large ts items h.0 p h.1 h.2) h.3

pub refused_misplaced : (us vs : List Lexeme) (at : ℕ) → IsPositionOf vs 0 at → ItemsStuckAt (us ++ vs) (length us)
    → IsFirstLarge us None → IsFirstRefusalAtPosition (us ++ vs) Misplaced at
refused_misplaced us [] at place stuck none = cc
refused_misplaced us (v ∷ vs) at place stuck none =
    let l : length us < length (us ++ (v ∷ vs)) = omega (arith, length-append us (v ∷ vs)) in
    let here : length us + 0 ≡ length us = omega arith in
    shown_there (us ++ (v ∷ vs)) Misplaced (length us) at l
    (misplaced_first (us ++ (v ∷ vs)) (length us) stuck l (λ k b g. none k (sym (large_left us (v ∷ vs) k b) ∙ g)))
    (rw here at (place_right us (v ∷ vs) 0 at place))

-- a list of no tokens is items
stuck_some : (ts : List Lexeme) (i : ℕ) → ItemsStuckAt ts i → 0 < length ts
stuck_some [] i stuck = absurd (stuck.end (omega (arith, stuck.within)) [] refl)
stuck_some (t ∷ ts) i stuck = omega arith

pub refused_unfinished : (us vs : List Lexeme) (at : ℕ) → vs ≡ []
    → (0 < length us → IsPositionOf us (length us - 1) at) → ItemsStuckAt (us ++ vs) (length us) → IsFirstLarge us None
    → IsFirstRefusalAtPosition (us ++ vs) Unfinished at
refused_unfinished us (v ∷ vs) at e place stuck none = cc
refused_unfinished us [] at e place stuck none =
    let last : min (length us) (length us - 1) ≡ length us - 1 = omega arith in
    let whole : ItemsStuckAt us (length us) = rw append-nil at stuck in
    rw append-nil (record {
      index = length us;
      first = unfinished_first us (length us) whole refl (λ k b. none k);
      shown = rw last (place (stuck_some us (length us) whole));
    })
