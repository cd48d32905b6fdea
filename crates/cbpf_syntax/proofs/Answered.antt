-- Each token list is items, or goes on no farther than an index: of each the longest front that begins a row is found.
use Rattle.std.proofs.Common.{rules, ◌≡◌, ℕ, zero, suc, ◌+◌, ◌<◌, ◌≤◌, Bool, true, false, List, [], ◌∷◌, ◌++◌, length}
use Rattle.std.proofs.Common.{take, drop, refl, arith, ◌⊎◌, inl, inr}
use Rattle.std.specs.List.{list_any}
use Rattle.std.proofs.lemmas.Bool.{cases_lt, cases_Bool, both_ways}
use Rattle.cbpf_syntax.specs.Classes.Class.{the_mark, name}
use Rattle.cbpf_syntax.specs.Lexemes.{Lexeme}
use Rattle.cbpf_syntax.specs.Table.{classes, table}
use Rattle.cbpf_syntax.specs.Fits.{fits, fits_all}
use Rattle.cbpf_syntax.specs.Items.{Item, Items, IsItem}
use Rattle.cbpf_syntax.specs.Steps.{Goes, Stuck, IsNextItem, starts_with_colon}
use Rattle.cbpf_syntax.specs.Refusals.{is_large_at, IsLargeNegative, ItemsStuckAt}
use Rattle.cbpf_syntax.proofs.Elements.{any_element, some_element}
use Rattle.cbpf_syntax.proofs.Fronts.{fits_front}
use Rattle.cbpf_syntax.proofs.Readings.{bare_item, fits_so_far, begins_by}
use Rattle.cbpf_syntax.proofs.Apart.{no_item}
use Rattle.cbpf_syntax.proofs.Greedy.{Greedy}
use Rattle.cbpf_syntax.proofs.Steps.{some_known, bare_front, bare_fits, name_stuck, label_stuck, label_item}
use Rattle.cbpf_syntax.proofs.Steps.{end_stuck}
use Rattle.cbpf_syntax.proofs.Refused.{greedy_more, greedy_all, next_some, stuck_at}

-- what stands at the front of tokens
abbrev NextOrStuck : List Lexeme → Type 0
NextOrStuck ts = ((n : ℕ) × (i : Item) × IsNextItem ts n i) ⊎ ((n : ℕ) × Stuck n ts)

abbrev some_front : List Lexeme → Bool
some_front ts = list_any (λ r. fits_front (classes r) ts) table

abbrev some_whole : List Lexeme → Bool
some_whole ts = list_any (λ r. fits_all (classes r) ts) table

-- the longest front that begins a row, of those after n tokens, of which there are so many at most
longest : (ts : List Lexeme) (left n : ℕ) → length ts ≤ n + left → n ≤ length ts → some_front (take n ts) ≡ true
    → (m : ℕ) × (m ≤ length ts) × (some_front (take m ts) ≡ true)
    × (m < length ts → some_front (take (suc m) ts) ≡ false)
longest ts zero n l w h = (n, w, h, λ k. absurd (omega (arith, l)))
longest ts (suc left) n l w h = elim (cases_lt n (length ts)) [
  | inr end ↦ (n, w, h, λ k. absurd (omega arith))
  | inl more ↦ elim (cases_Bool (some_front (take (suc n) ts))) [
    | inl on ↦ longest ts left (suc n) (omega arith) (omega arith) on
    | inr off ↦ (n, w, h, λ _. off)
  ]
]

base_step : (t : Lexeme) (ts : List Lexeme) → fits name t.symbol ≡ false → NextOrStuck (t ∷ ts)
base_step t ts s = by_whole (cases_Bool (some_whole (take front.0 (t ∷ ts))))
  where
    front : (m : ℕ) × (m ≤ length (t ∷ ts)) × (some_front (take m (t ∷ ts)) ≡ true)
        × (m < length (t ∷ ts) → some_front (take (suc m) (t ∷ ts)) ≡ false)
    front = longest (t ∷ ts) (length (t ∷ ts)) 0 (omega arith) (omega arith)
        (any_element (λ r. fits_front (classes r) []) table some_known.0 some_known.1 refl)

    goes : Goes front.0 (t ∷ ts)
    goes =
        let r = some_element (λ r. fits_front (classes r) (take front.0 (t ∷ ts))) table front.2 in
        record {
          within = front.1;
          begins = begins_by (take front.0 (t ∷ ts)) (record { count = 0; row = r.0; known = r.1; fits = r.2 });
          no_farther = λ l b.
              let r = fits_so_far (t ∷ take front.0 ts) b in
              let fit = bare_front r.count r.row t (take front.0 ts) s r.fits in
              both_ways _ (front.3 l)
              (any_element (λ r. fits_front (classes r) (t ∷ take front.0 ts)) table r.row r.known fit);
        }

    by_whole : (some_whole (take front.0 (t ∷ ts)) ≡ true) ⊎ (some_whole (take front.0 (t ∷ ts)) ≡ false)
        → NextOrStuck (t ∷ ts)
    by_whole (inl found) =
        let r = some_element (λ r. fits_all (classes r) (take front.0 (t ∷ ts))) table found in
        inl (front.0, _, record { goes = goes; is_item = bare_item r.0 (take front.0 (t ∷ ts)) r.1 r.2 })
    by_whole (inr other) = inr (front.0, record { goes = goes; none = λ i form. none front.0 i form other })
      where
        none : (n : ℕ) (i : Item) → IsItem (take n (t ∷ ts)) i → some_whole (take n (t ∷ ts)) ≡ false → ⊥
        none zero i p other = no_item i p
        none (suc n) i p other = both_ways _ other
            (any_element (λ r. fits_all (classes r) (t ∷ take n ts)) table i.row p.form.known (bare_fits i t (take n ts) s p))

bare_step : (t : Lexeme) (ts : List Lexeme) → starts_with_colon ts ≡ false → NextOrStuck (t ∷ ts)
bare_step t ts c = elim (cases_Bool (fits name t.symbol)) [
  | inl e ↦ inr (1, name_stuck t ts e c)
  | inr e ↦ base_step t ts e
]

-- a label and its colon before a step
label_step : (t u : Lexeme) (ts : List Lexeme) → fits name t.symbol ≡ true → fits (the_mark 58) u.symbol ≡ true
    → NextOrStuck ts → NextOrStuck (t ∷ u ∷ ts)
label_step t u ts a b (inl p) = inl (suc (suc p.0), _, label_item t u ts p.0 p.1 a b p.2)
label_step t u ts a b (inr p) = inr (suc (suc p.0), label_stuck t u ts p.0 a b p.1)

step : (ts : List Lexeme) → NextOrStuck ts
step [] = inr (0, end_stuck)
step (t ∷ []) = bare_step t [] refl
step (t ∷ u ∷ ts) = elim (cases_Bool (fits (the_mark 58) u.symbol)) [
  | inl c ↦ elim (cases_Bool (fits name t.symbol)) [
    | inl e ↦ label_step t u ts e c (step ts)
    | inr e ↦ base_step t (u ∷ ts) e
  ]
  | inr c ↦ bare_step t (u ∷ ts) c
]

-- the tokens are items, or don't go on at an index; of those after the ones that were read there are so many at most
pub reach : (ts : List Lexeme) (left at : ℕ) (is : List Item) → length ts ≤ at + left → Greedy ts is (drop at ts)
    → ((js : List Item) × Items ts js) ⊎ ((s : ℕ) × ItemsStuckAt ts s)
reach ts zero at is l p = inl (is, greedy_all ts is at (omega (arith, l)) p)
reach ts (suc left) at is l p = elim (cases_lt at (length ts)) [
  | inr end ↦ inl (is, greedy_all ts is at end p)
  | inl more ↦ elim (step (drop at ts)) [
    | inl q ↦ reach ts left (at + q.0) (is ++ (q.1 ∷ [])) (omega (arith, l, next_some (drop at ts) q.0 q.1 q.2))
        (greedy_more ts is at q.0 q.1 p q.2)
    | inr q ↦ inr (at + q.0, stuck_at ts is at q.0 more p q.1)
  ]
]

-- the first of those before an index, or none is there
abbrev HasFirst : List Lexeme → ℕ → Type 0
HasFirst ts n = ((i : ℕ) × (i < n) × IsLargeNegative ts i × ((k : ℕ) → k < i → IsLargeNegative ts k → ⊥))
    ⊎ ((k : ℕ) → k < n → IsLargeNegative ts k → ⊥)

none_more : (ts : List Lexeme) (n : ℕ) → ((k : ℕ) → k < n → IsLargeNegative ts k → ⊥) → (IsLargeNegative ts n → ⊥)
    → (k : ℕ) → k < suc n → IsLargeNegative ts k → ⊥
none_more ts n h1 h2 k h3 h4 = search (rules, cases_lt)

pub first_large : (ts : List Lexeme) (n : ℕ) → HasFirst ts n
first_large ts zero = inr (λ k l h. omega (arith, l))
first_large ts (suc n) = elim (first_large ts n) [
  | inl f ↦ inl (f.0, omega (arith, f.1), f.2, f.3)
  | inr none ↦ elim (cases_Bool (is_large_at ts n)) [
    | inl h ↦ inl (n, omega arith, h, none)
    | inr last ↦ inr (none_more ts n none (λ h. both_ways _ last h))
  ]
]
