-- What a parser may conclude that takes, item by item, a row that no row goes beyond.
use Rattle.std.proofs.Common.{◌≡◌, ℕ, suc, ◌+◌, ◌<◌, ◌≤◌, true, List, [], ◌∷◌, ◌++◌, length, refl, ◌-◌}
use Rattle.std.proofs.Common.{arith, ap, sym, ◌∙◌, ◌⊎◌, inl, inr, subst, append_assoc, append-nil, take, drop}
use Rattle.std.proofs.Common.{length-append, length-drop}
use Rattle.std.proofs.lemmas.Bool.{and_parts, cases_lt}
use Rattle.std.proofs.lemmas.List.{take-append-drop, take-take, take_at, drop-take, length-take-le, append_cancel_left}
use Rattle.std.proofs.lemmas.List.{take-append-le, drop-append-le}
use Rattle.cbpf_syntax.specs.Classes.{Class}
use Rattle.cbpf_syntax.specs.Lexemes.{Lexeme}
use Rattle.cbpf_syntax.specs.Fits.{fits, fits_all}
use Rattle.cbpf_syntax.specs.Items.{Item, IsItem, Items, BeginsItem, BeginsItems}
use Rattle.cbpf_syntax.specs.Steps.{Goes, Stuck, IsNextItem}
use Rattle.cbpf_syntax.specs.Refusals.{ItemsStuckAt}
use Rattle.cbpf_syntax.proofs.Fronts.{fits_front, length_whole, length_front}
use Rattle.cbpf_syntax.proofs.Readings.{classes_of, item_fits, fits_so_far}
use Rattle.cbpf_syntax.proofs.Apart.{overlap, apart, overlap_sound, starts_with_comma, comma_only, comma_items}
use Rattle.cbpf_syntax.proofs.Apart.{readings_apart}

-- a front of the tokens, and what comes after it
front_rest : (n : ℕ) (ts us : List Lexeme) → ts ++ us ≡ take n ts ++ (drop n ts ++ us)
front_rest n ts us = ap (λ xs. xs ++ us) (sym (take-append-drop n ts)) ∙ append_assoc (take n ts) (drop n ts) us

begins_front : (n : ℕ) (ts : List Lexeme) → BeginsItem ts → BeginsItem (take n ts)
begins_front n ts b =
    (drop n ts ++ b.0, b.1, subst (λ us. IsItem us b.1) (front_rest n ts b.0) b.2)

begins_whole : (ts : List Lexeme) (i : Item) → IsItem ts i → BeginsItem ts
begins_whole ts i p = ([], i, subst (λ us. IsItem us i) (sym (append-nil ts)) p)

-- no longer front than the longest begins an item
no_longer : (n m : ℕ) (ts : List Lexeme) → Goes n ts → n < m → m ≤ length ts → BeginsItem (take m ts) → ⊥
no_longer n m ts g l w b =
    g.no_farther (omega arith) (rw (take-take (suc n) m ts (omega arith)) at (begins_front (suc n) (take m ts) b))

-- Theirs is whole and no longer than ours: it is ours, or it goes on with a comma.
front_split : (cs ds : List Class) (ts x us y : List Lexeme) → apart cs ds ≡ true → fits_front cs ts ≡ true
    → fits_all ds us ≡ true → ts ++ x ≡ us ++ y → length us ≤ length ts
    → (us ≡ ts) ⊎ (starts_with_comma y ≡ true)
front_split [] (d ∷ ds) [] x (u ∷ us) y a f g e l = absurd (omega arith)
front_split (c ∷ cs) [] [] x [] y a f g e l = inl refl
front_split (c ∷ cs) [] (t ∷ ts) x [] y a f g e l =
    inr (rw (← e) (comma_only c t.symbol a (and_parts (fits c t.symbol) _ f).0))
front_split (c ∷ cs) (d ∷ ds) [] x (u ∷ us) y a f g e l = absurd (omega arith)
front_split (c ∷ cs) (d ∷ ds) (t ∷ ts) x (u ∷ us) y a f g e l =
    let hd : t ≡ u = cc in
    let tl : ts ++ x ≡ us ++ y = cc in
    let p = and_parts (fits c t.symbol) (fits_front cs ts) f in
    let q = and_parts (fits d u.symbol) (fits_all ds us) g in
    let o : overlap c d ≡ true = overlap_sound t.symbol c d p.0 (rw hd q.0) in
    elim (front_split cs ds ts x us y (rw o at a) p.1 q.1 tl (omega arith)) [
      | inl same ↦ inl (λ k. (sym hd) k ∷ same k)
      | inr comma ↦ inr comma
    ]
front_split cs ds ts x us y a f g e l = cc

whole_first : (n : ℕ) (ts g y : List Lexeme) (j : Item) → Goes n ts → ts ≡ g ++ y → IsItem g j
    → (g ≡ take n ts) ⊎ (starts_with_comma y ≡ true)
whole_first n ts g y j goes e form =
    let ours = fits_so_far (take n ts) goes.begins in
    let theirs = item_fits g j form in
    let front : length (take n ts) ≡ n = length-take-le n ts goes.within in
    let size : length ts ≡ length g + length y = ap length e ∙ length-append g y in
    let is : take (length g) ts ≡ g = ap (take (length g)) e ∙ take_at g y (length g) refl in
    elim (cases_lt n (length g)) [
      | inl long ↦ absurd (no_longer n (length g) ts goes long (omega arith) (rw is (begins_whole g j form)))
      | inr short ↦ elim (readings_apart ours.count (length j.labels) ours.row j.row ours.known form.form.known) [
        | inl same ↦
            let w = length_whole (classes_of (length j.labels) j.row) g theirs in
            let v = length_front (classes_of (length j.labels) j.row) (take n ts) (rw (same.0, same.1) at ours.fits) in
            let all : length g ≡ n = omega arith in
            inl (sym (ap (take n) e ∙ take_at g y n all))
        | inr apart ↦ front_split _ _ (take n ts) (drop n ts) g y apart ours.fits theirs
            (take-append-drop n ts ∙ e) (omega arith)
      ]
    ]

-- Items have the longest front that begins one as their first.
first_item : (n : ℕ) (ts : List Lexeme) (items : List Item) → Goes n ts → 0 < length ts → Items ts items
    → (j : Item) × (ks : List Item) × IsItem (take n ts) j × Items (drop n ts) ks
first_item n ts [] goes some p = absurd (omega (arith, some, ap length p))
first_item n ts (j ∷ js) goes some p = elim (whole_first n ts p.0 p.1 j goes p.2 p.3) [
  | inl same ↦
      let rest : drop n ts ≡ p.1 = append_cancel_left (take n ts) (drop n ts) p.1
      (take-append-drop n ts ∙ (p.2 ∙ ap (λ x. x ++ p.1) same)) in
      (j, js, subst (λ x. IsItem x j) same p.3, subst (λ x. Items x js) (sym rest) p.4)
  | inr comma ↦ absurd (comma_items p.1 js p.4 comma)
]

pub begins_items : (ts : List Lexeme) → BeginsItem ts → BeginsItems ts
begins_items ts b = (b.0, b.1 ∷ [], (ts ++ b.0, [], sym (append-nil (ts ++ b.0)), b.2, refl))

pub items_after : (f ts : List Lexeme) (i : Item) → IsItem f i → BeginsItems ts → BeginsItems (f ++ ts)
items_after f ts i p b = (b.0, i ∷ b.1, (f, ts ++ b.0, append_assoc f ts b.0, p, b.2))

-- they do so with fewer tokens
pub begins_take : (ts : List Lexeme) (n : ℕ) → BeginsItems ts → BeginsItems (take n ts)
begins_take ts n b = (drop n ts ++ b.0, b.1, subst (λ us. Items us b.1) (front_rest n ts b.0) b.2)

-- the same front, and one token more, of other tokens
pub front_as : (n : ℕ) (ts us : List Lexeme) → take (suc n) ts ≡ take (suc n) us → take n ts ≡ take n us
front_as n ts us e = sym (take-take n (suc n) ts (omega arith)) ∙ (ap (take n) e ∙ take-take n (suc n) us (omega arith))

pub goes_as : (n : ℕ) (ts us : List Lexeme) → take (suc n) ts ≡ take (suc n) us → n < length ts → n < length us
    → Goes n ts → Goes n us
goes_as n ts us e l m g = record {
  within = omega arith;
  begins = subst BeginsItem (front_as n ts us e) g.begins;
  no_farther = λ _ b. g.no_farther l (subst BeginsItem (sym e) b);
}

-- the first item of what a longer front begins
first_of : (n m : ℕ) (ts : List Lexeme) → Goes n ts → n < m → m ≤ length ts → (b : BeginsItems (take m ts))
    → (j : Item) × (ks : List Item) × IsItem (take n ts) j × Items (drop n (take m ts) ++ b.0) ks
first_of n m ts goes l w b =
    let size : length (take m ts) ≡ m = length-take-le m ts w in
    let e : take (suc n) ts ≡ take (suc n) (take m ts ++ b.0) =
    sym (take-append-le (suc n) (take m ts) b.0 (omega arith) ∙ take-take (suc n) m ts (omega arith)) in
    let long : n < length (take m ts ++ b.0) = omega (arith, length-append (take m ts) b.0) in
    let r = first_item n (take m ts ++ b.0) b.1
    (goes_as n ts (take m ts ++ b.0) e (omega arith) long goes) (omega arith) b.2 in
    let rest : drop n (take m ts ++ b.0) ≡ drop n (take m ts) ++ b.0 = drop-append-le n (take m ts) b.0 (omega arith) in (
      r.0,
      r.1,
      subst (λ x. IsItem x r.0) (sym (front_as n ts (take m ts ++ b.0) e)) r.2,
      subst (λ x. Items x r.1) rest r.3,
    )

-- where no item is at the front, the tokens don't go on
pub stuck_first : (n : ℕ) (ts : List Lexeme) → 0 < length ts → Stuck n ts → ItemsStuckAt ts n
stuck_first n ts some s = record {
  within = s.goes.within;
  before = begins_items (take n ts) s.goes.begins;
  next = λ l b. let r = first_of n (n + 1) ts s.goes (omega arith) (omega arith) b in s.none r.0 r.2;
  end = λ e js p. let r = first_item n ts js s.goes some p in s.none r.0 r.2;
}

-- where they don't go on after an item, they don't with it
pub stuck_after : (n s : ℕ) (ts : List Lexeme) (i : Item) → IsNextItem ts n i → n < length ts
    → ItemsStuckAt (drop n ts) s → ItemsStuckAt ts (n + s)
stuck_after n s ts i next l stuck =
    let rest : length (drop n ts) ≡ length ts - n = length-drop n ts in
    record {
      within = omega (arith, stuck.within);
      before = subst BeginsItems (take_both n s ts) (items_after (take n ts) _ i next.is_item stuck.before);
      next = λ k b.
          let r = first_of n (n + s + 1) ts next.goes (omega arith) (omega arith) b in
          let add : n + s + 1 ≡ n + (s + 1) = omega arith in
          let is : drop n (take (n + s + 1) ts) ≡ take (s + 1) (drop n ts) =
          ap (λ m. drop n (take m ts)) add ∙ drop-take n (s + 1) ts in
          stuck.next (omega (arith, k)) (b.0, r.1, subst (λ us. Items (us ++ b.0) r.1) is r.3);
      end = λ e js p. let r = first_item n ts js next.goes (omega arith) p in stuck.end (omega (arith, e)) r.1 r.3;
    }
  where
    take_both : (n s : ℕ) (ts : List Lexeme) → take n ts ++ take s (drop n ts) ≡ take (n + s) ts
    take_both n s ts =
        rw (← drop-take n s ts, ← take-take n (n + s) ts (omega arith)) (take-append-drop n (take (n + s) ts))

-- the tokens are the items, each taken by a row that no row goes beyond, and then the rest
abbrev pub Greedy : List Lexeme → List Item → List Lexeme → Type 0
Greedy ts [] rest = ts ≡ rest
Greedy ts (i ∷ is) rest = (n : ℕ) × IsNextItem ts n i × Greedy (drop n ts) is rest
