-- No token is misplaced that is a number after a `-`.
use Rattle.std.proofs.Common.{rules, ◌≡◌, ℕ, zero, suc, ◌+◌, Bool, true, false, not, ◌&&◌, ◌||◌, List, [], ◌∷◌}
use Rattle.std.proofs.Common.{◌++◌, take, refl, arith, ap, Some, eqb-true, eq-eqb, ◌⊎◌, inl, inr, sym, subst, length}
use Rattle.std.proofs.Common.{append_assoc}
use Rattle.std.specs.Prelude.{◌==◌, Contains}
use Rattle.std.specs.List.{list_all}
use Rattle.std.proofs.lemmas.Bool.{and_parts, both_ways, not-true}
use Rattle.cbpf_syntax.proofs.Elements.{list_all_at}
use Rattle.cbpf_syntax.specs.Lexemes.{Symbol, Lexeme}
use Rattle.cbpf_syntax.specs.Lexemes.Symbol.{number, mark}
use Rattle.cbpf_syntax.specs.Classes.{Class}
use Rattle.cbpf_syntax.specs.Classes.Class.{the_mark, negated, name}
use Rattle.cbpf_syntax.specs.Table.{Row, classes, mnemonics, table}
use Rattle.cbpf_syntax.specs.Fits.{fits}
use Rattle.cbpf_syntax.specs.Items.{Item, Items, BeginsItems}
use Rattle.cbpf_syntax.specs.Refusals.{symbol_at, IsLargeNegative, IsMisplaced}
use Rattle.cbpf_syntax.proofs.Fronts.{fits_front, front_nil, front_before, whole_front}
use Rattle.cbpf_syntax.proofs.Readings.{classes_of, item_fits, begins_by}
use Rattle.cbpf_syntax.proofs.Greedy.{begins_items, items_after}
use Rattle.cbpf_syntax.proofs.Cuts.{some-same}
use Rattle.cbpf_syntax.proofs.Refused.{large_parts}

abbrev pub is_minus : Class → Bool
is_minus (the_mark b) = b == 45
is_minus c = false

abbrev pub is_negated : Class → Bool
is_negated negated = true
is_negated c = false

-- after each `-` stands a literal's size
abbrev pub minus_goes_on : List Class → Bool
minus_goes_on [] = true
minus_goes_on (c ∷ []) = not (is_minus c)
minus_goes_on (c ∷ d ∷ cs) = (not (is_minus c) || is_negated d) && minus_goes_on (d ∷ cs)

table_minus : list_all (λ (r : Row). minus_goes_on (classes r)) table ≡ true
unfolding mnemonics
table_minus = refl

minus_joined : (cs ds : List Class) → minus_goes_on cs ≡ true → minus_goes_on ds ≡ true
    → minus_goes_on (cs ++ ds) ≡ true
minus_joined [] ds g h = h
minus_joined (c ∷ []) [] g h = g
minus_joined (c ∷ []) (d ∷ ds) g h = rw (g, h) refl
minus_joined (c ∷ d ∷ cs) ds g h =
    let p = and_parts (not (is_minus c) || is_negated d) (minus_goes_on (d ∷ cs)) g in
    rw (p.0, minus_joined (d ∷ cs) ds p.1 h) refl

minus_item : (count : ℕ) (r : Row) → Contains table r → minus_goes_on (classes_of count r) ≡ true
minus_item zero r p = rw p.2 at (list_all_at (λ (s : Row). minus_goes_on (classes s)) table p.0 r table_minus p.1)
minus_item (suc count) r p = minus_joined (name ∷ the_mark 58 ∷ []) (classes_of count r) refl (minus_item count r p)

minus_class : (c : Class) (t : Symbol) → t ≡ mark 45 → fits c t ≡ true → is_minus c ≡ true
minus_class c t h1 h2 = search (rules, eq-eqb, eqb-true)

number_fits : (c d : Class) (m k : Symbol) (n : ℕ) → m ≡ mark 45 → k ≡ number n → fits c m ≡ true
    → (not (is_minus c) || is_negated d) ≡ true → fits d k ≡ true
number_fits c d m k n h1 h2 h3 h4 = search (rules, minus_class)

minus_later : (c : Class) (cs : List Class) → minus_goes_on (c ∷ cs) ≡ true → minus_goes_on cs ≡ true
minus_later c [] g = refl
minus_later c (d ∷ cs) g = (and_parts (not (is_minus c) || is_negated d) (minus_goes_on (d ∷ cs)) g).1

-- where a front ends in a `-`, it goes on with a number
front_goes_on : (cs : List Class) (r : List Lexeme) (m k : Lexeme) (n : ℕ) → m.symbol ≡ mark 45 → k.symbol ≡ number n
    → minus_goes_on cs ≡ true → fits_front cs (r ++ (m ∷ [])) ≡ true → fits_front cs (r ++ (m ∷ k ∷ [])) ≡ true
front_goes_on (c ∷ []) [] m k n e f g h =
    absurd (both_ways _ (not-true _ g) (minus_class c m.symbol e (and_parts (fits c m.symbol) true h).0))
front_goes_on (c ∷ d ∷ cs) [] m k n e f g h =
    let p = (and_parts (fits c m.symbol) true h).0 in
    let q = (and_parts (not (is_minus c) || is_negated d) (minus_goes_on (d ∷ cs)) g).0 in
    rw (p, number_fits c d m.symbol k.symbol n e f p q) (front_nil cs)
front_goes_on (c ∷ cs) (t ∷ r) m k n e f g h =
    let p = and_parts (fits c t.symbol) (fits_front cs (r ++ (m ∷ []))) h in
    rw (p.0, front_goes_on cs r m k n e f (minus_later c cs g) p.1) refl
front_goes_on [] [] m k n e f g h = cc
front_goes_on [] (t ∷ r) m k n e f g h = cc

-- a token of one of two parts is in the first or in the second
parts : (f g r y : List Lexeme) (m : Lexeme) → f ++ g ≡ r ++ (m ∷ y)
    → ((s : List Lexeme) × (r ≡ f ++ s) × (g ≡ s ++ (m ∷ y))) ⊎ ((z : List Lexeme) × (f ≡ r ++ (m ∷ z)))
parts [] g r y m e = inl (r, refl, e)
parts (t ∷ f) g [] y m e = let hd : t ≡ m = cc in inr (f, ap (λ x. x ∷ f) hd)
parts (t ∷ f) g (u ∷ r) y m e =
    let tl : f ++ g ≡ r ++ (m ∷ y) = cc in
    let hd : t ≡ u = cc in
    elim (parts f g r y m tl) [
      | inl s ↦ inl (s.0, (λ k. (sym hd) k ∷ s.1 k), s.2)
      | inr z ↦ inr (z.0, λ k. hd k ∷ z.1 k)
    ]

-- where items have a `-`, a number may follow it
minus_items : (items : List Item) (r y : List Lexeme) (m k : Lexeme) (n : ℕ) → m.symbol ≡ mark 45
    → k.symbol ≡ number n → Items (r ++ (m ∷ y)) items → BeginsItems (r ++ (m ∷ k ∷ []))
minus_items [] [] y m k n e f p = cc
minus_items [] (t ∷ r) y m k n e f p = cc
minus_items (i ∷ is) r y m k n e f p = elim (parts p.0 p.1 r y m (sym p.2)) [
  | inl s ↦ rw (s.1, append_assoc p.0 s.0 (m ∷ k ∷ [])) (items_after p.0 (s.0 ++ (m ∷ k ∷ [])) i p.3
      (minus_items is s.0 y m k n e f (subst (λ us. Items us is) s.2 p.4)))
  | inr z ↦
      let cs = classes_of (length i.labels) i.row in
      let all : fits_front cs ((r ++ (m ∷ [])) ++ z.0) ≡ true =
      rw (append_assoc r (m ∷ []) z.0, ← z.1) (whole_front cs p.0 (item_fits p.0 i p.3)) in
      begins_items _ (begins_by (r ++ (m ∷ k ∷ [])) (record {
        count = length i.labels;
        row = i.row;
        known = p.3.form.known;
        fits = front_goes_on cs r m k n e f (minus_item (length i.labels) i.row p.3.form.known)
            (front_before cs (r ++ (m ∷ [])) z.0 all);
      }))
]

-- the tokens up to an index and the two there
two_at : (ts : List Lexeme) (b : ℕ) (s d : Symbol) → symbol_at ts b ≡ Some s → symbol_at ts (suc b) ≡ Some d
    → (m : Lexeme) × (k : Lexeme) × (m.symbol ≡ s) × (k.symbol ≡ d) × (take (suc b) ts ≡ take b ts ++ (m ∷ []))
    × (take (suc (suc b)) ts ≡ take b ts ++ (m ∷ k ∷ []))
two_at (t ∷ u ∷ ts) zero s d e f = (t, u, some-same t.symbol s e, some-same u.symbol d f, refl, refl)
two_at (t ∷ ts) (suc b) s d e f =
    let r = two_at ts b s d e f in
    (r.0, r.1, r.2, r.3, ap (λ us. t ∷ us) r.4, ap (λ us. t ∷ us) r.5)
two_at ts b s d e f = cc

pub never_both : (ts : List Lexeme) (i : ℕ) → IsMisplaced ts i → IsLargeNegative ts i → ⊥
never_both ts zero p q = cc
never_both ts (suc i) p q =
    let large = large_parts (symbol_at ts i) (symbol_at ts (suc i)) q in
    let two = two_at ts i (mark 45) (number large.0) large.1 large.2 in
    let b = p.before in
    let ends : Items (take i ts ++ (two.0 ∷ b.0)) b.1 =
    rw (two.4, append_assoc (take i ts) (two.0 ∷ []) b.0) at b.2 in
    let on = minus_items b.1 (take i ts) b.0 two.0 two.1 large.0 two.2 two.3 ends in
    let more : suc (suc i) ≡ suc i + 1 = omega arith in
    p.with_it (rw (← more, two.5) on)
