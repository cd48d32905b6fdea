-- No two rows of the table fit the same tokens, unless one goes on with a comma where the other ends.
use Rattle.std.proofs.Common.{rules, ◌≡◌, ℕ, Bool, true, false, not, ◌&&◌, ◌||◌, List, [], ◌∷◌, ◌++◌, length, refl, sym}
use Rattle.std.proofs.Common.{arith, ◌∙◌, ◌⊎◌, inl, inr, eq-eqb, eqb-true, zero, suc, ap, subst}
use Rattle.std.specs.Prelude.{◌==◌, bytes_eq, nat_lt, Contains}
use Rattle.std.specs.List.{list_all}
use Rattle.std.proofs.lemmas.Bool.{and_parts}
use Rattle.std.proofs.lemmas.Slice.Eq.{bytes_eq-Decides}
use Rattle.cbpf_syntax.specs.Classes.{Class}
use Rattle.cbpf_syntax.specs.Lexemes.{Symbol, Lexeme}
use Rattle.cbpf_syntax.specs.Fits.{fits, fits_all, is_one_of, is_reserved, extension_names, mnemonic_words}
use Rattle.cbpf_syntax.specs.Table.{operand_words, Row, classes, mnemonics, table}
use Rattle.cbpf_syntax.specs.Lexemes.Symbol.{word, number, mark}
use Rattle.cbpf_syntax.specs.Classes.Class.{the_word, the_mark, literal, negated, exactly, extension, name}
use Rattle.cbpf_syntax.proofs.Elements.{list_all_at, all_pairs, same_or_pair}
use Rattle.cbpf_syntax.proofs.Fronts.{fits_front, front_nil, whole_front}
use Rattle.cbpf_syntax.proofs.Readings.{classes_of, item_fits, begins_by}
use Rattle.cbpf_syntax.specs.Items.{Item, AreLabels, IsItem, Items, BeginsItem}

abbrev pub is_numeric : Class → Bool
is_numeric literal = true
is_numeric negated = true
is_numeric (exactly m) = true
is_numeric c = false

-- whether some token may fit both
abbrev pub overlap : Class → Class → Bool
overlap (the_word v) (the_word w) = bytes_eq v w
overlap (the_word v) extension = is_one_of extension_names v
overlap (the_word v) name = not (is_reserved v)
overlap (the_mark a) (the_mark b) = a == b
overlap literal d = is_numeric d
overlap negated d = is_numeric d
overlap (exactly m) d = is_numeric d
overlap extension (the_word w) = is_one_of extension_names w
overlap extension extension = true
overlap name (the_word w) = not (is_reserved w)
overlap name name = true
overlap c d = false

abbrev pub is_comma : Class → Bool
is_comma (the_mark b) = b == 44
is_comma c = false

-- at some index no token fits both, or the longer one goes on with a comma
abbrev pub apart : List Class → List Class → Bool
apart [] [] = false
apart [] (d ∷ ds) = is_comma d
apart (c ∷ cs) [] = is_comma c
apart (c ∷ cs) (d ∷ ds) = not (overlap c d) || apart cs ds

pub table_some : nat_lt 0 (length table) ≡ true
unfolding mnemonics extension_names
table_some = refl

abbrev both_apart : Row → Row → Bool
both_apart r s = apart (classes r) (classes s) && apart (classes s) (classes r)

table_apart : all_pairs both_apart table ≡ true
unfolding mnemonics extension_names
table_apart = refl

or_case : (a b c : Bool) → b ≡ true → not ((a || b) || c) ≡ true → ⊥
or_case a b c h1 h2 = search (rules)

pub equal_bytes : (v w : List ℕ) → bytes_eq v w ≡ true → v ≡ w
equal_bytes v w e = (bytes_eq-Decides v w).0 e

pub bytes_eq_self : (v : List ℕ) → bytes_eq v v ≡ true
bytes_eq_self v = (bytes_eq-Decides v v).1 refl

words_case : (u v w : List ℕ) → bytes_eq u v ≡ true → bytes_eq u w ≡ true → bytes_eq v w ≡ true
words_case u v w h e = rw (← equal_bytes u v h, ← equal_bytes u w e) (bytes_eq_self u)

mark_case : (o a b : ℕ) → (o == a) ≡ true → (o == b) ≡ true → (a == b) ≡ true
mark_case o a b h e = let h' : o ≡ a = eqb-true o a h in let e' : o ≡ b = eqb-true o b e in eq-eqb a b (sym h' ∙ e')

ext_reserved : (u : List ℕ) → is_one_of extension_names u ≡ true → not (is_reserved u) ≡ true → ⊥
ext_reserved u h e =
    or_case (is_one_of mnemonic_words u) (is_one_of extension_names u) (is_one_of operand_words u) h e

numeric : (i : ℕ) (d : Class) → fits d (number i) ≡ true → is_numeric d ≡ true
numeric i d h = search (rules)

-- what fits two classes shows that they overlap
pub overlap_sound : (t : Symbol) (c d : Class) → fits c t ≡ true → fits d t ≡ true → overlap c d ≡ true
overlap_sound (word u) (the_word v) (the_word w) h e = words_case u v w h e
overlap_sound (word u) (the_word v) (extension) h e = rw (← equal_bytes u v h) e
overlap_sound (word u) (the_word v) (name) h e = rw (← equal_bytes u v h) e
overlap_sound (word u) (extension) (the_word w) h e = rw (← equal_bytes u w e) h
overlap_sound (word u) (extension) (extension) h e = refl
overlap_sound (word u) (extension) (name) h e = absurd (ext_reserved u h e)
overlap_sound (word u) (name) (the_word w) h e = rw (← equal_bytes u w e) h
overlap_sound (word u) (name) (extension) h e = absurd (ext_reserved u e h)
overlap_sound (word u) (name) (name) h e = refl
overlap_sound (number i) (literal) d h e = numeric i d e
overlap_sound (number i) (negated) d h e = numeric i d e
overlap_sound (number i) (exactly m) d h e = numeric i d e
overlap_sound (mark o) (the_mark a) (the_mark b) h e = mark_case o a b h e
overlap_sound x c d h e = cc

-- Two readings of the same tokens
abbrev pub starts_with_comma : List Lexeme → Bool
starts_with_comma [] = false
starts_with_comma (t ∷ ts) = fits (the_mark 44) t.symbol

pub comma_only : (d : Class) (t : Symbol) → is_comma d ≡ true → fits d t ≡ true → fits (the_mark 44) t ≡ true
comma_only (the_mark b) t h e = rw (eqb-true b 44 h) at e
comma_only c t h e = cc

-- the classes of two readings are apart, so one of them goes on with a comma
pub apart_split : (cs ds : List Class) (ts x us y : List Lexeme) → apart cs ds ≡ true → fits_all cs ts ≡ true
    → fits_all ds us ≡ true → ts ++ x ≡ us ++ y → (starts_with_comma x ≡ true) ⊎ (starts_with_comma y ≡ true)
apart_split [] (d ∷ ds) [] x (u ∷ us) y a f g e = inl (rw e (comma_only d u.symbol a (and_parts _ _ g).0))
apart_split (c ∷ cs) [] (t ∷ ts) x [] y a f g e = inr (rw (← e) (comma_only c t.symbol a (and_parts _ _ f).0))
apart_split (c ∷ cs) (d ∷ ds) (t ∷ ts) x (u ∷ us) y a f g e =
    let hd : t ≡ u = cc in
    let tl : ts ++ x ≡ us ++ y = cc in
    let o : overlap c d ≡ true = overlap_sound t.symbol c d (and_parts _ _ f).0 (rw hd (and_parts _ _ g).0) in
    apart_split cs ds ts x us y (rw o at a) (and_parts _ _ f).1 (and_parts _ _ g).1 tl
apart_split cs ds ts x us y a f g e = cc

-- A token list is at most one list of items.

-- every row begins with a reserved word
abbrev pub starts_reserved : List Class → Bool
starts_reserved (the_word w ∷ cs) = is_reserved w
starts_reserved cs = false

table_reserved : list_all (λ (r : Row). starts_reserved (classes r)) table ≡ true
unfolding mnemonics extension_names
table_reserved = refl

-- two rows are apart, or the same row
pub rows_apart : (r s : Row) → Contains table r → Contains table s → (r ≡ s) ⊎ (apart (classes r) (classes s) ≡ true)
rows_apart r s p q =
    elim (same_or_pair both_apart table r s table_apart p q) [
      | inl e ↦ inl e
      | inr h ↦ inr (elim h [
        | inl a ↦ (and_parts (apart (classes r) (classes s)) _ a).0
        | inr a ↦ (and_parts (apart (classes s) (classes r)) _ a).1
      ])
    ]

pub row_starts : (r : Row) → Contains table r → starts_reserved (classes r) ≡ true
row_starts r p = rw p.2 at (list_all_at (λ (s : Row). starts_reserved (classes s)) table p.0 r table_reserved p.1)

reserved_name : (cs ds : List Class) → starts_reserved cs ≡ true
    → (apart cs (name ∷ ds) ≡ true) × (apart (name ∷ ds) cs ≡ true)
reserved_name (the_word w ∷ cs) ds e = (rw e refl, rw e refl)
reserved_name cs ds e = absurd cc

pub readings_apart : (m n : ℕ) (r s : Row) → Contains table r → Contains table s
    → ((m ≡ n) × (r ≡ s)) ⊎ (apart (classes_of m r) (classes_of n s) ≡ true)
readings_apart zero zero r s p q = elim (rows_apart r s p q) [ inl e ↦ inl (refl, e) | inr a ↦ inr a ]
readings_apart zero (suc n) r s p q =
    inr ((reserved_name (classes r) (the_mark 58 ∷ classes_of n s) (row_starts r p)).0)
readings_apart (suc m) zero r s p q =
    inr ((reserved_name (classes s) (the_mark 58 ∷ classes_of m r) (row_starts s q)).1)
readings_apart (suc m) (suc n) r s p q =
    elim (readings_apart m n r s p q) [ inl e ↦ inl (ap suc e.0, e.1) | inr a ↦ inr a ]

no_row : (cs : List Class) → starts_reserved cs ≡ true → fits_all cs [] ≡ true → ⊥
no_row [] e f = cc
no_row (c ∷ cs) e f = cc

pub no_classes : (n : ℕ) (r : Row) → Contains table r → fits_all (classes_of n r) [] ≡ true → ⊥
no_classes zero r p f = no_row (classes r) (row_starts r p) f
no_classes (suc n) r p f = cc

pub no_item : (i : Item) → IsItem [] i → ⊥
no_item i p = no_classes (length i.labels) i.row p.form.known (item_fits [] i p)

-- items don't start with a comma
comma_row : (cs : List Class) (ts : List Lexeme) → starts_reserved cs ≡ true → fits_front cs ts ≡ true
    → starts_with_comma ts ≡ true → ⊥
comma_row (the_word w ∷ cs) (t ∷ ts) e f h = comma_word w t.symbol (and_parts _ _ f).0 h
  where
    comma_word : (w : List ℕ) (t : Symbol) → fits (the_word w) t ≡ true → fits (the_mark 44) t ≡ true → ⊥
    comma_word w t f h = search (rules)
comma_row cs ts e f h = cc

comma_name : (t : Symbol) → fits name t ≡ true → fits (the_mark 44) t ≡ true → ⊥
comma_name t h1 h2 = search (rules)

comma_form : (n : ℕ) (r : Row) (ts : List Lexeme) → Contains table r → fits_front (classes_of n r) ts ≡ true
    → starts_with_comma ts ≡ true → ⊥
comma_form n r ts h1 h2 h3 = search (rules, comma_row, row_starts, comma_name, and_parts)

comma_front : (ts us : List Lexeme) (i : Item) → IsItem ts i → starts_with_comma (ts ++ us) ≡ true → ⊥
comma_front [] us i p h = no_item i p
comma_front (t ∷ ts) us i p h =
    comma_form (length i.labels) i.row (t ∷ ts) p.form.known (whole_front _ (t ∷ ts) (item_fits (t ∷ ts) i p)) h

pub comma_items : (ts : List Lexeme) (items : List Item) → Items ts items → starts_with_comma ts ≡ true → ⊥
comma_items ts [] p h = let none : false ≡ true = rw p at h in cc
comma_items ts (i ∷ is) p h = comma_front p.0 p.1 i p.3 (rw p.2 at h)

pub begins_none : (r : Row) → Contains table r → BeginsItem []
begins_none r k = begins_by [] (record { count = 0; row = r; known = k; fits = front_nil (classes r) })

-- the same classes take the same tokens
pub same_front : (cs : List Class) (ts x us y : List Lexeme) → fits_all cs ts ≡ true → fits_all cs us ≡ true
    → ts ++ x ≡ us ++ y → (ts ≡ us) × (x ≡ y)
same_front [] [] x [] y f g e = (refl, e)
same_front (c ∷ cs) (t ∷ ts) x (u ∷ us) y f g e =
    let hd : t ≡ u = cc in
    let tl : ts ++ x ≡ us ++ y = cc in
    let both = same_front cs ts x us y (and_parts (fits c t.symbol) _ f).1 (and_parts (fits c u.symbol) _ g).1 tl in
    (cc, both.1)
same_front cs ts x us y f g e = cc

-- as many labels before the same tokens are the same ones
same_labels : (ts us ls ms b c : List Lexeme) → AreLabels ts ls → AreLabels us ms → length ls ≡ length ms
    → ts ++ b ≡ us ++ c → (ls ≡ ms) × (b ≡ c)
same_labels [] [] [] [] b c p q n e = (refl, e)
same_labels (t ∷ v ∷ ts) (u ∷ w ∷ us) (l ∷ ls) (m ∷ ms) b c p q n e =
    let tl : ts ++ b ≡ us ++ c = cc in
    let hd : t ≡ u = cc in
    let same : l ≡ m = sym p.0 ∙ (hd ∙ q.0) in
    let both = same_labels ts us ls ms b c p.3 q.3 (omega arith) tl in
    (λ k. same k ∷ both.0 k, both.1)
same_labels ts us ls ms b c p q n e = search (rules)

same_item : (f g : List Lexeme) (i j : Item) → f ≡ g → IsItem f i → IsItem g j → length i.labels ≡ length j.labels
    → i.row ≡ j.row → i ≡ j
same_item f g i j e p q n r =
    let both = same_labels p.before q.before i.labels j.labels i.body j.body p.labels q.labels n
    (sym p.all ∙ (e ∙ q.all)) in
    λ k. record { labels = both.0 k; row = r k; body = both.1 k }

nothing : (ts f r : List Lexeme) (i : Item) → ts ≡ [] → ts ≡ f ++ r → IsItem f i → ⊥
nothing ts [] r i e h form = no_item i form
nothing ts (t ∷ f) r i e h form = let k : [] ≡ t ∷ (f ++ r) = sym e ∙ h in cc

pub one_item_list : (ts : List Lexeme) (is js : List Item) → Items ts is → Items ts js → is ≡ js
one_item_list ts [] [] p q = refl
one_item_list ts [] (j ∷ js) p q = absurd (nothing ts q.0 q.1 j p q.2 q.3)
one_item_list ts (i ∷ is) [] p q = absurd (nothing ts p.0 p.1 i q p.2 p.3)
one_item_list ts (i ∷ is) (j ∷ js) p q =
    let f = item_fits p.0 i p.3 in
    let g = item_fits q.0 j q.3 in
    elim (readings_apart (length i.labels) (length j.labels) i.row j.row p.3.form.known q.3.form.known) [
      | inl e ↦
          let ce : classes_of (length i.labels) i.row ≡ classes_of (length j.labels) j.row =
          ap (λ n. classes_of n i.row) e.0 ∙ ap (λ r. classes_of (length j.labels) r) e.1 in
          let g' = subst (λ cs. fits_all cs q.0 ≡ true) (sym ce) g in
          let both = same_front (classes_of (length i.labels) i.row) p.0 p.1 q.0 q.1 f g' (sym p.2 ∙ q.2) in
          let hd : i ≡ j = same_item p.0 q.0 i j both.0 p.3 q.3 e.0 e.1 in
          let tl : is ≡ js = one_item_list p.1 is js p.4 (subst (λ r. Items r js) (sym both.1) q.4) in
          λ k. hd k ∷ tl k
      | inr a ↦ absurd (elim (apart_split _ _ p.0 p.1 q.0 q.1 a f g (sym p.2 ∙ q.2)) [
        | inl k ↦ comma_items p.1 is p.4 k
        | inr k ↦ comma_items q.1 js q.4 k
      ])
    ]
