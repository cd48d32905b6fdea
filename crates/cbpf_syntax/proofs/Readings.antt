-- Items by the classes of their tokens, so many labels and a row: what fits such classes, or begins what does.
use Rattle.std.proofs.Common.{◌≡◌, ℕ, zero, suc, true, false, List, [], ◌∷◌, ◌++◌, length, refl, ap, eq-eqb}
use Rattle.std.specs.Prelude.{Contains, get_or}
use Rattle.std.proofs.lemmas.Bool.{and_parts, and_from}
use Rattle.std.proofs.lemmas.Slice.Eq.{bytes_eq-Decides}
use Rattle.cbpf_syntax.specs.Classes.{Class}
use Rattle.cbpf_syntax.specs.Classes.Class.{the_word, the_mark, literal, negated, exactly, extension, name}
use Rattle.cbpf_syntax.specs.Lexemes.{Lexeme, Symbol}
use Rattle.cbpf_syntax.specs.Lexemes.Symbol.{word, number, mark}
use Rattle.cbpf_syntax.specs.Fits.{fits, fits_all, extension_names}
use Rattle.cbpf_syntax.specs.Table.{Row, classes, mnemonics, table}
use Rattle.cbpf_syntax.specs.Items.{Item, AreLabels, IsItem, BeginsItem}
use Rattle.cbpf_syntax.proofs.Fronts.{fits_front, whole_front, front_before, front_nil}

-- the classes of labels, each with its colon
abbrev pub label_classes : ℕ → List Class
label_classes zero = []
label_classes (suc count) = name ∷ the_mark 58 ∷ label_classes count

-- the classes of an item: so many labels, and a row
abbrev pub classes_of : ℕ → Row → List Class
classes_of count row = label_classes count ++ classes row

labels_fit : (ts ls : List Lexeme) (cs : List Class) (us : List Lexeme) → AreLabels ts ls → fits_all cs us ≡ true
    → fits_all (label_classes (length ls) ++ cs) (ts ++ us) ≡ true
labels_fit [] [] cs us a f = f
labels_fit (t ∷ u ∷ ts) (l ∷ ls) cs us a f = rw (a.1, a.2, labels_fit ts ls cs us a.3 f) refl
labels_fit ts ls cs us a f = absurd a

-- an item's tokens fit its classes
pub item_fits : (ts : List Lexeme) (i : Item) → IsItem ts i → fits_all (classes_of (length i.labels) i.row) ts ≡ true
item_fits ts i p = rw p.all (labels_fit p.before i.labels (classes i.row) i.body p.labels p.form.fits)

pub bare_item : (r : Row) (ts : List Lexeme) → Contains table r → fits_all (classes r) ts ≡ true
    → IsItem ts (record { labels = []; row = r; body = ts })
bare_item r ts k f =
    record { before = []; labels = tt; form = record { known = k; fits = f }; all = refl }

-- an item after one more label
pub label_before : (t u : Lexeme) (ts : List Lexeme) (i : Item) → fits name t.symbol ≡ true
    → fits (the_mark 58) u.symbol ≡ true → IsItem ts i
    → IsItem (t ∷ u ∷ ts) (record { labels = t ∷ i.labels; row = i.row; body = i.body })
label_before t u ts i a b p = record {
  before = t ∷ u ∷ p.before;
  labels = (refl, a, b, p.labels);
  form = record { known = p.form.known; fits = p.form.fits };
  all = ap (λ us. t ∷ u ∷ us) p.all;
}

-- tokens that fit labels and a row are an item
pub item_by : (count : ℕ) (r : Row) (ts : List Lexeme) → Contains table r → fits_all (classes_of count r) ts ≡ true
    → (i : Item) × IsItem ts i
item_by zero r ts k f = (_, bare_item r ts k f)
item_by (suc count) r (t ∷ u ∷ ts) k f =
    let p = and_parts (fits name t.symbol) _ f in
    let q = and_parts (fits (the_mark 58) u.symbol) _ p.1 in
    let i = item_by count r ts k q.1 in
    (_, label_before t u ts i.0 p.0 q.0 i.1)
item_by (suc count) r (t ∷ []) k f =
    let none : false ≡ true = (and_parts (fits name t.symbol) false f).1 in absurd cc
item_by (suc count) r [] k f = absurd cc

-- What begins an item.

-- the tokens fit labels and a row as far as they go
pub record FitsSoFar (ts : List Lexeme) : Type 0 where
  pub count : ℕ
  pub row : Row
  pub known : Contains table row
  pub fits : fits_front (classes_of count row) ts ≡ true

pub fits_so_far : (ts : List Lexeme) → BeginsItem ts → FitsSoFar ts
fits_so_far ts b = record {
  count = length b.1.labels;
  row = b.1.row;
  known = b.2.form.known;
  fits = front_before _ ts b.0 (whole_front _ (ts ++ b.0) (item_fits (ts ++ b.0) b.1 b.2));
}

abbrev token : Symbol → Lexeme
token s = record { symbol = s; at = 0 }

-- each class has a token
some_token : (c : Class) → (t : Lexeme) × (fits c t.symbol ≡ true)
unfolding mnemonics extension_names
some_token (the_word w) = (token (word w), (bytes_eq-Decides w w).1 refl)
some_token (the_mark b) = (token (mark b), eq-eqb b b refl)
some_token literal = (token (number 0), refl)
some_token negated = (token (number 0), refl)
some_token (exactly m) = (token (number m), eq-eqb m m refl)
some_token extension = (token (word (get_or extension_names 0 [])), refl)
some_token name = (token (word []), refl)

completed : (cs : List Class) (ts : List Lexeme) → fits_front cs ts ≡ true
    → (more : List Lexeme) × (fits_all cs (ts ++ more) ≡ true)
completed [] [] f = ([], refl)
completed (c ∷ cs) [] f =
    let t = some_token c in
    let more = completed cs [] (front_nil cs) in
    (t.0 ∷ more.0, rw (t.1, more.1) refl)
completed (c ∷ cs) (t ∷ ts) f =
    let p = and_parts (fits c t.symbol) (fits_front cs ts) f in
    let more = completed cs ts p.1 in
    (more.0, and_from (fits c t.symbol) (fits_all cs (ts ++ more.0)) p.0 more.1)
completed [] (t ∷ ts) f = absurd cc

pub begins_by : (ts : List Lexeme) → FitsSoFar ts → BeginsItem ts
begins_by ts b =
    let c = completed (classes_of b.count b.row) ts b.fits in
    let i = item_by b.count b.row (ts ++ c.0) b.known c.1 in
    (c.0, i.0, i.1)
