-- The best row of two lists, and of a mnemonic.
use Rattle.std.proofs.lemmas.Grind.{common_steps, flat_map-append}
use Rattle.std.proofs.Common.{rules, ◌≡◌, ◌≢◌, ℕ, ◌+◌, ◌<◌, ◌≤◌, List, [], ◌∷◌}
use Rattle.std.proofs.Common.{◌++◌, length, map, take, refl, arith, ap, ◌⊎◌, inl, inr, get_or, Bor, append-nil}
use Rattle.std.specs.Prelude.{Contains, flat_map}
use Rattle.std.proofs.lemmas.List.{length-map, map-append, take_all, take-map, map_more, take_more}
use Rattle.cbpf_syntax.specs.declared.table.TableEntry as declared_entry
use Rattle.cbpf_syntax.specs.declared.class.Class as declared_class
use Rattle.std.proofs.lemmas.List.Elements.{Contains-append_right, Contains-append_cases}
use Rattle.cbpf_syntax.specs.declared.choice.Match.{Match}
use Rattle.cbpf_syntax.specs.Lexemes.{Lexeme}
use Rattle.cbpf_syntax.specs.Table.{Row, entry_rows}
use Rattle.cbpf_syntax.specs.Views.{row_of, class_of, entry_of, mode_forms}
use Rattle.cbpf_syntax.specs.Choice.{common, IsBest}
use Rattle.cbpf_syntax.proofs.Elements.{only_element, first_element, later_element, which_element}

pub one_row : (row : Row) (ts : List Lexeme) (best : Match) → row_of best.row ≡ row → best.len ≡ common row.operand ts
    → IsBest (row ∷ []) ts best
one_row row ts best h1 h2 = search (rules, first_element, only_element)

-- the second of two where it is longer, or as long and whole
pub second_best : (rs ss : List Row) (ts : List Lexeme) (best new : Match) → IsBest rs ts best → IsBest ss ts new
    → (best.len < new.len) ⊎ ((best.len ≡ new.len) × (length (row_of new.row).operand ≡ new.len))
    → IsBest (rs ++ ss) ts new
second_best rs ss ts best new b c h = record {
  known = Contains-append_right rs ss (row_of new.row) c.known;
  size = c.size;
  most = λ r d. elim (Contains-append_cases rs ss r d) [
    | inl p ↦ (let m = b.most r p in elim h [ inl l ↦ omega arith | inr q ↦ omega (arith, q.0, m) ])
    | inr p ↦ c.most r p
  ];
  goes_on = λ n r d q. elim (Contains-append_cases rs ss r d) [
    | inl p ↦ (let m = b.most r p in elim h [ inl l ↦ absurd (omega (arith, m, l, q)) | inr w ↦ absurd (n w.1) ])
    | inr p ↦ c.goes_on n r p q
  ];
}

-- the first where it is as long at least, and the second is not as long and whole
pub first_best : (rs ss : List Row) (ts : List Lexeme) (best new : Match) → IsBest rs ts best → IsBest ss ts new
    → new.len ≤ best.len → (best.len ≡ new.len → length (row_of new.row).operand ≢ new.len)
    → IsBest (rs ++ ss) ts best
first_best rs ss ts best new h1 h2 h3 h4 = grind (arith, common_steps)

-- the best of rows, with one of them once more before them
pub without_first : (r : Row) (rs : List Row) (ts : List Lexeme) (best : Match) → Contains rs r
    → IsBest (r ∷ rs) ts best → IsBest rs ts best
without_first r rs ts best h1 h2 = search (rules, which_element, later_element)

abbrev form_row : List ℕ → declared_entry.TableEntry → Bor (List declared_class.Class) → Row
form_row w e f = record { mnemonic = w; operand = map class_of f.now; op = e.op; fields = e.fields }

map_twice : {X Y Z : Type 0} (g : Y → Z) (f : X → Y) (xs : List X) → map g (map f xs) ≡ map (λ x. g (f x)) xs
map_twice g f [] = refl
map_twice g f (x ∷ xs) = ap (λ ys. g (f x) ∷ ys) (map_twice g f xs)

rows_are : (w : List ℕ) (e : declared_entry.TableEntry) (forms : List (Bor (List declared_class.Class)))
    → map (λ f. map class_of f.now) forms ≡ mode_forms e.mode → entry_rows w (entry_of e) ≡ map (form_row w e) forms
rows_are w e forms h1 = search (rules, map_twice)

-- the rows of an addressing mode as far as one more form
pub next_form : (w : List ℕ) (e : declared_entry.TableEntry) (forms : List (Bor (List declared_class.Class))) (i : ℕ)
    (d : Bor (List declared_class.Class)) → map (λ f. map class_of f.now) forms ≡ mode_forms e.mode → i < length forms
    → take (i + 1) (entry_rows w (entry_of e))
    ≡ take i (entry_rows w (entry_of e)) ++ (form_row w e (get_or forms i d) ∷ [])
next_form w e forms i d h l = rw (rows_are w e forms h, take-map, take-map) (map_more (form_row w e) forms i d l)

-- the rows of a mnemonic as far as one more addressing mode
pub next_entry : (w : List ℕ) (es : List declared_entry.TableEntry) (i : ℕ) (d : declared_entry.TableEntry)
    → i < length es
    → flat_map (entry_rows w) (map entry_of (take (i + 1) es))
    ≡ flat_map (entry_rows w) (map entry_of (take i es)) ++ entry_rows w (entry_of (get_or es i d))
next_entry w es i d h1 = grind (arith, common_steps, take_more, map-append, get_or, flat_map-append, append-nil)

-- the rows of an addressing mode after its last form
pub all_forms : (w : List ℕ) (e : declared_entry.TableEntry) (forms : List (Bor (List declared_class.Class))) (i : ℕ)
    → map (λ f. map class_of f.now) forms ≡ mode_forms e.mode → length forms ≤ i
    → take i (entry_rows w (entry_of e)) ≡ entry_rows w (entry_of e)
all_forms w e forms i h l = grind (arith, common_steps, take_all, rows_are, length-map)
