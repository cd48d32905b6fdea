-- A whole row after which no comma stands has more tokens that fit than any other.
use Rattle.std.proofs.Common.{◌≡◌, ℕ, zero, suc, ◌+◌, ◌<◌, ◌≤◌, Bool, true, false, not, ◌||◌, List, [], ◌∷◌}
use Rattle.std.proofs.Common.{length, map, take, drop, refl, arith, ap, sym, ◌∙◌, inl, inr, subst, get_or, flat_map}
use Rattle.std.specs.Prelude.{Contains, bytes_eq}
use Rattle.std.proofs.lemmas.Bool.{both_ways, cases_Bool}
use Rattle.std.proofs.lemmas.List.{take-append-drop}
use Rattle.std.proofs.lemmas.List.Elements.{Contains-append_left}
use Rattle.cbpf_syntax.specs.declared.choice.Match.{Match}
use Rattle.cbpf_syntax.specs.declared.table.TableEntry as declared_entry
use Rattle.cbpf_syntax.specs.declared.lexeme.Lexeme as declared_lexeme
use Rattle.cbpf_syntax.specs.Classes.{Class}
use Rattle.cbpf_syntax.specs.Classes.Class.{the_mark}
use Rattle.cbpf_syntax.specs.Lexemes.{Lexeme}
use Rattle.cbpf_syntax.specs.Table.{Row, Mnemonic, mnemonics, rows_of, entry_rows}
use Rattle.cbpf_syntax.specs.Fits.{fits}
use Rattle.cbpf_syntax.specs.Views.{row_of, entry_of, symbol_of, lexeme_of}
use Rattle.cbpf_syntax.specs.Choice.{common, IsBest, is_comma_at}
use Rattle.cbpf_syntax.proofs.Apart.{apart, overlap, overlap_sound, comma_only, bytes_eq_self, rows_apart}
use Rattle.cbpf_syntax.proofs.Mnemonics.{row_known, row_word}
use Rattle.cbpf_syntax.proofs.Elements.{which_element, from_map, into_map, from_flat_map, into_flat_map}

pub comma_at : (tokens : List declared_lexeme.Lexeme) (n : ℕ) (d : declared_lexeme.Lexeme) → n < length tokens
    → is_comma_at (map lexeme_of tokens) n ≡ fits (the_mark 44) (symbol_of (get_or tokens n d).symbol)
comma_at [] n d l = absurd (omega arith)
comma_at (t ∷ ts) zero d l = refl
comma_at (t ∷ ts) (suc n) d l = comma_at ts n d (omega arith)

pub none_after : (tokens : List declared_lexeme.Lexeme) (n : ℕ) → length tokens ≤ n
    → is_comma_at (map lexeme_of tokens) n ≡ false
none_after [] n l = refl
none_after (t ∷ ts) zero l = absurd (omega arith)
none_after (t ∷ ts) (suc n) l = none_after ts n (omega arith)

apart_rest : (a b : Bool) → a ≡ true → (not a || b) ≡ true → b ≡ true
apart_rest true b e h = h
apart_rest false b e h = cc

most : (cs ds : List Class) (ts : List Lexeme) → apart cs ds ≡ true → common ds ts ≡ length ds
    → is_comma_at ts (length ds) ≡ false → common cs ts ≤ length ds
most (c ∷ cs) [] (t ∷ ts) a w n = elim (cases_Bool (fits c t.symbol)) [
  | inl f ↦ absurd (both_ways _ n (comma_only c t.symbol a f))
  | inr f ↦ rw f (omega arith)
]
most (c ∷ cs) (d ∷ ds) (t ∷ ts) a w n = elim (cases_Bool (fits d t.symbol)) [
  | inr g ↦ let none : 0 ≡ suc (length ds) = rw g at w in absurd (omega arith)
  | inl g ↦
      let all : 1 + common ds ts ≡ suc (length ds) = rw g at w in
      elim (cases_Bool (fits c t.symbol)) [
        | inl f ↦
            let rest = apart_rest (overlap c d) (apart cs ds) (overlap_sound t.symbol c d f g) a in
            let more = most cs ds ts rest (omega arith) n in
            rw f (omega arith)
        | inr f ↦ rw f (omega arith)
      ]
]
most cs ds ts a w n = omega arith

same_words : (v w : List ℕ) → v ≡ w → bytes_eq v w ≡ true
same_words v w e = rw e (bytes_eq_self w)

-- no row of the mnemonic has more tokens that fit than a whole one after which no comma stands
whole_most : (m : Mnemonic) (r s : Row) (ts : List Lexeme) → Contains mnemonics m → Contains (rows_of m) r
    → Contains (rows_of m) s → common r.operand ts ≡ length r.operand → is_comma_at ts (length r.operand) ≡ false
    → common s.operand ts ≤ length r.operand
whole_most m r s ts p k q w n =
    let words : s.mnemonic ≡ r.mnemonic = sym (row_word m s q) ∙ row_word m r k in
    elim (rows_apart s r (row_known m s p q) (row_known m r p k)) [
      | inl e ↦ let c : common s.operand ts ≡ length r.operand = ap (λ (x : Row). common x.operand ts) e ∙ w in
          omega (arith, c)
      | inr a ↦ most s.operand r.operand ts (apart_rest (bytes_eq s.mnemonic r.mnemonic)
          (apart s.operand r.operand) (same_words s.mnemonic r.mnemonic words) a) w n
    ]

take_known : {X : Type 0} (k : ℕ) (xs : List X) (x : X) → Contains (take k xs) x → Contains xs x
take_known k xs x c =
    subst (λ ys. Contains ys x) (take-append-drop k xs) (Contains-append_left (take k xs) (drop k xs) x c)

-- the rows of the first addressing modes are the mnemonic's
front_known : (w : List ℕ) (es : List declared_entry.TableEntry) (k : ℕ) (r : Row)
    → Contains (flat_map (entry_rows w) (map entry_of (take k es))) r
    → Contains (flat_map (entry_rows w) (map entry_of es)) r
front_known w es k r c =
    let q = from_flat_map (entry_rows w) (map entry_of (take k es)) r c in
    let e = from_map entry_of (take k es) q.0 q.1 in
    into_flat_map (entry_rows w) (map entry_of es) q.0 r
    (subst (λ x. Contains (map entry_of es) x) e.2 (into_map entry_of es e.0 (take_known k es e.0 e.1))) q.2

pub final_best : (m : Mnemonic) (es : List declared_entry.TableEntry) (k : ℕ) (r : Row) (ts : List Lexeme)
    (best : Match)
    → map entry_of es ≡ m.entries → Contains mnemonics m → Contains (rows_of m) r
    → IsBest (r ∷ flat_map (entry_rows m.word) (map entry_of (take k es))) ts best
    → length (row_of best.row).operand ≡ best.len → is_comma_at ts best.len ≡ false → IsBest (rows_of m) ts best
final_best m es k r ts best is p first b whole n =
    let known : Contains (rows_of m) (row_of best.row) =
    elim (which_element r (flat_map (entry_rows m.word) (map entry_of (take k es))) (row_of best.row) b.known) [
      | inl e ↦ subst (Contains (rows_of m)) e first
      | inr c ↦ subst (λ xs. Contains (flat_map (entry_rows m.word) xs) (row_of best.row)) is
          (front_known m.word es k (row_of best.row) c)
    ] in
    record {
      known = known;
      size = b.size;
      most = λ s c. rw whole at (whole_most m (row_of best.row) s ts p known c (sym b.size ∙ sym whole) (rw whole n));
      goes_on = λ part s c q. absurd (part whole);
    }
