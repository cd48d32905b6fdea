-- One item of a parser: its labels, and then the row of which most tokens fit, a whole one before one that goes on.
use Rattle.std.proofs.Common.{rules, ◌≡◌, ℕ, zero, suc, ◌<◌, ◌≤◌, Bool, true, false, not, List, [], ◌∷◌, length}
use Rattle.std.proofs.Common.{◌++◌, take, drop, refl, arith, ap, sym, ◌∙◌, ◌≢◌, ◌&&◌, subst, get_or, Bor, map, ltb-true}
use Rattle.std.specs.Prelude.{Contains, bytes_eq}
use Rattle.std.proofs.lemmas.List.{get_or_default, length-take-le}
use Rattle.std.proofs.lemmas.List.Sums.{common_prefix_len-le}
use Rattle.std.proofs.lemmas.Bool.{and_parts, both_ways, true≢false}
use Rattle.cbpf_code.specs.declared.opcode.Op.TheVariants.{Tax}
use Rattle.cbpf_syntax.specs.declared.choice.Match.{Match}
use Rattle.cbpf_syntax.specs.declared.table.Fields.TheVariants.{Constant}
use Rattle.cbpf_syntax.specs.declared.lexeme.Symbol.TheVariants.{Word, Number, Mark}
use Rattle.cbpf_syntax.specs.declared.lexeme.Lexeme as declared_lexeme
use Rattle.cbpf_syntax.specs.declared.lexeme.Symbol as declared_symbol
use Rattle.cbpf_syntax.specs.Lexemes.{Lexeme}
use Rattle.cbpf_syntax.specs.Lexemes.Symbol.{word}
use Rattle.cbpf_syntax.specs.Classes.{Class}
use Rattle.cbpf_syntax.specs.Classes.Class.{the_word, the_mark, name}
use Rattle.cbpf_syntax.specs.Table.{Row, classes, table, Mnemonic, mnemonics, rows_of}
use Rattle.cbpf_syntax.specs.Fits.{fits, fits_all, is_reserved, is_one_of, mnemonic_words}
use Rattle.cbpf_syntax.specs.Items.{Item, IsItem, BeginsItem}
use Rattle.cbpf_syntax.specs.Choice.{IsBest}
use Rattle.cbpf_syntax.specs.Steps.{Goes, Stuck, IsNextItem, starts_with_colon, starts_with_label}
use Rattle.cbpf_syntax.specs.Views.{row_of, symbol_of, lexeme_of}
use Rattle.cbpf_syntax.proofs.Fronts.{fits_front, whole_front, length_whole, front_whole, common_fits, common_most}
use Rattle.cbpf_syntax.proofs.Readings.{FitsSoFar, classes_of, item_fits, bare_item, label_before, item_by, fits_so_far}
use Rattle.cbpf_syntax.proofs.Readings.{begins_by}
use Rattle.cbpf_syntax.proofs.Apart.{overlap_sound, row_starts, starts_reserved, no_item, equal_bytes, begins_none}
use Rattle.cbpf_syntax.proofs.Apart.{table_some}
use Rattle.cbpf_syntax.proofs.Mnemonics.{same_mnemonic, row_mnemonic, row_word, row_known, word_reserved, word_listed}

pub some_known : (r : Row) × Contains table r
some_known =
    let l : 0 < length table = ltb-true 0 (length table) table_some in (
      get_or table 0 (record { mnemonic = []; operand = []; op = Tax; fields = Constant }),
      (0, l, get_or_default table 0 _ _ l),
    )

-- no reading has labels where no name stands
pub bare_front : (m : ℕ) (r : Row) (t : Lexeme) (f : List Lexeme) → fits name t.symbol ≡ false
    → fits_front (classes_of m r) (t ∷ f) ≡ true → fits_front (classes r) (t ∷ f) ≡ true
bare_front m r t f h1 h2 = search (rules, and_parts)

bare_whole : (m : ℕ) (r : Row) (t : Lexeme) (f : List Lexeme) → fits name t.symbol ≡ false
    → fits_all (classes_of m r) (t ∷ f) ≡ true → fits_all (classes r) (t ∷ f) ≡ true
bare_whole m r t f h1 h2 = search (rules, and_parts)

pub bare_fits : (i : Item) (t : Lexeme) (f : List Lexeme) → fits name t.symbol ≡ false → IsItem (t ∷ f) i
    → fits_all (classes i.row) (t ∷ f) ≡ true
bare_fits i t f n p = bare_whole (length i.labels) i.row t f n (item_fits (t ∷ f) i p)

-- a name begins no row
named_row : (r : Row) (t : Lexeme) (f : List Lexeme) → Contains table r → fits name t.symbol ≡ true
    → fits_front (classes r) (t ∷ f) ≡ true → ⊥
named_row r t f k n h = by_classes (classes r) (row_starts r k) h
  where
    by_classes : (cs : List Class) → starts_reserved cs ≡ true → fits_front cs (t ∷ f) ≡ true → ⊥
    by_classes cs h1 h2 = search (rules, overlap_sound, and_parts)

-- a label with its colon
after_label : (t u : Lexeme) (ts : List Lexeme) → fits name t.symbol ≡ true → BeginsItem (t ∷ u ∷ ts) → BeginsItem ts
after_label t u ts n b = by_count r.count r.row r.known r.fits
  where
    r : FitsSoFar (t ∷ u ∷ ts)
    r = fits_so_far (t ∷ u ∷ ts) b

    by_count : (m : ℕ) (r : Row) → Contains table r → fits_front (classes_of m r) (t ∷ u ∷ ts) ≡ true → BeginsItem ts
    by_count zero r k f = absurd (named_row r t (u ∷ ts) k n f)
    by_count (suc m) r k f = begins_by ts (record {
      count = m;
      row = r;
      known = k;
      fits = (and_parts (fits (the_mark 58) u.symbol) _ (and_parts (fits name t.symbol) _ f).1).1;
    })

pub label_goes : (t u : Lexeme) (ts : List Lexeme) (n : ℕ) → fits name t.symbol ≡ true
    → fits (the_mark 58) u.symbol ≡ true → Goes n ts → Goes (suc (suc n)) (t ∷ u ∷ ts)
label_goes t u ts n a b g = record {
  within = omega (arith, g.within);
  begins = (g.begins.0, _, label_before t u (take n ts ++ g.begins.0) g.begins.1 a b g.begins.2);
  no_farther = λ l h. g.no_farther (omega arith) (after_label t u (take (suc n) ts) a h);
}

pub label_stuck : (t u : Lexeme) (ts : List Lexeme) (n : ℕ) → fits name t.symbol ≡ true
    → fits (the_mark 58) u.symbol ≡ true → Stuck n ts → Stuck (suc (suc n)) (t ∷ u ∷ ts)
label_stuck t u ts n a b s = record {
  goes = label_goes t u ts n a b s.goes;
  none = λ i p. by_count i p.form.known (length i.labels) (item_fits (t ∷ u ∷ take n ts) i p);
}
  where
    by_count : (i : Item) → Contains table i.row → (m : ℕ)
        → fits_all (classes_of m i.row) (t ∷ u ∷ take n ts) ≡ true → ⊥
    by_count i k zero h = named_row i.row t (u ∷ take n ts) k a (whole_front (classes i.row) (t ∷ u ∷ take n ts) h)
    by_count i k (suc m) h =
        let more = (and_parts (fits (the_mark 58) u.symbol) _ (and_parts (fits name t.symbol) _ h).1).1 in
        let j = item_by m i.row (take n ts) k more in
        s.none j.0 j.1

-- an item after one more label
pub label_item : (t u : Lexeme) (ts : List Lexeme) (n : ℕ) (item : Item) → fits name t.symbol ≡ true
    → fits (the_mark 58) u.symbol ≡ true → IsNextItem ts n item → IsNextItem (t ∷ u ∷ ts) (suc (suc n))
    (record { labels = t ∷ item.labels; row = item.row; body = item.body })
label_item t u ts n item a b next = record {
  goes = label_goes t u ts n a b next.goes;
  is_item = label_before t u (take n ts) item a b next.is_item;
}

-- a name without a colon
pub name_stuck : (t : Lexeme) (ts : List Lexeme) → fits name t.symbol ≡ true → starts_with_colon ts ≡ false
    → Stuck 1 (t ∷ ts)
name_stuck t ts a c = record {
  goes = record {
    within = omega arith;
    begins = begins_by (t ∷ []) (record { count = 1; row = some_known.0; known = some_known.1; fits = rw a refl });
    no_farther = λ l b. let r = fits_so_far (t ∷ take 1 ts) b in farther ts c r.row r.known r.count r.fits (omega arith);
  };
  none = λ i p. whole i p.form.known (length i.labels) (item_fits (t ∷ []) i p);
}
  where
    farther : (us : List Lexeme) → starts_with_colon us ≡ false → (r : Row) → Contains table r → (m : ℕ)
        → fits_front (classes_of m r) (t ∷ take 1 us) ≡ true → 0 < length us → ⊥
    farther us c r k zero h l = named_row r t (take 1 us) k a h
    farther [] c r k (suc m) h l = omega arith
    farther (u ∷ us) c r k (suc m) h l =
        let p = (and_parts (fits (the_mark 58) u.symbol) _ (and_parts (fits name t.symbol) _ h).1).0 in
        both_ways (fits (the_mark 58) u.symbol) c p

    whole : (i : Item) → Contains table i.row → (m : ℕ) → fits_all (classes_of m i.row) (t ∷ []) ≡ true → ⊥
    whole i k zero h = named_row i.row t [] k a (whole_front (classes i.row) (t ∷ []) h)
    whole i k (suc m) h = true≢false (sym (and_parts (fits name t.symbol) _ h).1)

-- The instruction at the front of a token list, by its first token.

abbrev pub lexeme : List ℕ → ℕ → Lexeme
lexeme w at = record { symbol = word w; at = at }

-- a row of a mnemonic by the word, or none
own_row : (w : List ℕ) (m : Mnemonic) (r : Row) → Contains mnemonics m → bytes_eq w m.word ≡ true → Contains table r
    → bytes_eq w r.mnemonic ≡ true → Contains (rows_of m) r
own_row w m r p e known h =
    let q = row_mnemonic r known in
    let same : q.0.word ≡ m.word = row_word q.0 r q.2 ∙ (sym (equal_bytes w r.mnemonic h) ∙ equal_bytes w m.word e) in
    subst (λ n. Contains (rows_of n) r) (same_mnemonic q.0 m q.1 p same) q.2

module _ (w : List ℕ) (at : ℕ) (us : List Lexeme) (m : Mnemonic) (best : Match) (p : Contains mnemonics m)
    (e : bytes_eq w m.word ≡ true) (b : IsBest (rows_of m) us best) where
  no_name : fits name (word w) ≡ false
  no_name = ap not (word_reserved w m p e)

  own_word : bytes_eq w (row_of best.row).mnemonic ≡ true
  own_word = subst (λ v. bytes_eq w v ≡ true) (row_word m (row_of best.row) b.known) e

  -- no more tokens fit any row with this mnemonic
  most : (n : ℕ) (r : Row) → Contains table r → n ≤ length us
      → fits_front (classes r) (lexeme w at ∷ take n us) ≡ true → (bytes_eq w r.mnemonic ≡ true) × (n ≤ best.len)
  most n r k l h =
      let q = and_parts (bytes_eq w r.mnemonic) (fits_front r.operand (take n us)) h in
      let more = common_most r.operand us n l q.1 in
      let least = b.most r (own_row w m r p e k q.0) in
      (q.0, omega arith)

  fit : fits_front (classes (row_of best.row)) (lexeme w at ∷ take best.len us) ≡ true
  fit = rw (own_word, b.size) (common_fits (row_of best.row).operand us)

  goes : Goes (suc best.len) (lexeme w at ∷ us)
  goes =
      let within = (common_prefix_len-le (λ c (t : Lexeme). fits c t.symbol) (row_of best.row).operand us).1 in
      record {
        within = omega (arith, within, b.size);
        begins = begins_by (lexeme w at ∷ take best.len us) (record {
          count = 0;
          row = row_of best.row;
          known = row_known m (row_of best.row) p b.known;
          fits = fit;
        });
        no_farther = λ l h.
            let r = fits_so_far (lexeme w at ∷ take (suc best.len) us) h in
            let k = most (suc best.len) r.row r.known (omega arith)
            (bare_front r.count r.row (lexeme w at) (take (suc best.len) us) no_name r.fits) in
            omega (arith, k.1);
      }

  pub mnemonic_whole : length (row_of best.row).operand ≡ best.len
      → IsNextItem (lexeme w at ∷ us) (suc (length (row_of best.row).operand)) (record {
        labels = [];
        row = row_of best.row;
        body = take (suc (length (row_of best.row).operand)) (lexeme w at ∷ us);
      })
  mnemonic_whole h =
      let size = length-take-le best.len us (omega (arith, goes.within)) in
      let all = front_whole (classes (row_of best.row)) (lexeme w at ∷ take best.len us) fit (omega (arith, h)) in
      rw h (record {
        goes = goes;
        is_item = bare_item (row_of best.row) _ (row_known m (row_of best.row) p b.known) all;
      })

  pub mnemonic_part : length (row_of best.row).operand ≢ best.len → Stuck (suc best.len) (lexeme w at ∷ us)
  mnemonic_part h = record {
    goes = goes;
    none = λ i q. whole i.row q.form.known (bare_fits i (lexeme w at) (take best.len us) no_name q);
  }
    where
      whole : (r : Row) → Contains table r → fits_all (classes r) (lexeme w at ∷ take best.len us) ≡ true → ⊥
      whole r k f =
          let l : best.len ≤ length us = omega (arith, goes.within) in
          let front = whole_front (classes r) (lexeme w at ∷ take best.len us) f in
          let own = own_row w m r p e k (most best.len r k l front).0 in
          let size = length_whole (classes r) (lexeme w at ∷ take best.len us) f in
          let more = common_most r.operand us best.len l (and_parts (bytes_eq w r.mnemonic) _ front).1 in
          let least = b.most r own in
          b.goes_on h r own (omega arith) (omega (arith, size, length-take-le best.len us l))

-- no row begins with the first token
pub none_begins : (t : Lexeme) (us : List Lexeme) → fits name t.symbol ≡ false
    → ((r : Row) → Contains table r → fits (the_word r.mnemonic) t.symbol ≡ true → ⊥) → Stuck 0 (t ∷ us)
none_begins t us s none = record {
  goes = record {
    within = omega arith;
    begins = begins_none some_known.0 some_known.1;
    no_farther = λ l b. let r = fits_so_far (t ∷ []) b in
        none r.row r.known (and_parts _ _ (bare_front r.count r.row t [] s r.fits)).0;
  };
  none = no_item;
}

pub end_stuck : Stuck 0 []
end_stuck = record {
  goes = record {
    within = omega arith;
    begins = begins_none some_known.0 some_known.1;
    no_farther = λ l b. absurd (omega (arith, l));
  };
  none = no_item;
}

pub reserved_stuck : (ts : List Lexeme) (w : List ℕ) (at : ℕ) (us : List Lexeme) → ts ≡ lexeme w at ∷ us
    → is_one_of mnemonic_words w ≡ false → is_reserved w ≡ true → Stuck 0 ts
reserved_stuck ts w at us split unlisted taken = rw split (none_begins (lexeme w at) us (ap not taken) (λ r k h.
    let q = row_mnemonic r k in
    both_ways _ unlisted (word_listed w q.0 q.1 (subst (λ v. bytes_eq w v ≡ true) (sym (row_word q.0 r q.2)) h))))

and_second : (a b : Bool) → a ≡ true → (a && b) ≡ false → b ≡ false
and_second true b e h = h
and_second false b e h = cc

pub word_stuck : (ts : List Lexeme) (w : List ℕ) (at : ℕ) (us : List Lexeme) → ts ≡ lexeme w at ∷ us
    → is_reserved w ≡ false → starts_with_label ts ≡ false → Stuck 1 ts
word_stuck ts w at us split free label =
    let a : fits name (word w) ≡ true = ap not free in
    rw split (name_stuck (lexeme w at) us a (and_second _ (starts_with_colon us) a (rw split at label)))

-- The first of the parser's own tokens.
split_first : (ts : List declared_lexeme.Lexeme) (t : declared_lexeme.Lexeme) → 0 < length ts → t ≡ get_or ts 0 t
    → ts ≡ t ∷ drop 1 ts
split_first [] t l e = absurd (omega arith)
split_first (u ∷ ts) t l e = ap (λ x. x ∷ ts) (sym e)

pub first_symbol : (ts : List declared_lexeme.Lexeme) (t : declared_lexeme.Lexeme) (s : declared_symbol.Symbol)
    → 0 < length ts → t ≡ get_or ts 0 t → t.symbol ≡ s
    → map lexeme_of ts ≡ record { symbol = symbol_of s; at = t.at } ∷ map lexeme_of (drop 1 ts)
first_symbol ts t s l e h = ap (λ us. map lexeme_of us) (split_first ts t l e)
    ∙ ap (λ q. record { symbol = symbol_of q; at = t.at } ∷ map lexeme_of (drop 1 ts)) h

pub no_word_stuck : (ts : List declared_lexeme.Lexeme) (t : declared_lexeme.Lexeme) → 0 < length ts
    → t ≡ get_or ts 0 t → ((w : Bor (List ℕ)) → t.symbol ≡ Word w → ⊥) → Stuck 0 (map lexeme_of ts)
no_word_stuck ts t l e other = by_symbol t.symbol refl
  where
    by_symbol : (s : declared_symbol.Symbol) → t.symbol ≡ s → Stuck 0 (map lexeme_of ts)
    by_symbol (Word w) h = absurd (other w h)
    by_symbol (Number n) h = rw (first_symbol ts t (Number n) l e h) (none_begins _ _ refl (λ r k q. cc))
    by_symbol (Mark b) h = rw (first_symbol ts t (Mark b) l e h) (none_begins _ _ refl (λ r k q. cc))

pub no_token_stuck : (ts : List declared_lexeme.Lexeme) → length ts ≤ 0 → Stuck 0 (map lexeme_of ts)
no_token_stuck [] l = end_stuck
no_token_stuck (t ∷ ts) l = absurd (omega arith)
