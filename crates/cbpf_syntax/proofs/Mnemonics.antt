-- The rows of a mnemonic, and that no two mnemonics have one word.
use Rattle.std.proofs.Common.{rules, ◌≡◌, ℕ, ◌<◌, Bool, true, false, not, cond, map, ◌&&◌, ◌||◌, List, [], ◌∷◌, length}
use Rattle.std.proofs.Common.{refl, arith, ap, sym, ◌∙◌, inl, inr, get_or, ltb-true, ◌-◌, Option, Some, None, Bor}
use Rattle.std.specs.Prelude.{IfSome, IfNone, Contains, nat_lt, nat_le, bytes_eq, slice_index}
use Rattle.cbpf_syntax.specs.declared.table.Mnemonic as declared_mnemonic
use Rattle.cbpf_syntax.specs.Views.{mnemonic_view}
use Rattle.std.specs.List.{list_all, filter}
use Rattle.std.proofs.lemmas.Bool.{and_parts, both_ways, cases_Bool, false_from_ne_true, or_from}
use Rattle.cbpf_syntax.specs.Fits.{is_one_of, mnemonic_words, is_reserved, extension_names}
use Rattle.cbpf_syntax.specs.Table.{Row, Mnemonic, mnemonics, table, rows_of, entry_rows, operand_words}
use Rattle.cbpf_syntax.specs.Initials.{begins_with, is_first}
use Rattle.cbpf_syntax.proofs.Apart.{bytes_eq_self, equal_bytes}
use Rattle.cbpf_syntax.proofs.Elements.{all_pairs, same_or_pair, first_element, later_element, which_element, from_map}
use Rattle.cbpf_syntax.proofs.Elements.{into_map, from_flat_map, into_flat_map, any_element, list_all_at}
use Rattle.std.specs.Option.{is_some}
use Rattle.cbpf_code.specs.declared.extension.Ext.{Ext}
use Rattle.std.specs.Map.{lookup}
use Rattle.cbpf_code.specs.Extension.{ext_table, ext_name, ext_named}

words_differ : all_pairs (λ (m n : Mnemonic). not (bytes_eq m.word n.word)) mnemonics ≡ true
unfolding mnemonics
words_differ = refl

modes_given : list_all (λ (m : Mnemonic). nat_lt 0 (length m.entries)) mnemonics ≡ true
unfolding mnemonics
modes_given = refl

not_same : {B : Type 0} (v w : List ℕ) → v ≡ w → not (bytes_eq v w) ≡ true → B
not_same v w h1 h2 = search (rules, bytes_eq_self)

pub same_mnemonic : (m n : Mnemonic) → Contains mnemonics m → Contains mnemonics n → m.word ≡ n.word → m ≡ n
same_mnemonic m n p q w =
    elim (same_or_pair (λ (m n : Mnemonic). not (bytes_eq m.word n.word)) mnemonics m n words_differ p q) [
      | inl e ↦ e
      | inr h ↦ elim h [ inl d ↦ not_same m.word n.word w d | inr d ↦ not_same n.word m.word (sym w) d ]
    ]

pub has_modes : (m : Mnemonic) → Contains mnemonics m → 0 < length m.entries
has_modes m p = ltb-true 0 (length m.entries)
    (rw p.2 at (list_all_at (λ (n : Mnemonic). nat_lt 0 (length n.entries)) mnemonics p.0 m modes_given p.1))

pub row_mnemonic : (r : Row) → Contains table r → (m : Mnemonic) × Contains mnemonics m × Contains (rows_of m) r
row_mnemonic r p = from_flat_map rows_of mnemonics r p

pub row_word : (m : Mnemonic) (r : Row) → Contains (rows_of m) r → m.word ≡ r.mnemonic
row_word m r p =
    let e = from_flat_map (entry_rows m.word) m.entries r p in
    let f = from_map (λ form. record { mnemonic = m.word; operand = form; op = e.0.op; fields = e.0.fields })
    e.0.forms r e.2 in
    ap (λ (s : Row). s.mnemonic) f.2

pub row_known : (m : Mnemonic) (r : Row) → Contains mnemonics m → Contains (rows_of m) r → Contains table r
row_known m r p q = into_flat_map rows_of mnemonics m r p q

pub word_known : (m : Mnemonic) → Contains mnemonics m → is_one_of mnemonic_words m.word ≡ true
word_known m p = any_element (λ v. bytes_eq m.word v) mnemonic_words m.word
    (into_map (λ (n : Mnemonic). n.word) mnemonics m p) (bytes_eq_self m.word)

pub word_reserved : (w : List ℕ) (m : Mnemonic) → Contains mnemonics m → bytes_eq w m.word ≡ true
    → is_reserved w ≡ true
word_reserved w m p e = rw (equal_bytes w m.word e, word_known m p) refl

pub word_listed : (w : List ℕ) (m : Mnemonic) → Contains mnemonics m → bytes_eq w m.word ≡ true
    → is_one_of mnemonic_words w ≡ true
word_listed w m p e = rw (equal_bytes w m.word e) (word_known m p)

pub mnemonic_test : (w : List ℕ) (o : Option (Bor declared_mnemonic.Mnemonic))
    → IfSome o (λ m. Contains mnemonics (mnemonic_view m.now)) → IfSome o (λ m. bytes_eq w m.now.word.now ≡ true)
    → IfNone o (is_one_of mnemonic_words w ≡ false) → is_some o ≡ is_one_of mnemonic_words w
mnemonic_test w None f g h = sym h
mnemonic_test w (Some m) f g h = sym (word_listed w (mnemonic_view m.now) f g)

-- the empty word is no mnemonic
pub no_word : (w : List ℕ) → length w ≡ 0 → is_one_of mnemonic_words w ≡ false
unfolding mnemonics
no_word [] e = refl
no_word (b ∷ bs) e = absurd (omega (arith, e))

-- the mnemonics that begin with a byte
kept_known : (t : Bool) (n : Mnemonic) (ns ms : List Mnemonic) (m : Mnemonic) → (Contains ns m → Contains ms m)
    → Contains (cond t (n ∷ ns) ns) m → Contains (n ∷ ms) m
kept_known t n ns ms m h1 h2 = search (rules, which_element, first_element, later_element)

pub from_known : (b : ℕ) (ms : List Mnemonic) (m : Mnemonic) → Contains (filter (begins_with b) ms) m → Contains ms m
from_known b [] m c = c
from_known b (n ∷ ms) m c = kept_known (begins_with b n) n (filter (begins_with b) ms) ms m (from_known b ms m) c

differ_first : (b : ℕ) (bs w : List ℕ) → is_first b w ≡ false → bytes_eq (b ∷ bs) w ≡ false
differ_first b bs [] e = refl
differ_first b bs (c ∷ cs) e = rw e refl

from_listed : (b : ℕ) (bs : List ℕ) (ms : List Mnemonic) → is_one_of (map (λ (m : Mnemonic). m.word)
    (filter (begins_with b) ms)) (b ∷ bs) ≡ is_one_of (map (λ (m : Mnemonic). m.word) ms) (b ∷ bs)
from_listed b bs [] = refl
from_listed b bs (n ∷ ms) = elim (cases_Bool (begins_with b n)) [
  | inl e ↦ rw e (ap (λ rest. bytes_eq (b ∷ bs) n.word || rest) (from_listed b bs ms))
  | inr e ↦ rw (e, differ_first b bs n.word e) (from_listed b bs ms)
]

-- a word that none of those that begin with its first byte is
pub none_from : (w : List ℕ) (d : ℕ) → 0 < length w → is_one_of (map (λ (m : Mnemonic). m.word)
    (filter (begins_with (get_or w 0 d)) mnemonics)) w ≡ false → is_one_of mnemonic_words w ≡ false
none_from [] d l e = absurd (omega arith)
none_from (b ∷ bs) d l e = sym (from_listed b bs mnemonics) ∙ e

-- Words that are extensions' names, and words that no reserved word is.

named_test : (es : List (ℕ × Ext)) (w : List ℕ)
    → is_some (lookup (bytes_eq w) (map (λ e. (ext_name e.1, e.1)) es)) ≡ is_one_of (map (λ e. ext_name e.1) es) w
named_test [] w = refl
named_test (e ∷ es) w = elim (cases_Bool (bytes_eq w (ext_name e.1))) [
  | inl same ↦ rw same refl
  | inr other ↦ rw other (named_test es w)
]

pub extension_test : (w : List ℕ) (o : Option Ext) → o ≡ ext_named w → is_some o ≡ is_one_of extension_names w
unfolding ext_named extension_names
extension_test w o found = rw found (named_test ext_table w)

-- a word that fails a test which all words of a list pass is none of them
not_listed : (p : List ℕ → Bool) (words : List (List ℕ)) (w : List ℕ) → list_all p words ≡ true → p w ≡ false
    → is_one_of words w ≡ false
not_listed p [] w all fails = refl
not_listed p (v ∷ vs) w all fails = or_from (bytes_eq w v) (is_one_of vs w)
    (false_from_ne_true (bytes_eq w v) (λ e.
    both_ways (p v) (ap p (sym (equal_bytes w v e)) ∙ fails) (and_parts (p v) _ all).0))
    (not_listed p vs w (and_parts (p v) _ all).1 fails)

-- the last byte is greater than 57, which is `9`
abbrev above_digits : List ℕ → Bool
above_digits w = not (nat_le (slice_index w (length w - 1)) 57)

reserved_above : list_all above_digits mnemonic_words
    && (list_all above_digits extension_names && list_all above_digits operand_words) ≡ true
unfolding mnemonics extension_names
reserved_above = refl

-- no reserved word ends with a digit
pub digit_free : (w : List ℕ) → nat_le (slice_index w (length w - 1)) 57 ≡ true → is_reserved w ≡ false
digit_free w h1 = search (rules, and_parts, reserved_above, not_listed)
