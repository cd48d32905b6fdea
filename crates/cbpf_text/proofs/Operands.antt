-- An operand's tokens one by one, from its end: its literal, its labels.
use Rattle.std.proofs.Common.{◌≡◌, refl, sym, ◌∙◌, ℕ, ◌+◌, ◌-◌, ◌<◌, ◌≤◌, ◌⊎◌, inl, inr, min}
use Rattle.std.proofs.Common.{List, [], ◌∷◌, length, map, drop, get_or, Option, None, arith}
use Rattle.std.specs.Option.{unwrap_or}
use Rattle.std.proofs.Math.Numerals.{add-one}
use Rattle.std.proofs.Math.ListN.{get_or-map}
use Rattle.std.proofs.Math.Seq.{drop-cons}
use Rattle.std.proofs.lemmas.Bool.{cases_lt}
use Rattle.std.proofs.lemmas.List.{drop_all, length-map}
use Rattle.cbpf_syntax.specs.declared.class.Class as declared_class
use Rattle.cbpf_syntax.specs.declared.class.Class.TheVariants as variants
use Rattle.cbpf_syntax.specs.declared.lexeme.Lexeme as declared_lexeme
use Rattle.cbpf_syntax.specs.declared.lexeme.Symbol.TheVariants as symbols
use Rattle.cbpf_syntax.specs.Classes.{Class}
use Rattle.cbpf_syntax.specs.Classes.Class.{the_word}
use Rattle.cbpf_syntax.specs.Lexemes.{Symbol, Lexeme}
use Rattle.cbpf_text.specs.Operands.{names_at, when_name}
use Rattle.cbpf_syntax.specs.Views.{class_of, symbol_of, lexeme_of}
use Rattle.cbpf_text.specs.Operands.{value_at, literal_of}

-- what the classes from an index on give, with their tokens
abbrev pub literals : List declared_class.Class → List declared_lexeme.Lexeme → ℕ → ℕ → ℕ
literals os bs i j = literal_of (drop i (map class_of os)) (drop j (map lexeme_of bs))

abbrev pub names : List declared_class.Class → List declared_lexeme.Lexeme → ℕ → ℕ → List Lexeme
names os bs i j = names_at (drop i (map class_of os)) (drop j (map lexeme_of bs))

no_tokens : (cs : List Class) → (literal_of cs [] ≡ 0) × (names_at cs [] ≡ [])
no_tokens [] = (refl, refl)
no_tokens (c ∷ cs) = (refl, refl)

pub literal_begin : (w : List ℕ) (cs : List Class) (ts : List Lexeme)
    → literal_of (the_word w ∷ cs) ts ≡ literal_of cs (drop 1 ts)
literal_begin w cs [] = sym (no_tokens cs).0
literal_begin w cs (t ∷ ts) = refl

pub names_begin : (w : List ℕ) (cs : List Class) (ts : List Lexeme)
    → names_at (the_word w ∷ cs) ts ≡ names_at cs (drop 1 ts)
names_begin w cs [] = sym (no_tokens cs).1
names_begin w cs (t ∷ ts) = refl

-- the element at an index, and what follows
cut_at : {A B : Type 0} (f : A → B) (xs : List A) (i : ℕ) (d : A) → i < length xs
    → drop i (map f xs) ≡ f (get_or xs i d) ∷ drop (i + 1) (map f xs)
cut_at f xs i d l =
    let m : i < length (map f xs) = omega (arith, length-map xs f) in
    drop-cons (map f xs) i (f d) m ∙ rw (get_or-map f xs i d, add-one) refl

both_at : (os : List declared_class.Class) (bs : List declared_lexeme.Lexeme) (i : ℕ) (c : declared_class.Class)
    (t : declared_lexeme.Lexeme) → 0 < i → i ≤ length os → i ≤ length bs - 1
    → (drop (i - 1) (map class_of os) ≡ class_of (get_or os (i - 1) c) ∷ drop i (map class_of os))
    × (drop (i - 1 + 1) (map lexeme_of bs) ≡ lexeme_of (get_or bs i t) ∷ drop (i + 1) (map lexeme_of bs))
both_at os bs i c t p l m = grind (arith, cut_at)

-- one more class, and its token: what they give comes before what those after them gave
pub literal_put : (os : List declared_class.Class) (bs : List declared_lexeme.Lexeme) (i : ℕ)
    (c : declared_class.Class) (t : declared_lexeme.Lexeme) → 0 < i → i ≤ length os → i ≤ length bs - 1
    → (r : Option ℕ) → r ≡ value_at (class_of (get_or os (i - 1) c)) (symbol_of (get_or bs i t).symbol)
    → literals os bs (i - 1) (i - 1 + 1) ≡ unwrap_or r (literals os bs i (i + 1))
literal_put os bs i c t p l m r v = let b = both_at os bs i c t p l m in rw (b.0, b.1, v) refl

some_lexeme : declared_lexeme.Lexeme
some_lexeme = record { symbol = symbols.Mark 0; at = 0 }

pub literal_kept : (os : List declared_class.Class) (bs : List declared_lexeme.Lexeme) (i : ℕ)
    (c k : declared_class.Class) → 0 < i → i ≤ length os → i ≤ length bs - 1 → get_or os (i - 1) c ≡ k
    → ((s : Symbol) → None ≡ value_at (class_of k) s)
    → literals os bs (i - 1) (i - 1 + 1) ≡ literals os bs i (i + 1)
literal_kept os bs i c k p l m e none = literal_put os bs i c some_lexeme p l m None (rw e (none _))

pub name_put : (os : List declared_class.Class) (bs : List declared_lexeme.Lexeme) (i : ℕ) (c : declared_class.Class)
    (t : declared_lexeme.Lexeme) → 0 < i → i ≤ length os → i ≤ length bs - 1 → get_or os (i - 1) c ≡ variants.Name
    → names os bs (i - 1) (i - 1 + 1) ≡ lexeme_of (get_or bs i t) ∷ names os bs i (i + 1)
name_put os bs i c t p l m n = let b = both_at os bs i c t p l m in rw (b.0, b.1, n) refl

no_name : (c : declared_class.Class) (t : Lexeme) → (c ≡ variants.Name → ⊥) → when_name (class_of c) t ≡ []
no_name variants.Name t h = absurd (h refl)
no_name x t h = refl

pub other_put : (os : List declared_class.Class) (bs : List declared_lexeme.Lexeme) (i : ℕ) (c : declared_class.Class)
    → 0 < i → i ≤ length os → i ≤ length bs - 1 → (get_or os (i - 1) c ≡ variants.Name → ⊥)
    → names os bs (i - 1) (i - 1 + 1) ≡ names os bs i (i + 1)
other_put os bs i c p l m n =
    let b = both_at os bs i c some_lexeme p l m in
    rw (b.0, b.1, no_name (get_or os (i - 1) c) (lexeme_of (get_or bs i some_lexeme)) n) refl

-- past the operand or the tokens nothing is left
past : (os : List declared_class.Class) (bs : List declared_lexeme.Lexeme) (i : ℕ)
    → (length os ≤ i) ⊎ (length bs ≤ i + 1) → (literals os bs i (i + 1) ≡ 0) × (names os bs i (i + 1) ≡ [])
past os bs i (inl l) =
    let e = drop_all i (map class_of os) (omega (arith, length-map os class_of)) in rw e (refl, refl)
past os bs i (inr l) =
    let e = drop_all (i + 1) (map lexeme_of bs) (omega (arith, length-map bs lexeme_of)) in
    rw e (no_tokens (drop i (map class_of os)))

all_past : (os : List declared_class.Class) (bs : List declared_lexeme.Lexeme) (i j : ℕ) → j ≡ length bs - 1
    → i ≡ min (length os) j → (literals os bs i (i + 1) ≡ 0) × (names os bs i (i + 1) ≡ [])
all_past os bs i j e f = elim (cases_lt i (length os)) [
  | inl l ↦ past os bs i (inr (omega arith))
  | inr l ↦ past os bs i (inl l)
]

pub literal_past : (os : List declared_class.Class) (bs : List declared_lexeme.Lexeme) (i j : ℕ) → j ≡ length bs - 1
    → i ≡ min (length os) j → literals os bs i (i + 1) ≡ 0
literal_past os bs i j e f = (all_past os bs i j e f).0

pub names_past : (os : List declared_class.Class) (bs : List declared_lexeme.Lexeme) (i j : ℕ) → j ≡ length bs - 1
    → i ≡ min (length os) j → names os bs i (i + 1) ≡ []
names_past os bs i j e f = (all_past os bs i j e f).1
