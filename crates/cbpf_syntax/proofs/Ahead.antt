-- What holds of tokens whatever tokens follow.
use Rattle.std.proofs.Common.{rules, refl, ◌≡◌, ℕ, suc, ◌<◌, true, List, [], ◌∷◌, ◌++◌, length, take, arith, sym, subst, ◌+◌}
use Rattle.std.proofs.Common.{length-append}
use Rattle.std.proofs.lemmas.List.{take-append-le}
use Rattle.cbpf_syntax.specs.Lexemes.{Lexeme}
use Rattle.cbpf_syntax.specs.Items.{Item, AreLabels, IsItem}
use Rattle.cbpf_syntax.specs.Steps.{Goes, Stuck, IsNextItem, starts_with_label}
use Rattle.cbpf_syntax.proofs.Greedy.{front_as, goes_as}
use Rattle.cbpf_syntax.proofs.Steps.{label_stuck, label_item}

-- a front that is not all of the tokens
front_more : (n : ℕ) (ts us : List Lexeme) → n < length ts → take (suc n) ts ≡ take (suc n) (ts ++ us)
front_more n ts us l = sym (take-append-le (suc n) ts us (omega arith))

goes_more : (n : ℕ) (ts us : List Lexeme) → n < length ts → Goes n ts → Goes n (ts ++ us)
goes_more n ts us l g = goes_as n ts (ts ++ us) (front_more n ts us l) l (omega (arith, length-append ts us)) g

pub stuck_more : (n : ℕ) (ts us : List Lexeme) → n < length ts → Stuck n ts → Stuck n (ts ++ us)
stuck_more n ts us l s = record {
  goes = goes_more n ts us l s.goes;
  none = rw (← front_as n ts (ts ++ us) (front_more n ts us l)) s.none;
}

pub next_more : (n : ℕ) (ts us : List Lexeme) (item : Item) → n < length ts → IsNextItem ts n item
    → IsNextItem (ts ++ us) n item
next_more n ts us item l next = record {
  goes = goes_more n ts us l next.goes;
  is_item = subst (λ x. IsItem x item) (front_as n ts (ts ++ us) (front_more n ts us l)) next.is_item;
}

pub label_more : (ts us : List Lexeme) → starts_with_label ts ≡ true → starts_with_label (ts ++ us) ≡ true
label_more ts us h1 = search (rules)

-- The labels before an instruction.

pub labels_stuck : (us ls ts : List Lexeme) (n : ℕ) → AreLabels us ls → Stuck n ts → Stuck (length us + n) (us ++ ts)
labels_stuck [] [] ts n a s = let e : 0 + n ≡ n = omega arith in rw e s
labels_stuck (t ∷ u ∷ us) (l ∷ ls) ts n a s =
    let e : suc (suc (length us)) + n ≡ suc (suc (length us + n)) = omega arith in
    rw e (label_stuck t u (us ++ ts) (length us + n) a.1 a.2 (labels_stuck us ls ts n a.3 s))
labels_stuck us ls ts n a s = absurd a

pub labels_item : (us ls ts : List Lexeme) (n : ℕ) (item : Item) → AreLabels us ls → IsNextItem ts n item
    → IsNextItem (us ++ ts) (length us + n)
    (record { labels = ls ++ item.labels; row = item.row; body = item.body })
labels_item [] [] ts n item a s = let e : 0 + n ≡ n = omega arith in rw e s
labels_item (t ∷ u ∷ us) (l ∷ ls) ts n item a s =
    let e : suc (suc (length us)) + n ≡ suc (suc (length us + n)) = omega arith in
    rw (e, ← a.0) (label_item t u (us ++ ts) (length us + n)
    (record { labels = ls ++ item.labels; row = item.row; body = item.body }) a.1 a.2
    (labels_item us ls ts n item a.3 s))
labels_item us ls ts n item a s = absurd a

pub labels_append : (us ls vs ms : List Lexeme) → AreLabels us ls → AreLabels vs ms → AreLabels (us ++ vs) (ls ++ ms)
labels_append [] [] vs ms a b = b
labels_append (t ∷ u ∷ us) (l ∷ ls) vs ms a b = (a.0, a.1, a.2, labels_append us ls vs ms a.3 b)
labels_append us ls vs ms a b = absurd a

-- each label is two tokens
pub labels_size : (us ls : List Lexeme) → AreLabels us ls → length us ≡ length ls + length ls
labels_size [] [] a = refl
labels_size (t ∷ u ∷ us) (l ∷ ls) a = omega (arith, labels_size us ls a.3)
labels_size us ls a = absurd a
