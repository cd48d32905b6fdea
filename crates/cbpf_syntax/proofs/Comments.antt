-- The scan for the first `*/`, and texts that are cut after it.
use Rattle.std.proofs.Common.{◌≡◌, ℕ, zero, suc, ◌+◌, ◌≤◌, Bool, true, false, ◌&&◌, ◌||◌, List, [], ◌∷◌, length}
use Rattle.std.proofs.Common.{take, drop, refl, ap, sym, arith, Option, Some, None, inl, inr}
use Rattle.std.specs.Prelude.{◌==◌, option_map, nat_le}
use Rattle.std.proofs.lemmas.Bool.Decides.{nat_tests}
use Rattle.cbpf_syntax.specs.Pieces.{begins_with_close, has_close, close_after}
use Rattle.std.proofs.lemmas.Bool.{cases_Bool}
use Rattle.cbpf_syntax.proofs.Cuts.{some-same}
use Prim.Native.Nat.compare
use lib.Dec.{is_le}

-- where the first i bytes have no `*/`, the rest decides
abbrev pub IsOpenTo : List ℕ → ℕ → Bool → Type 0
IsOpenTo body i star = close_after false body ≡ option_map (λ n. i + n) (close_after star (drop i body))

mapped_some : (o : Option ℕ) (n : ℕ) → option_map suc o ≡ Some n → (k : ℕ) × (o ≡ Some k) × (n ≡ suc k)
mapped_some None n e = cc
mapped_some (Some k) n e = (k, refl, some-same n (suc k) (sym e))

-- a comment ends within the text
pub close_within : (star : Bool) (bs : List ℕ) (n : ℕ) → close_after star bs ≡ Some n → n ≤ length bs
close_within star [] n e = cc
close_within star (b ∷ bs) n e = elim (cases_Bool (star && b == 47)) [
  | inl h ↦ let k = some-same 1 n (rw h at e) in omega (arith, k)
  | inr h ↦
      let p = mapped_some (close_after (b == 42) bs) n (rw h at e) in
      omega (arith, p.2, close_within (b == 42) bs p.0 p.1)
]

-- whether there is a place, and it is at most m
abbrev pub is_within : Option ℕ → ℕ → Bool
is_within None m = false
is_within (Some n) m = nat_le n m

within_more : (o : Option ℕ) (m : ℕ) → is_within (option_map suc o) (suc m) ≡ is_within o m
within_more None m = refl
within_more (Some k) m = ap is_le (compare.suc-suc k m)

within_none : (o : Option ℕ) → is_within (option_map suc o) 0 ≡ false
within_none None = refl
within_none (Some k) = grind (arith, nat_tests)

-- the bytes close a comment after a byte that is a `*` or not
abbrev closes : Bool → List ℕ → Bool
closes star [] = false
closes star (b ∷ bs) = star && b == 47

closes_pair : (b : ℕ) (bs : List ℕ) → begins_with_close (b ∷ bs) ≡ closes (b == 42) bs
closes_pair b [] = refl
closes_pair b (c ∷ cs) = refl

closed_after : (star : Bool) (bs : List ℕ) (m : ℕ)
    → (closes star (take m bs) || has_close (take m bs)) ≡ is_within (close_after star bs) m
closed_after star [] zero = refl
closed_after star [] (suc m) = refl
closed_after star (b ∷ bs) zero = elim (cases_Bool (star && b == 47)) [
  | inl h ↦ rw h refl
  | inr h ↦ rw (h, within_none (close_after (b == 42) bs)) refl
]
closed_after star (b ∷ bs) (suc m) = elim (cases_Bool (star && b == 47)) [
  | inl h ↦ let far : nat_le 1 (suc m) ≡ true = grind (arith, nat_tests) in rw (h, far) refl
  | inr h ↦ rw (h, closes_pair b (take m bs), within_more (close_after (b == 42) bs) m) (closed_after (b == 42) bs m)
]

-- the fronts of a text that have a `*/` are those that reach to the end of its first one
pub close_taken : (bs : List ℕ) (m : ℕ) → has_close (take m bs) ≡ is_within (close_after false bs) m
close_taken bs m = rw (never (take m bs)) at (closed_after false bs m)
  where
    never : (xs : List ℕ) → (closes false xs || has_close xs) ≡ has_close xs
    never [] = refl
    never (x ∷ xs) = refl
