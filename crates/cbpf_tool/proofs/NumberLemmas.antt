-- Digits one after another.
use Rattle.std.proofs.Common.{◌≡◌, ℕ, ◌+◌, ◌-◌, ◌*◌, ◌<◌, ◌≤◌, min, true, false, ◌&&◌, nat_le, List, [], ◌∷◌, ◌++◌}
use Rattle.std.proofs.Common.{length, take, drop, get_or, None, fold, refl, sym, ap, ◌∙◌, inl, inr, arith, tests}
use Rattle.std.proofs.Math.Nat.{le-mul_of_pos_right, mul-le-mul_right}
use Rattle.std.specs.Prelude.{nat_lt}
use Rattle.std.specs.Char.{digit_value}
use Rattle.std.specs.List.{list_all}
use Rattle.std.proofs.lemmas.Bool.{cases_lt}
use Rattle.std.proofs.lemmas.List.{take-append-drop, take_more, at_drop_more}
use Rattle.std.proofs.lemmas.List.Folds.{list_all_at}
use Rattle.std.proofs.lemmas.List.Sums.{fold-append}
use Rattle.cbpf_code.specs.WordTokens.{is_digit, decimal_value}
use Rattle.cbpf_tool.specs.Numbers.{number_up_to, digits_value}

abbrev onward : ℕ → ℕ → ℕ
onward n b = 10 * n + (b - 48)

pub value-more : (s : List ℕ) (i : ℕ) → i < length s
    → decimal_value (take (i + 1) s) ≡ 10 * decimal_value (take i s) + (get_or s i 0 - 48)
value-more s i l = ap decimal_value (take_more s i 0 l) ∙ fold-append onward 0 (take i s) (get_or s i 0 ∷ [])

fold-grows : (a : ℕ) (ys : List ℕ) → a ≤ fold onward a ys
fold-grows a [] = omega arith
fold-grows a (y ∷ ys) = omega (arith, fold-grows (10 * a + (y - 48)) ys)

value-grows : (s : List ℕ) (i : ℕ) → decimal_value (take i s) ≤ decimal_value s
value-grows s i =
    let whole : take i s ++ drop i s ≡ s = take-append-drop i s in
    let sum : decimal_value s ≡ fold onward (decimal_value (take i s)) (drop i s) =
    ap decimal_value (sym whole) ∙ fold-append onward 0 (take i s) (drop i s) in
    omega (arith, sum, fold-grows (decimal_value (take i s)) (drop i s))

number-refused : (most : ℕ) (s : List ℕ) → (list_all is_digit s && nat_le (decimal_value s) most) ≡ false
    → number_up_to most s ≡ None
number-refused most [] h = refl
number-refused most (b ∷ bs) h = rw h refl

pub number-letter : (most : ℕ) (s : List ℕ) (i : ℕ) → i < length s → is_digit (get_or s i 0) ≡ false
    → None ≡ number_up_to most s
number-letter most s i l e = sym (number-refused most s (rw (list_all_at is_digit s i 0 l e) refl))

pub number-big : (most : ℕ) (s : List ℕ) (i : ℕ) → most < decimal_value (take i s) → None ≡ number_up_to most s
number-big most s i l =
    let no : nat_le (decimal_value s) most ≡ false = grind (arith, tests, value-grows s i) in
    sym (number-refused most s (grind (arith, tests)))

pub ruleset numbers = (value-more, number-letter, number-big)

-- ---- digits of a base

-- a capped number stays capped after one more digit
pub capped-step : (value base digit cap : ℕ) → 1 ≤ base
    → min (min value cap * base + digit) cap ≡ min (value * base + digit) cap
capped-step value base digit cap positive =
    elim (cases_lt value cap) [
      | inl small ↦ let same : min value cap ≡ value = omega (arith, small) in rw same refl
      | inr large ↦
          let same : min value cap ≡ cap = omega (arith, large) in
          let grown : cap ≤ cap * base = le-mul_of_pos_right cap positive in
          let more : cap * base ≤ value * base = mul-le-mul_right base large in
          rw same (omega (arith, grown, more))
    ]

-- one more digit
pub digit-more : (base value : ℕ) (ds : List ℕ) (i : ℕ) → i < length ds
    → nat_lt (digit_value (get_or ds i 0)) base ≡ true
    → digits_value base (value * base + digit_value (get_or ds i 0)) (drop (i + 1) ds)
    ≡ digits_value base value (drop i ds)
digit-more base value ds i inside small = sym (rw small at (at_drop_more (digits_value base value) ds i 0 inside))
