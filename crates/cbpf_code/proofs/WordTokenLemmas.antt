-- How the tokens of a text begin.
use Rattle.std.proofs.Common.{IsTrue, nat_eq, true, false, length, get_or, arith, tests, drop-cons, drop-drop, add-one}
use Rattle.std.proofs.Common.{◌↔◌, ◌≡◌, ℕ, ◌+◌, ◌<◌, ◌≤◌, ◌≢◌, inl, inr, List, [], ◌∷◌, ◌++◌, drop, refl, ◌∙◌, ap, suc}
use Rattle.std.specs.List.{AllByRecursion, take_while, prefix_len}
use Rattle.std.proofs.lemmas.Bool.{cases_Bool, cases_lt, eq-eqb, eqb-true}
use Rattle.std.proofs.Math.Seq.{take-append_seam, drop-append_seam}
use Rattle.std.proofs.lemmas.List.{drop_all}
use Rattle.cbpf_code.specs.WordTokens.{WordToken, numeral, single, is_digit, is_blank, begins_with_digit, tokens_in}
use Rattle.cbpf_code.specs.WordTokens.{tokens_at, tokens_from}

blank_no_digit : (b : ℕ) → is_blank b ≡ true → is_digit b ≡ false
blank_no_digit b e = grind (arith, tests)

-- the four ways in which a text begins

pub law-empty : (at : ℕ) → tokens_at at [] ≡ []
unfolding tokens_in
law-empty at = refl

pub law-blank : (at b : ℕ) (rest : List ℕ) → is_blank b ≡ true → tokens_at at (b ∷ rest) ≡ tokens_at (at + 1) rest
unfolding tokens_in
law-blank at b rest e = rw (add-one, blank_no_digit b e, e) refl

pub law-single : (at b : ℕ) (rest : List ℕ) → is_blank b ≡ false → is_digit b ≡ false
    → tokens_at at (b ∷ rest) ≡ single at b ∷ tokens_at (at + 1) rest
unfolding tokens_in
law-single at b rest n d = rw (add-one, d, n) refl

-- what follows a numeral
after_numeral : (at : ℕ) (bs : List ℕ)
    → tokens_in true at bs ≡ tokens_at (at + prefix_len is_digit bs) (drop (prefix_len is_digit bs) bs)
unfolding tokens_in
after_numeral at [] = refl
after_numeral at (b ∷ bs) = elim (cases_Bool (is_digit b)) [
  | inl e ↦
      let one : 1 + prefix_len is_digit bs ≡ suc (prefix_len is_digit bs) = omega arith in
      let seam : suc at + prefix_len is_digit bs ≡ at + suc (prefix_len is_digit bs) = omega arith in
      rw (e, one) (after_numeral (suc at) bs ∙ ap (λ p. tokens_at p (drop (prefix_len is_digit bs) bs)) seam)
  | inr e ↦ let z : at + 0 ≡ at = omega arith in rw (e, z, e) refl
]

numeral-length : (digits rest : List ℕ) → AllByRecursion (λ b. is_digit b ≡ true) digits → begins_with_digit rest ≡ false
    → prefix_len is_digit (digits ++ rest) ≡ length digits
numeral-length [] [] all stop = refl
numeral-length [] (b ∷ rest) all stop = rw stop refl
numeral-length (d ∷ ds) rest all stop = let more = numeral-length ds rest all.1 stop in rw all.0 (omega (arith, more))

pub law-numeral : (at : ℕ) (digits rest : List ℕ) → digits ≢ [] → AllByRecursion (λ b. is_digit b ≡ true) digits
    → begins_with_digit rest ≡ false
    → tokens_at at (digits ++ rest) ≡ numeral at digits ∷ tokens_at (at + length digits) rest
unfolding tokens_in
law-numeral at [] rest some all stop = absurd (some refl)
law-numeral at (d ∷ ds) rest some all stop =
    let long = numeral-length ds rest all.1 stop in
    let seam : suc at + length ds ≡ at + length (d ∷ ds) = omega arith in
    rw (all.0, after_numeral (suc at) (ds ++ rest), long, take-append_seam ds rest, drop-append_seam ds rest, seam) refl

-- the same at a place of a text

pub step-blank : (text : List ℕ) (i : ℕ) → i < length text → is_blank (get_or text i 0) ≡ true
    → tokens_from text i ≡ tokens_from text (i + 1)
step-blank text i l e = grind (arith, drop-cons, add-one, law-blank)

pub step-single : (text : List ℕ) (i : ℕ) → i < length text → is_digit (get_or text i 0) ≡ false
    → is_blank (get_or text i 0) ≡ false
    → tokens_from text i ≡ single i (get_or text i 0) ∷ tokens_from text (i + 1)
step-single text i l d e = grind (arith, drop-cons, add-one, law-single)

pub step-end : (text : List ℕ) (i : ℕ) → length text ≤ i → tokens_from text i ≡ []
step-end text i l = rw (drop_all i text l) (law-empty i)

pub step-numeral : (text : List ℕ) (i : ℕ) → i < length text → is_digit (get_or text i 0) ≡ true
    → tokens_from text i
    ≡ numeral i (take_while is_digit (drop i text)) ∷ tokens_from text (i + prefix_len is_digit (drop i text))
unfolding tokens_in
step-numeral text i l d =
    let bs = drop (suc i) text in
    let n = prefix_len is_digit bs in
    let one : 1 + n ≡ suc n = omega arith in
    let seam : suc i + n ≡ i + suc n = omega arith in
    let rest : tokens_in true (suc i) bs ≡ tokens_from text (i + suc n) =
    after_numeral (suc i) bs ∙ ap (tokens_at (suc i + n)) (drop-drop n (suc i) text) ∙ ap (tokens_from text) seam in
    rw (drop-cons text i 0 l, d, one)
    (ap (λ (ms : List WordToken). numeral i (get_or text i 0 ∷ take_while is_digit bs) ∷ ms) rest)

pub ruleset token_steps = (step-blank, step-single, step-end)

-- a byte that is no blank begins a token
tokens-some : (at b : ℕ) (bs : List ℕ) → is_blank b ≡ false → tokens_at at (b ∷ bs) ≡ [] → ⊥
unfolding tokens_in
tokens-some at b bs n e = elim (cases_Bool (is_digit b)) [
  | inl d ↦ let f = rw d at e in cc
  | inr d ↦ let f = rw (d, n) at e in cc
]

pub some-token : (text : List ℕ) (i : ℕ) → i < length text → is_blank (get_or text i 0) ≡ false
    → tokens_from text i ≡ [] → ⊥
some-token text i l b e = grind (arith, tokens-some, drop-cons)

-- `start` is the first place from `at` on that is no blank
pub end-or-not : (text : List ℕ) (at start : ℕ) → start ≤ length text → tokens_from text start ≡ tokens_from text at
    → (start < length text → is_blank (get_or text start 0) ≡ false)
    → IsTrue (nat_eq start (length text)) ↔ (tokens_from text at ≡ [])
end-or-not text at start w same stops = grind (arith, eqb-true, step-end, cases_lt, some-token, eq-eqb)

pub ruleset laws = (law-empty, law-blank, law-single, law-numeral)

pub ruleset ends = (end-or-not)
