-- Words and blanks of a text.
use Rattle.std.proofs.Common.{◌≡◌, ℕ, suc, ◌+◌, ◌-◌, ◌<◌, ◌≤◌, not, [], ◌∷◌, take, drop, inl, inr, refl, ap, ◌∙◌}
use Rattle.std.proofs.Common.{true, false, List, length, get_or, drop-cons, add-one, length-drop, take_all, arith}
use Rattle.std.specs.List.{suffix_len}
use Rattle.std.proofs.lemmas.Bool.{cases_Bool}
use Rattle.std.proofs.lemmas.List.{nil_from_length}
use Rattle.std.proofs.lemmas.List.Sums.{suffix_len-take_yes, suffix_len-take_no}
use Rattle.cbpf_code.specs.WordTokens.{is_blank}
use Rattle.cbpf_code.specs.Text.{put_front}
use Rattle.cbpf_tool.specs.LineWords.{words_of, after_words, word_end, trim_start, trim_end}

-- ---- blanks at the front and at the end

drop-none : (s : List ℕ) (i : ℕ) → length s ≤ i → drop i s ≡ []
drop-none s i l = nil_from_length (drop i s) (omega (arith, length-drop i s))

one-more : (n : ℕ) → 1 + n ≡ suc n
one-more n = omega arith

pub start-step : (s : List ℕ) (i : ℕ) → i < length s → is_blank (get_or s i 0) ≡ true
    → trim_start (drop i s) ≡ trim_start (drop (i + 1) s)
unfolding trim_start
start-step s i l h = rw (drop-cons s i 0 l, h, one-more, add-one) refl

pub start-stop : (s : List ℕ) (i : ℕ) → i < length s → is_blank (get_or s i 0) ≡ false
    → trim_start (drop i s) ≡ drop i s
unfolding trim_start
start-stop s i l h = rw (drop-cons s i 0 l, h) refl

pub start-end : (s : List ℕ) (i : ℕ) → length s ≤ i → trim_start (drop i s) ≡ drop i s
unfolding trim_start
start-end s i l = rw (drop-none s i l) refl

pub ruleset starts = (start-step, start-stop, start-end)

pub end-step : (s : List ℕ) (e : ℕ) → 0 < e → e ≤ length s → is_blank (get_or s (e - 1) 0) ≡ true
    → e - suffix_len is_blank (take e s) ≡ e - 1 - suffix_len is_blank (take (e - 1) s)
end-step s e p l h = omega (arith, suffix_len-take_yes is_blank s e 0 p l h)

pub end-stop : (s : List ℕ) (e : ℕ) → length s - suffix_len is_blank s ≡ e - suffix_len is_blank (take e s) → 0 < e
    → e ≤ length s → is_blank (get_or s (e - 1) 0) ≡ false → take e s ≡ trim_end s
unfolding trim_end
end-stop s e k p l h = ap (λ n. take n s) (omega (arith, k, suffix_len-take_no is_blank s e 0 p l h))

pub end-none : (s : List ℕ) (e : ℕ) → length s - suffix_len is_blank s ≡ e - suffix_len is_blank (take e s) → e ≤ 0
    → take e s ≡ trim_end s
unfolding trim_end
end-none s e k l = ap (λ n. take n s) (omega (arith, k))

pub ruleset ends = (end-step, end-stop, end-none)

-- ---- the first word

pub word-step : (s : List ℕ) (i : ℕ) → i < length s → is_blank (get_or s i 0) ≡ false
    → word_end (drop i s) ≡ word_end (drop (i + 1) s) + 1
word-step s i l h = rw (drop-cons s i 0 l, h, one-more, add-one, add-one) refl

pub word-stop : (s : List ℕ) (i : ℕ) → i < length s → is_blank (get_or s i 0) ≡ true → word_end (drop i s) ≡ 0
word-stop s i l h = rw (drop-cons s i 0 l, h) refl

pub word-none : (s : List ℕ) (i : ℕ) → length s ≤ i → word_end (drop i s) ≡ 0
word-none s i l = rw (drop-none s i l) refl

pub ruleset runs = (word-step, word-stop, word-none)

begun-words : (b : ℕ) (bs : List ℕ) → is_blank b ≡ false
    → words_of (b ∷ bs) ≡ (b ∷ take (word_end bs) bs) ∷ words_of (drop (word_end bs) bs)
unfolding words_of
begun-words b [] h = rw h refl
begun-words b (x ∷ xs) h = elim (cases_Bool (is_blank x)) [
  | inl e ↦ rw (h, ap not e) refl
  | inr e ↦ rw (h, ap not e, one-more (word_end xs)) (ap (put_front b) (begun-words x xs e))
]

begun-rest : (n b : ℕ) (bs : List ℕ) → is_blank b ≡ false
    → after_words (suc n) (b ∷ bs) ≡ after_words n (drop (word_end bs) bs)
unfolding after_words
begun-rest n b [] h = rw h refl
begun-rest n b (x ∷ xs) h = elim (cases_Bool (is_blank x)) [
  | inl e ↦ rw (h, ap not e) refl
  | inr e ↦ rw (h, ap not e, one-more (word_end xs)) (begun-rest n x xs e)
]

pub no-words : (text : List ℕ) → length (trim_start text) ≡ 0 → words_of text ≡ []
unfolding words_of trim_start
no-words [] n = refl
no-words (b ∷ bs) n = elim (cases_Bool (is_blank b)) [
  | inl e ↦ rw e (no-words bs (rw (e, one-more) at n))
  | inr e ↦ absurd (let k : suc (length bs) ≡ 0 = rw e at n in omega arith)
]

pub first-word : (text : List ℕ) (i : ℕ) → i ≡ word_end (trim_start text) → (length (trim_start text) ≡ 0 → ⊥)
    → words_of text ≡ take i (trim_start text) ∷ words_of (drop i (trim_start text))
unfolding words_of trim_start
first-word [] i k n = absurd (n refl)
first-word (b ∷ bs) i k n = elim (cases_Bool (is_blank b)) [
  | inl e ↦ rw (e, one-more) (first-word bs i (rw (e, one-more) at k) (rw (e, one-more) at n))
  | inr e ↦ let t : trim_start (b ∷ bs) ≡ b ∷ bs = rw e refl in
      let m : i ≡ suc (word_end bs) = k ∙ rw (t, e, one-more) refl in
      rw (t, m) (begun-words b bs e)
]

pub first-rest : (n : ℕ) (text : List ℕ) (i : ℕ) → i ≡ word_end (trim_start text)
    → (length (trim_start text) ≡ 0 → ⊥) → after_words (suc n) text ≡ after_words n (drop i (trim_start text))
unfolding after_words trim_start
first-rest n [] i k z = absurd (z refl)
first-rest n (b ∷ bs) i k z = elim (cases_Bool (is_blank b)) [
  | inl e ↦ rw (e, one-more) (first-rest n bs i (rw (e, one-more) at k) (rw (e, one-more) at z))
  | inr e ↦ let t : trim_start (b ∷ bs) ≡ b ∷ bs = rw e refl in
      let m : i ≡ suc (word_end bs) = k ∙ rw (t, e, one-more) refl in
      rw (t, m) (begun-rest n b bs e)
]

pub rest-of : (s : List ℕ) (i : ℕ) → take (length s - i) (drop i s) ≡ drop i s
rest-of s i = take_all _ _ (omega (arith, length-drop i s))

pub ruleset firsts = (no-words, first-word, first-rest, rest-of)
