-- Word text as it is written is read back.
use Rattle.std.proofs.Common.{◌≡◌, ◌≢◌, ℕ, ◌+◌, ◌-◌, ◌*◌, ◌^◌, ◌<◌, ◌≤◌, true, false, List, [], ◌∷◌, ◌++◌}
use Rattle.std.proofs.Common.{length, codes, decimal, append_assoc, None, Some, refl, ap, ◌∙◌, arith, tests}
use Rattle.std.specs.List.{All, AllByRecursion, flat_map, fold}
use Rattle.std.specs.Char.{digit_value}
use Rattle.std.specs.Str.Parse.{AllDigits, digits_value_after}
use Rattle.std.proofs.lemmas.Fmt.{decimal_is_IsNumeral, decimal_nonempty}
use Rattle.std.proofs.lemmas.List.Elements.{All-head, All-tail}
use Rattle.std.proofs.lemmas.Str.{digit_value_digit}
use Rattle.std.proofs.lemmas.Str.Parse.{digit_from_value}
use Rattle.cbpf_code.specs.WordTokens.{numeral, is_digit, begins_with_digit, decimal_value, tokens_at}
use Rattle.cbpf_code.specs.WordText.{Due, count, count_comma, code, jt, jf, k, comma, next_due, limit_of}
use Rattle.cbpf_code.specs.WordText.{first_word_fault, numbers, Spells}
use Rattle.cbpf_code.specs.WordForm.{InRange, word_line, word_text}
use Rattle.cbpf_code.specs.WordSteps.{fields_of}
use Rattle.cbpf_code.proofs.WordTokenLemmas.{law-empty, law-blank, law-single, law-numeral}
use Rattle.cbpf_code.proofs.WordStepLemmas.{whole-spells}
use Rattle.cbpf_code.specs.declared.insn.Insn.{Insn}

-- ---- a number in decimal

digit-test : (c : ℕ) → digit_value c < 10 → is_digit c ≡ true
digit-test c h = let r = digit_from_value c h in grind (arith, tests)

all_digits : (ds : List ℕ) → AllDigits 10 ds → AllByRecursion (λ b. is_digit b ≡ true) ds
all_digits [] h = tt
all_digits (c ∷ cs) h = (digit-test c h.0, all_digits cs h.1)

number_after : (n : ℕ) (ds : List ℕ) → AllDigits 10 ds
    → fold (λ m b. 10 * m + (b - 48)) n ds ≡ digits_value_after 10 n ds
number_after n [] h = refl
number_after n (c ∷ cs) h =
    let v : digit_value c + 48 ≡ c = digit_value_digit c (digit_from_value c h.0) in
    let e : 10 * n + (c - 48) ≡ n * 10 + digit_value c = omega arith in
    ap (λ m. fold (λ m b. 10 * m + (b - 48)) m cs) e ∙ number_after (n * 10 + digit_value c) cs h.1

number-decimal : (n : ℕ) → n < 2 ^ 64 → decimal_value (decimal n) ≡ n
number-decimal n h = let k = decimal_is_IsNumeral n h in number_after 0 (decimal n) k.0.1 ∙ k.1

some_digits : (ds : List ℕ) → 0 < length ds → ds ≢ []
some_digits [] l e = omega (arith, l)
some_digits (c ∷ cs) l e = cc

tokens-decimal : (at n : ℕ) (rest : List ℕ) → n < 2 ^ 64 → begins_with_digit rest ≡ false
    → tokens_at at (decimal n ++ rest) ≡ numeral at (decimal n) ∷ tokens_at (at + length (decimal n)) rest
tokens-decimal at n rest h stop =
    grind (arith, law-numeral, some_digits, decimal_nonempty, all_digits, decimal_is_IsNumeral)

-- ---- texts, wherever they stand

-- wherever the text stands, nothing is wrong with it where something is due, and its numbers are ns
abbrev Reads : List ℕ → Due → List ℕ → Type 0
Reads text due ns =
    (at : ℕ) → ((n : ℕ) → first_word_fault due n (tokens_at at text) ≡ None)
    × (numbers (tokens_at at text) ≡ ns)

reads-newline : Reads (codes "\n") code []
reads-newline at = rw (law-blank at 10 [] refl, law-empty (at + 1)) ((λ n. refl), refl)

reads-space : (text : List ℕ) (due : Due) (ns : List ℕ) → Reads text due ns → Reads (32 ∷ text) due ns
reads-space text due ns r at = rw (law-blank at 32 text refl) (r (at + 1))

reads-comma : (text : List ℕ) (due : Due) (ns : List ℕ) → limit_of due ≡ None → Reads text (next_due due) ns
    → Reads (44 ∷ text) due ns
reads-comma text due ns none r at = grind (arith, law-single)

reads-number : (text : List ℕ) (number range : ℕ) (due : Due) (ns : List ℕ) → begins_with_digit text ≡ false
    → limit_of due ≡ Some range → range ≤ 2 ^ 32 → number < range → Reads text (next_due due) ns
    → Reads (decimal number ++ text) due (number ∷ ns)
reads-number text number range due ns stop is small l r at = grind (arith, number-decimal, tokens-decimal)

-- ---- instructions

line-split : (i : Insn) (text : List ℕ) → word_line i ++ text
    ≡ decimal i.code ++ (32 ∷ decimal i.jt ++ (32 ∷ decimal i.jf ++ (32 ∷ decimal i.k ++ (44 ∷ text))))
line-split i text = simp append_assoc

reads-line : (i : Insn) (text : List ℕ) (ns : List ℕ) → InRange i → Reads text code ns
    → Reads (word_line i ++ text) code (i.code ∷ i.jt ∷ i.jf ∷ i.k ∷ ns)
reads-line i text ns h r =
    let last = reads-number _ i.k _ k _ refl refl (omega arith) h.k (reads-comma _ comma _ refl r) in
    let third = reads-number _ i.jf _ jf _ refl refl (omega arith) h.jf (reads-space _ _ _ last) in
    let second = reads-number _ i.jt _ jt _ refl refl (omega arith) h.jt (reads-space _ _ _ third) in
    rw (line-split i text)
    (reads-number _ i.code _ code _ refl refl (omega arith) h.code (reads-space _ _ _ second))

reads-lines : (list : List Insn) → All InRange list
    → Reads (flat_map word_line list ++ codes "\n") code (fields_of list)
reads-lines [] h = reads-newline
reads-lines (i ∷ is) h =
    rw (append_assoc (word_line i) (flat_map word_line is) (codes "\n"))
    (reads-line i _ _ (All-head InRange i is h) (reads-lines is (All-tail InRange i is h)))

words-split : (list : List Insn)
    → word_text list ≡ decimal (length list) ++ (44 ∷ (flat_map word_line list ++ codes "\n"))
words-split list = simp append_assoc

reads-words : (list : List Insn) → length list < 2 ^ 32 → All InRange list
    → Reads (word_text list) count (length list ∷ fields_of list)
reads-words list l h =
    rw (words-split list)
    (reads-number _ (length list) _ count _ refl refl (omega arith) l
    (reads-comma _ count_comma _ refl (reads-lines list h)))

-- the law that a list is read back from its text
pub words-spell : (list : List Insn) → All InRange list → length list ≤ 4294967295 → Spells (word_text list) list
words-spell list h l =
    let r = reads-words list (omega (arith, l)) h 0 in
    whole-spells (word_text list) (length list) list (record { good = r.0 (length (word_text list)); spelled = r.1 }) refl
