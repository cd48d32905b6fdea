-- The numbers and labels of a listing, as the lexer reads them.
use Rattle.std.proofs.Common.{◌≡◌, ℕ, ◌+◌, ◌*◌, ◌^◌, ◌<◌, ◌≤◌, ◌∙◌, Bool, true, false, not, ◌&&◌, ◌||◌, zero, suc}
use Rattle.std.proofs.Common.{List, [], ◌∷◌, length, get_or, refl, ap, arith, Some, eqb-true, lt-ltb, ne_eqb, lit<}
use Rattle.std.specs.Prelude.{◌==◌, nat_lt, decimal}
use Rattle.std.specs.List.{list_all}
use Rattle.std.specs.Fmt.{digits}
use Rattle.std.specs.Char as chars
use Rattle.std.specs.Str.Parse.{AllDigits, digits_value_after}
use Rattle.std.proofs.lemmas.Fmt.{digits_is_IsNumeral, first_decimal, decimal_digit}
use Rattle.std.proofs.lemmas.Bool.{agree_below, and_parts}
use Rattle.std.proofs.lemmas.Bool.Decides.{nat_tests}
use Rattle.cbpf_code.specs.WordTokens.{is_digit}
use Rattle.cbpf_syntax.specs.Bytes.{is_name_byte}
use Rattle.cbpf_syntax.specs.Numbers.{digit_value, digits_value, number_value}
use Rattle.cbpf_code.specs.Text.{hex}
use Rattle.cbpf_syntax.proofs.Spelled.{holds_below, implied, Segment, IsSegment}
use Rattle.cbpf_syntax.proofs.Spelled.Segment.{word, number}
use Rattle.cbpf_syntax.specs.Fits.{fits, extension_names}
use Rattle.cbpf_syntax.specs.Table.{mnemonics}
use Rattle.cbpf_syntax.specs.Lexemes.{Lexeme}
use Rattle.cbpf_text.specs.Labels.{item_named}
use Rattle.cbpf_text.proofs.ListedRows.{first_byte, later_bytes}
use Rattle.cbpf_syntax.specs.Classes as forms
use Rattle.cbpf_syntax.specs.Lexemes as grammar

-- a byte that std takes for a digit
digit_small : (b : ℕ) → chars.digit_value b < 36 → b < 123
digit_small b l = grind (arith, nat_tests)

-- what a test that computes says of each digit of the base
of_digits : (base : ℕ) (p : ℕ → Bool)
    → agree_below (λ c. not (nat_lt (chars.digit_value c) base) || p c) (λ c. true) 123 ≡ true → base ≤ 36
    → (b : ℕ) → chars.digit_value b < base → p b ≡ true
of_digits base p e most b l = implied (nat_lt (chars.digit_value b) base) (p b)
    (holds_below 123 (λ c. not (nat_lt (chars.digit_value c) base) || p c) b e (digit_small b (omega arith)))
    (lt-ltb (chars.digit_value b) base l)

same_digit : (b : ℕ) → chars.digit_value b < 16 → (digit_value b ≡ chars.digit_value b) × (is_name_byte b ≡ true)
unfolding digit_value
same_digit b l =
    let p = and_parts (digit_value b == chars.digit_value b) (is_name_byte b)
    (of_digits 16 (λ c. digit_value c == chars.digit_value c && is_name_byte c) refl (omega arith) b l) in
    (eqb-true (digit_value b) (chars.digit_value b) p.0, p.1)

-- the digits of a number, as they are written
record AreDigits (base n : ℕ) (ds : List ℕ) : Type 0 where
  some : 0 < length ds
  all : AllDigits base ds
  value : digits_value base 0 ds ≡ Some n
  names : list_all is_name_byte ds ≡ true

digits_read : (base high : ℕ) (ds : List ℕ) → base ≤ 16 → AllDigits base ds
    → (digits_value base high ds ≡ Some (digits_value_after base high ds)) × (list_all is_name_byte ds ≡ true)
digits_read base high [] most all = (refl, refl)
digits_read base high (d ∷ ds) most all =
    let same = same_digit d (omega (arith, all.0)) in
    let more = digits_read base (high * base + chars.digit_value d) ds most all.1 in
    (rw (same.0, lt-ltb (chars.digit_value d) base all.0) more.0, rw same.1 more.1)

are_digits : (base n : ℕ) → 2 ≤ base → base ≤ 16 → n < base ^ 64 → AreDigits base n (digits base false n)
are_digits base n least most l =
    let p = digits_is_IsNumeral base false least most n l in
    let r = digits_read base 0 (digits base false n) most p.0.1 in
    record { some = p.0.0; all = p.0.1; value = r.0 ∙ ap Some p.1; names = r.1 }

are_decimal : (n : ℕ) → n < 2 ^ 64 → AreDigits 10 n (decimal n)
are_decimal n l = let wide : 2 ^ 64 < 10 ^ 64 = lit< tt in are_digits 10 n (omega arith) (omega arith) (omega arith)

are_hex : (n : ℕ) → n < 2 ^ 32 → AreDigits 16 n (hex 1 n)
are_hex n l = grind (arith, lit<, are_digits)

not_zero_led : (ds : List ℕ) (n : ℕ) → 48 < get_or ds 0 0 → digits_value 10 0 ds ≡ Some n → number_value ds ≡ Some n
not_zero_led [] n l e = absurd (omega arith)
not_zero_led (d ∷ ds) n l e = let h : (d == 48) ≡ false = ne_eqb d 48 (omega arith) in rw h e

number_decimal : (n : ℕ) → n < 2 ^ 64 → number_value (decimal n) ≡ Some n
number_decimal zero l = rw (decimal_digit 0 (omega arith)) refl
number_decimal (suc n) l =
    not_zero_led (decimal (suc n)) (suc n) (first_decimal (suc n) (omega arith) l) (are_decimal (suc n) l).value

hex_value : (k : ℕ) (ds : List ℕ) → AreDigits 16 k ds → number_value (48 ∷ 120 ∷ ds) ≡ Some k
hex_value k [] a = absurd (omega (arith, a.some))
hex_value k (d ∷ ds) a = a.value

-- The labels and numbers of a listing, as segments.

abbrev pub label_name : ℕ → List ℕ
label_name i = 108 ∷ decimal i

-- no reserved word has a digit after an `l`
digit_free : (i : ℕ) (ds : List ℕ) → AreDigits 10 i ds
    → fits forms.Class.name (grammar.Symbol.word (108 ∷ ds)) ≡ true
unfolding mnemonics extension_names
digit_free i [] a = absurd (omega (arith, a.some))
digit_free i (d ∷ ds) a =
    of_digits 10 (λ c. fits forms.Class.name (grammar.Symbol.word (108 ∷ c ∷ ds))) refl (omega arith) d a.all.0

pub label_fits : (i : ℕ) → i < 2 ^ 64 → fits forms.Class.name (grammar.Symbol.word (label_name i)) ≡ true
label_fits i l = digit_free i (decimal i) (are_decimal i l)

abbrev pub label_segment : ℕ → Segment
label_segment i = word 108 (decimal i)

pub is_label_segment : (i : ℕ) → i < 2 ^ 64 → IsSegment (label_segment i)
is_label_segment i l = (lit< tt, refl, (are_decimal i l).names)

-- each label names the item at its number, of so many
abbrev pub NamesItems : ℕ → List (Lexeme × ℕ) → Type 0
NamesItems n labels = (m : ℕ) → m < n → item_named labels (label_name m) ≡ Some m

abbrev pub decimal_segment : ℕ → Segment
decimal_segment k = number (first_byte (decimal k)) (later_bytes (decimal k)) k

spelled : (w : List ℕ) → 0 < length w → first_byte w ∷ later_bytes w ≡ w
spelled [] l = absurd (omega arith)
spelled (b ∷ bs) l = refl

pub spelled_decimal : (k : ℕ) → k < 2 ^ 64 → first_byte (decimal k) ∷ later_bytes (decimal k) ≡ decimal k
spelled_decimal k l = spelled (decimal k) (are_decimal k l).some

number_segment : (w : List ℕ) (n : ℕ) → AreDigits 10 n w → number_value w ≡ Some n → n < 2 ^ 32
    → IsSegment (number (first_byte w) (later_bytes w) n)
number_segment [] n a v l = absurd (omega (arith, a.some))
number_segment (b ∷ bs) n a v l =
    let small : b < 123 = digit_small b (omega (arith, a.all.0)) in
    let digit : is_digit b ≡ true = of_digits 10 is_digit refl (omega arith) b a.all.0 in
    (omega arith, digit, (and_parts (is_name_byte b) _ a.names).1, v, l)

pub is_decimal_segment : (k : ℕ) → k < 2 ^ 32 → IsSegment (decimal_segment k)
is_decimal_segment k l =
    let m : k < 2 ^ 64 = omega arith in number_segment (decimal k) k (are_decimal k m) (number_decimal k m) l

-- `0` where the number is that, or `0x` and hexadecimal digits
abbrev pub hex_rest : Bool → ℕ → List ℕ
hex_rest true k = []
hex_rest false k = 120 ∷ hex 1 k

abbrev pub hex_given : Bool → ℕ → ℕ
hex_given true k = 0
hex_given false k = k

abbrev pub hex_segment : Bool → ℕ → Segment
hex_segment t k = number 48 (hex_rest t k) (hex_given t k)

pub is_hex_segment : (k : ℕ) (t : Bool) → k < 2 ^ 32 → IsSegment (hex_segment t k)
is_hex_segment k true l = (lit< tt, refl, refl, refl, lit< tt)
is_hex_segment k false l = let a = are_hex k l in (lit< tt, refl, a.names, hex_value k (hex 1 k) a, l)

pub given_is : (k : ℕ) (t : Bool) → (k == 0) ≡ t → k ≡ hex_given t k
given_is k true e = eqb-true k 0 e
given_is k false e = refl
