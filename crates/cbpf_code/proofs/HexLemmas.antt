-- Hexadecimal digits by places are those of `hex`.
use Rattle.std.proofs.Common.{◌≡◌, ℕ, zero, suc, ◌+◌, ◌-◌, ◌*◌, ◌/◌, ◌%◌, ◌^◌, ◌<◌, ◌≤◌, Bool, true, false, List, []}
use Rattle.std.proofs.Common.{◌∷◌, ◌++◌, length, drop, refl, sym, ap, ◌∙◌, arith, append_assoc, append-nil}
use Rattle.std.proofs.Common.{get_or, length-append, ne_eqb, ltb-true, ltb-false}
use Rattle.std.proofs.lemmas.List.{drop-append-le, drop_all}
use Rattle.std.proofs.lemmas.Bool.{agree_below_at, eqb-true}
use Rattle.std.proofs.lemmas.Nat.{pow-add}
use Rattle.std.proofs.Math.Nat.{one-le-pow, pow-suc}
use Rattle.std.proofs.Math.Pow.{pow_mono}
use Rattle.std.specs.Prelude.{nat_lt, max, codes, ◌==◌}
use Rattle.std.specs.List.{repeat}
use Rattle.std.specs.Fmt.{digit_glyph, digits, digits_onto}
use Rattle.cbpf_code.specs.Text.{hex}

-- the last p hexadecimal digits of n, in lower case
abbrev pub hex_digits : ℕ → ℕ → List ℕ
hex_digits zero n = []
hex_digits (suc p) n = hex_digits p (n / 16) ++ digit_glyph false (n % 16) ∷ []

-- n has exactly p hexadecimal digits
abbrev HasPlaces : ℕ → ℕ → Type 0
HasPlaces zero n = ⊥
HasPlaces (suc zero) n = n < 16
HasPlaces (suc (suc p)) n = (16 ≤ n) × HasPlaces (suc p) (n / 16)

onto-places : (k p n : ℕ) (acc : List ℕ) → p ≤ k → HasPlaces p n
    → digits_onto k 16 false n acc ≡ hex_digits p n ++ acc
onto-places k zero n acc l h = absurd h
onto-places zero (suc p) n acc l h = absurd (omega arith)
onto-places (suc k) (suc zero) n acc l h = let z : n / 16 ≡ 0 = omega arith in rw z refl
onto-places (suc k) (suc (suc p)) n acc l h =
    let few : 16 ≤ n = h.0 in
    rw (ne_eqb (n / 16) 0 (λ e. omega (arith, e, few)))
    (onto-places k (suc p) (n / 16) (digit_glyph false (n % 16) ∷ acc) (omega arith) h.1
    ∙ sym (append_assoc (hex_digits (suc p) (n / 16)) (digit_glyph false (n % 16) ∷ []) acc))

digits-places : (p n : ℕ) → p ≤ 64 → HasPlaces p n → digits 16 false n ≡ hex_digits p n
unfolding digits
digits-places p n l h = onto-places 64 p n [] l h ∙ append-nil (hex_digits p n)

length-hex_digits : (p n : ℕ) → length (hex_digits p n) ≡ p
length-hex_digits zero n = refl
length-hex_digits (suc p) n =
    let e : length (hex_digits p (n / 16)) ≡ p = length-hex_digits p (n / 16) in
    omega (arith, e, length-append (hex_digits p (n / 16)) (digit_glyph false (n % 16) ∷ []))

abbrev zeros : ℕ → List ℕ
zeros m = repeat m (48 ∷ [])

zeros-last : (m : ℕ) → zeros m ++ 48 ∷ [] ≡ 48 ∷ zeros m
zeros-last zero = refl
zeros-last (suc m) = ap (λ (t : List ℕ). 48 ∷ t) (zeros-last m)

hex_digits-zero : (m n : ℕ) → n ≡ 0 → hex_digits m n ≡ zeros m
hex_digits-zero zero n z = refl
hex_digits-zero (suc m) n z =
    let d : n % 16 ≡ 0 = omega (arith, z) in
    let q : n / 16 ≡ 0 = omega (arith, z) in
    rw d (ap (λ (t : List ℕ). t ++ 48 ∷ []) (hex_digits-zero m (n / 16) q) ∙ zeros-last m)

zeros-front : (m p n : ℕ) → HasPlaces p n → hex_digits (m + p) n ≡ zeros m ++ hex_digits p n
zeros-front m zero n h = absurd h
zeros-front m (suc zero) n h =
    let e : m + 1 ≡ suc m = omega arith in
    let z : n / 16 ≡ 0 = omega arith in
    rw e (ap (λ (t : List ℕ). t ++ digit_glyph false (n % 16) ∷ []) (hex_digits-zero m (n / 16) z))
zeros-front m (suc (suc p)) n h =
    let e : m + suc (suc p) ≡ suc (m + suc p) = omega arith in
    rw e (ap (λ (t : List ℕ). t ++ digit_glyph false (n % 16) ∷ []) (zeros-front m (suc p) (n / 16) h.1)
    ∙ append_assoc (zeros m) (hex_digits (suc p) (n / 16)) (digit_glyph false (n % 16) ∷ []))

-- at least so many digits are the last ones
hex-max : (least n p : ℕ) → p ≤ 8 → HasPlaces p n → hex least n ≡ hex_digits (max least p) n
hex-max least n p l h =
    let sum : least - p + p ≡ max least p = omega arith in
    rw (digits-places p n (omega arith) h, length-hex_digits p n)
    (sym (zeros-front (least - p) p n h) ∙ ap (λ q. hex_digits q n) sum)

last_digits : (m p n : ℕ) → drop m (hex_digits (m + p) n) ≡ hex_digits p n
last_digits m zero n = drop_all m (hex_digits (m + 0) n) (omega (arith, length-hex_digits (m + 0) n))
last_digits m (suc p) n =
    let e : m + suc p ≡ suc (m + p) = omega arith in
    rw e (drop-append-le m (hex_digits (m + p) (n / 16)) _ (omega (arith, length-hex_digits (m + p) (n / 16)))
    ∙ ap (λ (t : List ℕ). t ++ digit_glyph false (n % 16) ∷ []) (last_digits m p (n / 16)))

sixteens : (q : ℕ) → 2 ^ (4 * q) ≡ 16 ^ q
sixteens zero = refl
sixteens (suc q) =
    let four : 4 * suc q ≡ 4 * q + 4 = omega arith in
    rw (four, pow-add 2 (4 * q) 4, sixteens q, pow-suc 16 q) refl

places-between : (q n : ℕ) → 16 ^ q ≤ n → n < 16 ^ suc q → HasPlaces (suc q) n
places-between zero n low high = high
places-between (suc q) n low high =
    let some : 1 ≤ 16 ^ q = one-le-pow q 16 (omega arith) in
    let p : 16 ^ suc q ≡ 16 ^ q * 16 = pow-suc 16 q in
    let r : 16 ^ suc (suc q) ≡ 16 ^ suc q * 16 = pow-suc 16 (suc q) in
    (omega arith, places-between q (n / 16) (omega arith) (omega arith))

-- each four bits are a digit
pub log-places : (n b : ℕ) → 2 ^ b ≤ max n 1 → max n 1 < 2 * 2 ^ b → HasPlaces (b / 4 + 1) n
log-places zero zero low high = omega arith
log-places zero (suc b) low high = absurd (omega (arith, pow-suc 2 b, one-le-pow b 2 (omega arith)))
log-places (suc n) b low high =
    let one : b / 4 + 1 ≡ suc (b / 4) = omega arith in
    let four : 4 * suc (b / 4) ≡ 4 * (b / 4) + 4 = omega arith in
    let from : 2 ^ (4 * (b / 4)) ≤ 2 ^ b = pow_mono (omega arith) in
    let to : 2 ^ suc b ≤ 2 ^ (4 * suc (b / 4)) = pow_mono (omega arith) in
    let twice : 2 ^ suc b ≡ 2 ^ b * 2 = pow-suc 2 b in
    let f : 16 ^ (b / 4) ≤ suc n = omega (arith, sixteens (b / 4)) in
    let t : suc n < 16 ^ suc (b / 4) = omega (arith, sixteens (suc (b / 4))) in
    rw one (places-between (b / 4) (suc n) f t)

last_of_eight : (q n : ℕ) → q ≤ 8 → drop (8 - q) (hex_digits 8 n) ≡ hex_digits q n
last_of_eight q n l =
    let all : 8 - q + q ≡ 8 = omega arith in
    ap (λ (p : ℕ). drop (8 - q) (hex_digits p n)) (sym all) ∙ last_digits (8 - q) q n

-- the two digits of a byte
hex-two : (b : ℕ) → b < 256 → hex 2 b ≡ hex_digits 2 b
hex-two b l = by (nat_lt b 16) refl
  where
    by : (t : Bool) → nat_lt b 16 ≡ t → hex 2 b ≡ hex_digits 2 b
    by true t = hex-max 2 b 1 (omega arith) (ltb-true b 16 t)
    by false t = let few : 16 ≤ b = ltb-false b 16 t in hex-max 2 b 2 (omega arith) (few, omega arith)

pub hex-byte : (b : ℕ) → b < 256 → hex 2 b ≡ digit_glyph false (b / 16) ∷ digit_glyph false (b % 16) ∷ []
hex-byte b l = let high : b / 16 % 16 ≡ b / 16 = omega arith in rw (hex-two b l, high) refl

-- the last byte's two digits stand last
last-byte : (p n m b : ℕ) (text : List ℕ) → m ≡ n / 256 → b ≡ n % 256
    → hex_digits (suc (suc p)) n ++ text ≡ hex_digits p m ++ (hex 2 b ++ text)
last-byte p n m b text e f =
    let front : n / 16 / 16 ≡ m = omega arith in
    let high : b / 16 ≡ n / 16 % 16 = omega arith in
    let low : b % 16 ≡ n % 16 = omega arith in
    rw (hex-byte b (omega arith), front, high, low, append_assoc, append_assoc) refl

-- the eight digits are those of four bytes
pub four-bytes : (n : ℕ) (text : List ℕ) → n < 2 ^ 32 → hex_digits 8 n ++ text
    ≡ hex 2 (n / 16777216) ++ (hex 2 (n / 65536 % 256) ++ (hex 2 (n / 256 % 256) ++ (hex 2 (n % 256) ++ text)))
four-bytes n text l =
    last-byte 6 n (n / 256) (n % 256) _ refl refl
    ∙ (last-byte 4 (n / 256) (n / 65536) (n / 256 % 256) _ (omega arith) refl
    ∙ (last-byte 2 (n / 65536) (n / 16777216) (n / 65536 % 256) _ (omega arith) refl
    ∙ last-byte 0 (n / 16777216) 0 (n / 16777216) _ (omega arith) (omega arith)))

-- at least so many of eight digits, before a text
pub hex-last : (least n p : ℕ) (text : List ℕ) → HasPlaces p n → p ≤ 8 → least ≤ 8
    → drop (8 - max p least) (hex_digits 8 n ++ text) ≡ hex least n ++ text
hex-last least n p text h l m =
    let either : max p least ≡ max least p = omega arith in
    rw (either, drop-append-le (8 - max least p) (hex_digits 8 n) text (omega (arith, length-hex_digits 8 n)))
    (ap (λ t. t ++ text) (last_of_eight (max least p) n (omega arith) ∙ sym (hex-max least n p l h)))

-- the byte of a digit stands in a table
pub glyph_at : (d : ℕ) → d < 16 → get_or (codes "0123456789abcdef") d 0 ≡ digit_glyph false d
glyph_at d l =
    eqb-true _ _
    (agree_below_at (λ k. get_or (codes "0123456789abcdef") k 0 == digit_glyph false k) (λ k. true) 16 d refl l)

pub ruleset hex_texts = (glyph_at, hex-byte)
