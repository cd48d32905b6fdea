-- The numbers that runs of bytes spell. The kernel's Documentation/networking/filter shows decimal and hexadecimal
-- ones; all others are this project's own.
use Rattle.std.specs.Prelude.{◌≡◌, ◌^◌, min, ℕ, ◌+◌, ◌-◌, ◌*◌, ◌&&◌, List, [], ◌∷◌, nat_lt, nat_le, ◌==◌}
use Rattle.std.specs.Prelude.{if◌then◌else◌, Option, Some, None}
use Rattle.cbpf_code.specs.WordTokens.{is_digit}

-- the value of a hexadecimal digit of either case, and 16 for any other byte
unfoldable pub digit_value : ℕ → ℕ
digit_value b =
    if is_digit b then b - 48
    else (if nat_le 97 b && nat_le b 102 then b - 87
    else (if nat_le 65 b && nat_le b 70 then b - 55
    else 16))

-- the number that these bytes spell as further digits after a number `high`, if each is a digit of the base
abbrev pub digits_value : ℕ → ℕ → List ℕ → Option ℕ
digits_value base high [] = Some high
digits_value base high (b ∷ bs) =
    if nat_lt (digit_value b) base then digits_value base (high * base + digit_value b) bs else None

-- the number that these bytes spell by themselves, if there is one at least and each is a digit of the base
abbrev pub some_digits_value : ℕ → List ℕ → Option ℕ
some_digits_value base [] = None
some_digits_value base (b ∷ bs) = digits_value base 0 (b ∷ bs)

-- the number that is spelled by `0` and these bytes: `0`, `0x` and hexadecimal, `0b` and binary, `0` and octal digits
abbrev pub zero_led_value : List ℕ → Option ℕ
zero_led_value [] = Some 0
zero_led_value (b ∷ bs) =
    if b == 120 then some_digits_value 16 bs
    else (if b == 98 then some_digits_value 2 bs
    else digits_value 8 0 (b ∷ bs))

-- the number that the bytes spell, if they do
abbrev pub number_value : List ℕ → Option ℕ
number_value [] = None
number_value (b ∷ bs) = if b == 48 then zero_led_value bs else digits_value 10 0 (b ∷ bs)

-- the least number that is too large for a literal
abbrev pub number_limit : ℕ
number_limit = 2 ^ 32

-- the number, or the limit where it is greater
abbrev pub IsCapped : Option ℕ → Option ℕ → Type 0
IsCapped None value = value ≡ None
IsCapped (Some n) value = (m : ℕ) × (value ≡ Some m) × (n ≡ min m number_limit)
