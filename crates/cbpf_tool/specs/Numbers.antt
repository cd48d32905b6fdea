-- The numbers that the words of a line spell (this project's own: the kernel's documentation shows decimal ones).
use Rattle.std.specs.Prelude.{◌≡◌, ℕ, zero, suc, ◌+◌, ◌*◌, ◌^◌, min, ℤ, pos, negsuc, ◌&&◌, ◌==◌, nat_le, nat_lt}
use Rattle.std.specs.Prelude.{if◌then◌else◌, List, [], ◌∷◌, take, drop, codes, bytes_eq}
use Rattle.std.specs.Prelude.{Option, Some, None, option_map}
use Rattle.std.specs.Char.{digit_value}
use Rattle.std.specs.List.{list_all}
use Rattle.cbpf_code.specs.WordTokens.{is_digit, decimal_value}

-- a number up to `most`: one decimal digit or more and nothing else, with any number of zeros in front
abbrev pub number_up_to : ℕ → List ℕ → Option ℕ
number_up_to most [] = None
number_up_to most (b ∷ bs) =
    if list_all is_digit (b ∷ bs) && nat_le (decimal_value (b ∷ bs)) most then Some (decimal_value (b ∷ bs)) else None

-- the number that these bytes spell as further digits of a base after a number, if each is such a digit
abbrev pub digits_value : ℕ → ℕ → List ℕ → Option ℕ
digits_value base high [] = Some high
digits_value base high (b ∷ bs) =
    if nat_lt (digit_value b) base then digits_value base (high * base + digit_value b) bs else None

-- the same of one digit or more
abbrev pub some_digits_value : ℕ → List ℕ → Option ℕ
some_digits_value base [] = None
some_digits_value base (b ∷ bs) = digits_value base 0 (b ∷ bs)

-- a decimal number, or a hexadecimal one after `0x`
abbrev pub numeral_value : List ℕ → Option ℕ
numeral_value word =
    if bytes_eq (take 2 word) (codes "0x") then some_digits_value 16 (drop 2 word) else some_digits_value 10 word

-- a number, or 2 ^ 32 in place of a greater one
abbrev pub IsCapped : Option ℕ → Option ℕ → Type 0
IsCapped None value = value ≡ None
IsCapped (Some n) value = (m : ℕ) × (value ≡ Some m) × (n ≡ min m (2 ^ 32))

-- the negative of a number
abbrev pub minus : ℕ → ℤ
minus zero = pos 0
minus (suc n) = negsuc n

-- a number with or without a sign in front, whose absolute value is at most `most`; so 2 ^ 63 - 1 leaves out -2 ^ 63
abbrev pub signed_number : ℕ → List ℕ → Option ℤ
signed_number most [] = None
signed_number most (b ∷ bs) =
    if b == 43 then option_map pos (number_up_to most bs)
    else (if b == 45 then option_map minus (number_up_to most bs) else option_map pos (number_up_to most (b ∷ bs)))
