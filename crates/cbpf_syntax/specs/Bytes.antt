-- The classes of bytes of a source text, this project's own (the marks of operands in the kernel's
-- Documentation/networking/filter are among them). Its blanks and digits are those of word text.
use Rattle.std.specs.Prelude.{ℕ, Bool, ◌&&◌, ◌||◌, nat_le, ◌==◌}
use Rattle.cbpf_code.specs.WordTokens.{is_digit}

-- an ASCII letter or `_`
abbrev pub is_letter : ℕ → Bool
is_letter b = (nat_le 97 b && nat_le b 122) || (nat_le 65 b && nat_le b 90) || b == 95

-- a letter, `_` or a digit
abbrev pub is_name_byte : ℕ → Bool
is_name_byte b = is_letter b || is_digit b

-- one of `[ ] ( ) * & + - , : # %`
abbrev pub is_mark : ℕ → Bool
is_mark b = b == 91 || b == 93 || b == 40 || b == 41 || b == 42 || b == 38 || b == 43 || b == 45 || b == 44 || b == 58
    || b == 35 || b == 37
