-- The tokens of a text: its longest runs of digits, and its single bytes that are neither digit nor blank.
-- Word text, as the kernel tree's `bpf_asm` prints it, is made of them; `tcpdump -ddd` prints a newline for each of its
-- commas.
use Rattle.std.specs.Prelude.{ℕ, suc, ◌+◌, ◌-◌, ◌*◌, Bool, true, false, ◌&&◌, ◌||◌, ◌==◌, nat_lt, if◌then◌else◌, List}
use Rattle.std.specs.Prelude.{[], ◌∷◌, drop, fold}
use Rattle.std.specs.List.{take_while}

-- a numeral, which is a run of digits, or a single byte, with the position of its first byte
pub data WordToken : Type 0 where
  numeral : (at : ℕ) (digits : List ℕ) → WordToken
  single : (at : ℕ) (byte : ℕ) → WordToken

-- an ASCII digit
abbrev pub is_digit : ℕ → Bool
is_digit b = nat_lt 47 b && nat_lt b 58

-- a space, a tab, a carriage return or a newline
abbrev pub is_blank : ℕ → Bool
is_blank b = b == 32 || b == 9 || b == 13 || b == 10

-- whether the first byte is a digit
abbrev pub begins_with_digit : List ℕ → Bool
begins_with_digit [] = false
begins_with_digit (b ∷ bs) = is_digit b

-- the tokens that begin in a text whose first byte has the position `at`: within a numeral a digit begins none
unfoldable pub tokens_in : (in_numeral : Bool) → ℕ → List ℕ → List WordToken
tokens_in in_numeral at [] = []
tokens_in in_numeral at (b ∷ bs) =
    if is_digit b then (if in_numeral then tokens_in true (suc at) bs
    else (numeral at (b ∷ take_while is_digit bs) ∷ tokens_in true (suc at) bs))
    else (if is_blank b then tokens_in false (suc at) bs else (single at b ∷ tokens_in false (suc at) bs))

-- the tokens of a text whose first byte has the position `at`
abbrev pub tokens_at : ℕ → List ℕ → List WordToken
tokens_at at text = tokens_in false at text

-- the tokens of a whole text
abbrev pub tokens : List ℕ → List WordToken
tokens text = tokens_at 0 text

-- the tokens of a text from a position on
abbrev pub tokens_from : List ℕ → ℕ → List WordToken
tokens_from text at = tokens_at at (drop at text)

-- the number that digits spell
abbrev pub decimal_value : List ℕ → ℕ
decimal_value ds = fold (λ n b. 10 * n + (b - 48)) 0 ds
