-- Why a token list is no list of items, or has a literal out of range: this project's own rules, as the kernel's
-- Documentation/networking/filter has no faults.
use Rattle.std.specs.Prelude.{◌≡◌, ◌≤◌, ◌<◌, ℕ, zero, suc, ◌+◌, ◌-◌, min, Bool, true, false, ◌&&◌, ◌==◌, nat_lt}
use Rattle.std.specs.Prelude.{List, length, take, Option, Some, option_map, slice_get}
use Rattle.cbpf_syntax.specs.declared.reader.SyntaxFault.{SyntaxFault}
use Rattle.cbpf_syntax.specs.declared.reader.SyntaxFault.TheVariants as reported
use Rattle.cbpf_syntax.specs.Lexemes.{Symbol, Lexeme}
use Rattle.cbpf_syntax.specs.Lexemes.Symbol.{number, mark}
use Rattle.cbpf_syntax.specs.Items.{Item, Items, BeginsItems}

-- why a token list is refused: A4, A3 and A5
pub data ParseFault : Type 0 where
  Misplaced : ParseFault
  LargeNegative : ParseFault
  Unfinished : ParseFault

-- what the token at the index says
abbrev pub symbol_at : List Lexeme → ℕ → Option Symbol
symbol_at ts i = option_map (λ (t : Lexeme). t.symbol) (slice_get ts i)

-- A4: the tokens before the one at the index begin items, and with it they don't
pub record IsMisplaced (ts : List Lexeme) (i : ℕ) : Type 0 where
  pub within : i < length ts
  pub before : BeginsItems (take i ts)
  pub with_it : BeginsItems (take (i + 1) ts) → ⊥

-- the greatest number after a `-`
abbrev pub most_negative : ℕ
most_negative = 2147483648

-- a `-` and a number above that
abbrev pub is_large : Option Symbol → Option Symbol → Bool
is_large (Some (mark b)) (Some (number n)) = b == 45 && nat_lt most_negative n
is_large sign digits = false

-- the number at the index is too large after the `-` before it
abbrev pub is_large_at : List Lexeme → ℕ → Bool
is_large_at ts zero = false
is_large_at ts (suc i) = is_large (symbol_at ts i) (symbol_at ts (suc i))

-- A3: a number too large after a `-`
abbrev pub IsLargeNegative : List Lexeme → ℕ → Type 0
IsLargeNegative ts i = is_large_at ts i ≡ true

-- A5: the tokens begin items and aren't items
pub record IsUnfinished (ts : List Lexeme) : Type 0 where
  pub begins : BeginsItems ts
  pub none : (items : List Item) → Items ts items → ⊥

-- The tokens before the index begin items. With the token at the index they don't; or, where the index is the end, they
-- are no items.
pub record ItemsStuckAt (ts : List Lexeme) (i : ℕ) : Type 0 where
  pub within : i ≤ length ts
  pub before : BeginsItems (take i ts)
  pub next : i < length ts → BeginsItems (take (i + 1) ts) → ⊥
  pub end : i ≡ length ts → (items : List Item) → Items ts items → ⊥

-- the tokens are refused for this fault at this index; a refusal at their end has the index `length ts`
abbrev pub IsRefusedAt : List Lexeme → ParseFault → ℕ → Type 0
IsRefusedAt ts Misplaced i = IsMisplaced ts i
IsRefusedAt ts LargeNegative i = IsLargeNegative ts i
IsRefusedAt ts Unfinished i = (i ≡ length ts) × IsUnfinished ts

-- the tokens are refused for this fault at this index, and no refusal has an earlier one
pub record IsFirstRefusal (ts : List Lexeme) (fault : ParseFault) (i : ℕ) : Type 0 where
  pub refused : IsRefusedAt ts fault i
  pub first : (other : ParseFault) (j : ℕ) → IsRefusedAt ts other j → i ≤ j

-- the token with the index stands at this position in the text
abbrev pub IsPositionOf : List Lexeme → ℕ → ℕ → Type 0
IsPositionOf ts i at = option_map (λ (t : Lexeme). t.at) (slice_get ts i) ≡ Some at

-- The first refusal of tokens, by the position in the text of the token that shows it. That is the token at the index of
-- the refusal; where that index is their end, it is the last one.
pub record IsFirstRefusalAtPosition (ts : List Lexeme) (fault : ParseFault) (at : ℕ) : Type 0 where
  pub index : ℕ
  pub first : IsFirstRefusal ts fault index
  pub shown : IsPositionOf ts (min index (length ts - 1)) at

-- a refusal as it is reported
abbrev pub reported_at : ParseFault → ℕ → SyntaxFault
reported_at Misplaced = reported.Misplaced
reported_at LargeNegative = reported.LargeNegative
reported_at Unfinished = reported.Unfinished

-- the tokens are refused for nothing
abbrev pub IsAccepted : List Lexeme → Type 0
IsAccepted ts = (fault : ParseFault) (i : ℕ) → IsRefusedAt ts fault i → ⊥
