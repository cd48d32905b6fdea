-- The item at the front of a token list, and how far the tokens go where there is none, by the forms of `Table`. These are
-- the kernel's (Documentation/networking/filter) and this project's own.
use Rattle.std.specs.Prelude.{◌≤◌, ◌<◌, ℕ, suc, Bool, false, ◌&&◌, List, [], ◌∷◌, length, take}
use Rattle.std.specs.Prelude.{Result, Ok, Err}
use Rattle.cbpf_syntax.specs.declared.item.Row as declared_row
use Rattle.cbpf_syntax.specs.Lexemes.{Lexeme}
use Rattle.cbpf_syntax.specs.Classes.Class.{the_mark, name}
use Rattle.cbpf_syntax.specs.Fits.{fits}
use Rattle.cbpf_syntax.specs.Items.{Item, IsItem, BeginsItem}
use Rattle.cbpf_syntax.specs.Views.{row_of}

-- the first n tokens begin an item, and with the next one, if there is one, they don't
pub record Goes (n : ℕ) (ts : List Lexeme) : Type 0 where
  pub within : n ≤ length ts
  pub begins : BeginsItem (take n ts)
  pub no_farther : n < length ts → BeginsItem (take (suc n) ts) → ⊥

-- the tokens go so far towards one item, and these are no item; `ItemsStuckAt` is about a list of items
pub record Stuck (n : ℕ) (ts : List Lexeme) : Type 0 where
  pub goes : Goes n ts
  pub none : (i : Item) → IsItem (take n ts) i → ⊥

-- the tokens go so far, and these are the item
pub record IsNextItem (ts : List Lexeme) (n : ℕ) (item : Item) : Type 0 where
  pub goes : Goes n ts
  pub is_item : IsItem (take n ts) item

-- whether a colon comes
abbrev pub starts_with_colon : List Lexeme → Bool
starts_with_colon [] = false
starts_with_colon (t ∷ ts) = fits (the_mark 58) t.symbol

-- whether a name with a colon after it comes
abbrev pub starts_with_label : List Lexeme → Bool
starts_with_label [] = false
starts_with_label (t ∷ ts) = fits name t.symbol && starts_with_colon ts

-- `Ok row`: the row stands at the front, and no beginning of an item there is longer. `Err n`: the first n tokens are the
-- longest beginning of an item there, and are no item.
abbrev pub IsFoundInstruction : List Lexeme → Result declared_row.Row ℕ → Type 0
IsFoundInstruction ts (Ok row) =
    let n = suc (length row.operand.now) in
    IsNextItem ts n (record { labels = []; row = row_of row; body = take n ts })
IsFoundInstruction ts (Err n) = Stuck n ts
