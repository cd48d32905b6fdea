-- Which of the forms of `Table` the tokens at the front of a list go along farthest. The forms are those of the kernel's
-- Documentation/networking/filter and this project's own. No public clause names it.
use Rattle.std.specs.Prelude.{◌≡◌, ◌≢◌, ◌≤◌, ℕ, zero, suc, Bool, false, List, [], ◌∷◌, length, Contains}
use Rattle.std.specs.List.{common_prefix_len}
use Rattle.cbpf_syntax.specs.declared.choice.Match.{Match}
use Rattle.cbpf_syntax.specs.Lexemes.{Lexeme}
use Rattle.cbpf_syntax.specs.Classes.{Class}
use Rattle.cbpf_syntax.specs.Classes.Class.{the_mark}
use Rattle.cbpf_syntax.specs.Table.{Row}
use Rattle.cbpf_syntax.specs.Fits.{fits}
use Rattle.cbpf_syntax.specs.Views.{row_of}

-- how many tokens fit from the front on
abbrev pub common : List Class → List Lexeme → ℕ
common cs ts = common_prefix_len (λ c (t : Lexeme). fits c t.symbol) cs ts

-- The token at an index is a comma. Where the tokens fill a form of a mnemonic whole, and a longer form fits them too as far
-- as that, the longer one goes on with a comma. So a form that is filled whole is the best where no comma follows.
abbrev pub is_comma_at : List Lexeme → ℕ → Bool
is_comma_at [] i = false
is_comma_at (t ∷ ts) zero = fits (the_mark 44) t.symbol
is_comma_at (t ∷ ts) (suc i) = is_comma_at ts i

-- `ts` are the tokens after the mnemonic. Of the rows this one has the most of them that fit its operand. If its operand isn't filled whole, neither is that of
-- any other row that as many tokens fit.
pub record IsBest (rows : List Row) (ts : List Lexeme) (best : Match) : Type 0 where
  pub known : Contains rows (row_of best.row)
  pub size : best.len ≡ common (row_of best.row).operand ts
  pub most : (r : Row) → Contains rows r → common r.operand ts ≤ best.len
  pub goes_on : length (row_of best.row).operand ≢ best.len → (r : Row) → Contains rows r
      → common r.operand ts ≡ best.len → length r.operand ≢ best.len
