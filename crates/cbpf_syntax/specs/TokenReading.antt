-- A source text of which the tokens are taken one by one: what comes next after a position of it. This project's own
-- rules, as those of the whole text.
use Rattle.std.specs.Prelude.{ℕ, List, [], ◌∷◌, ◌++◌, ◌<◌, ◌≤◌, length}
use Rattle.cbpf_syntax.specs.declared.token.Token.{Token}
use Rattle.cbpf_syntax.specs.Tokens.{LexesTo, Lexes, IsSpanOf}

-- a text, and the position up to which it was read, in bytes from 0
pub record PartlyRead : Type 0 where
  pub text : List ℕ
  pub at : ℕ

-- A `Lexer` stands only where the text up to its position is cut into good pieces, as its invariant says. These two speak of
-- the tokens up to such a position, which are one list.

-- the tokens of the text up to `to` are those up to `at` and this one
pub record IsNextToken (text : List ℕ) (at to : ℕ) (token : Token) : Type 0 where
  pub more : (tokens : List Token) → LexesTo text at tokens → LexesTo text to (tokens ++ token ∷ [])
  pub span : IsSpanOf text token
  pub farther : at < to
  pub within : to ≤ length text

-- the tokens up to the position are all that the text has
abbrev pub HasNoMore : List ℕ → ℕ → Type 0
HasNoMore text at = (tokens : List Token) → LexesTo text at tokens → Lexes text tokens
