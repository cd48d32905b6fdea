-- Tokens as the grammar of the assembler sees them: words by their bytes, numbers by their values, and marks. A lexeme is a
-- token by what it says, with its position. The comments of the grammar's files call it a token. The kernel's
-- Documentation/networking/filter shows such words, numbers and marks; some are this project's own.
use Rattle.std.specs.Prelude.{◌≡◌, ℕ, List, length, map, slice_range}
use Rattle.cbpf_syntax.specs.declared.token.Kind.{Kind}
use Rattle.cbpf_syntax.specs.declared.token.Kind.TheVariants as kinds
use Rattle.cbpf_syntax.specs.declared.token.Token.{Token}
use Rattle.cbpf_syntax.specs.Tokens.{LexesTo}

-- a token by what it spells, without its place
pub data Symbol : Type 0 where
  word : List ℕ → Symbol
  number : ℕ → Symbol
  mark : ℕ → Symbol

-- a symbol with the position in the text at which it begins
pub record Lexeme : Type 0 where
  pub symbol : Symbol
  pub at : ℕ

-- the symbol of a token's bytes and kind
abbrev pub token_symbol : List ℕ → Kind → Symbol
token_symbol bytes kinds.Word = word bytes
token_symbol bytes (kinds.Number n) = number n
token_symbol bytes (kinds.Mark b) = mark b

-- the token of a text, by what it spells
abbrev pub token_lexeme : List ℕ → Token → Lexeme
token_lexeme text token =
    record { symbol = token_symbol (slice_range text token.start token.end) token.kind; at = token.start }

-- the lexemes of these tokens of a text
abbrev pub lexemes_of : List ℕ → List Token → List Lexeme
lexemes_of text tokens = map (token_lexeme text) tokens

-- the text up to a position has these lexemes
pub record AreLexemesTo (text : List ℕ) (to : ℕ) (lexemes : List Lexeme) : Type 0 where
  pub tokens : List Token
  pub lexed : LexesTo text to tokens
  pub are : lexemes ≡ lexemes_of text tokens

-- the whole text has these lexemes
abbrev pub AreLexemes : List ℕ → List Lexeme → Type 0
AreLexemes text lexemes = AreLexemesTo text (length text) lexemes
