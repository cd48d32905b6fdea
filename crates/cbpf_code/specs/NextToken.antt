-- What the scanner finds: the next token of a text. No public clause names it.
use Rattle.std.specs.Prelude.{◌≡◌, ℕ, ◌<◌, ◌≤◌, ◌^◌, min, List, ◌∷◌, length, slice_range}
use Rattle.cbpf_code.specs.WordTokens.{WordToken, numeral, single, decimal_value, tokens_from}
use Rattle.cbpf_code.specs.declared.scan.FoundToken.{FoundToken}
use Rattle.cbpf_code.specs.declared.scan.TokenKind.{TokenKind}
use Rattle.cbpf_code.specs.declared.scan.TokenKind.TheVariants.{Digits, Byte}

-- the token that was found, in a text
abbrev pub token_found : List ℕ → FoundToken → WordToken
token_found text f = elim f.kind [
  | Digits v ↦ numeral f.start (slice_range text f.start f.end)
  | Byte b ↦ single f.start b
]

-- a number is read up to a cap that no field reaches
abbrev pub HasValue : List ℕ → FoundToken → TokenKind → Type 0
HasValue text f (Digits v) = v ≡ min (decimal_value (slice_range text f.start f.end)) (2 ^ 32)
HasValue text f (Byte b) = Unit {0}

-- the token is the first one of the text from this position on
pub record IsFound (text : List ℕ) (at : ℕ) (f : FoundToken) : Type 0 where
  pub within : f.end ≤ length text
  pub after : at < f.end
  pub first : tokens_from text at ≡ token_found text f ∷ tokens_from text f.end
  pub value : HasValue text f f.kind
