-- Laws of the cut: a text has at most one; and it has one list of tokens or one first bad piece, never both.
use Rattle.std.specs.Prelude.{◌≡◌, ◌⊎◌, ℕ, List, length}
use Rattle.cbpf_syntax.specs.declared.piece.Piece.{Piece}
use Rattle.cbpf_syntax.specs.declared.token.Token.{Token}
use Rattle.cbpf_syntax.specs.declared.token.BadPiece.{BadPiece}
use Rattle.cbpf_syntax.specs.Pieces.{IsCut}
use Rattle.cbpf_syntax.specs.Tokens.{Lexes, IsFirstBad}

-- a text is cut in one way
abbrev pub OneCut : Type 0
OneCut = (text : List ℕ) (ps qs : List Piece) → IsCut text 0 ps (length text)
    → IsCut text 0 qs (length text) → ps ≡ qs

-- a text has one list of tokens
abbrev pub OneList : Type 0
OneList = (text : List ℕ) (ts us : List Token) → Lexes text ts → Lexes text us → ts ≡ us

-- a text has one first bad piece
abbrev pub OneFault : Type 0
OneFault = (text : List ℕ) (f g : BadPiece) (m n : ℕ) → IsFirstBad text f m → IsFirstBad text g n → (f ≡ g) × (m ≡ n)

-- no text has both tokens and a first bad piece
abbrev pub NeverLexedAndBad : Type 0
NeverLexedAndBad = (text : List ℕ) (ts : List Token) (f : BadPiece) (at : ℕ) → Lexes text ts → IsFirstBad text f at → ⊥

-- each text has tokens, or a first bad piece
abbrev pub EachLexed : Type 0
EachLexed = (text : List ℕ)
    → ((ts : List Token) × Lexes text ts) ⊎ ((f : BadPiece) × (at : ℕ) × IsFirstBad text f at)
