-- The tokens of a source text with their positions, and the first piece that is bad: this project's own rules, as the
-- kernel's Documentation/networking/filter has no faults.
use Rattle.std.specs.Prelude.{◌≡◌, ℕ, ◌+◌, Bool, true, false, List, [], ◌∷◌, ◌++◌, ◌≤◌, length, take, count_by, ◌==◌}
use Rattle.std.specs.List.{list_all}
use Rattle.cbpf_syntax.specs.declared.token.Token.{Token}
use Rattle.cbpf_syntax.specs.declared.token.BadPiece.{BadPiece}
use Rattle.cbpf_syntax.specs.declared.piece.PieceKind.{PieceKind}
use Rattle.cbpf_syntax.specs.declared.piece.PieceKind.TheVariants.{Blanks, Comment, TokenOf, Bad}
use Rattle.cbpf_syntax.specs.declared.piece.Piece.{Piece}
use Rattle.cbpf_syntax.specs.declared.token.LexFault.{LexFault}
use Rattle.cbpf_syntax.specs.declared.token.LexFault.TheVariants.{Memory, At}
use Rattle.cbpf_syntax.specs.Pieces.{IsCut, IsPieceAt}

-- whether a piece is no bad one
abbrev pub is_good : PieceKind → Bool
is_good Blanks = true
is_good Comment = true
is_good (TokenOf kind) = true
is_good (Bad fault) = false

-- the token of a piece with its span, if it is one
abbrev pub token_of : PieceKind → ℕ → ℕ → List Token
token_of Blanks at to = []
token_of Comment at to = []
token_of (TokenOf kind) at to = record { kind = kind; start = at; end = to } ∷ []
token_of (Bad fault) at to = []

-- the tokens of pieces that begin at a position
abbrev pub tokens_of : ℕ → List Piece → List Token
tokens_of at [] = []
tokens_of at (piece ∷ pieces) = token_of piece.kind at (at + piece.size) ++ tokens_of (at + piece.size) pieces

-- the text up to a position is cut into pieces that are not bad, and these are its tokens
pub record LexesTo (text : List ℕ) (to : ℕ) (tokens : List Token) : Type 0 where
  pub pieces : List Piece
  pub cut : IsCut text 0 pieces to
  pub good : list_all (λ (piece : Piece). is_good piece.kind) pieces ≡ true
  pub spans : tokens ≡ tokens_of 0 pieces

-- the whole text is cut into pieces that are not bad, and these are its tokens
abbrev pub Lexes : List ℕ → List Token → Type 0
Lexes text tokens = LexesTo text (length text) tokens

-- the token's bytes lie within the text, and it doesn't end before it starts
abbrev pub IsSpanOf : List ℕ → Token → Type 0
IsSpanOf text token = (token.start ≤ token.end) × (token.end ≤ length text)

-- the line of a position, counted from 1
abbrev pub line_of : List ℕ → ℕ → ℕ
line_of text at = count_by (λ b. b == 10) (take at text) + 1

-- the first bad piece, and its position
pub record IsFirstBad (text : List ℕ) (fault : BadPiece) (at : ℕ) : Type 0 where
  pub tokens : List Token
  pub before : LexesTo text at tokens
  pub size : ℕ
  pub bad : IsPieceAt text at (record { kind = Bad fault; size = size })

-- the fault that the text has; out of memory says nothing
abbrev pub IsLexFault : List ℕ → LexFault → Type 0
IsLexFault text Memory = Unit {0}
IsLexFault text (At fault at) = IsFirstBad text fault at
