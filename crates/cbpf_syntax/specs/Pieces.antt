-- How a source text is cut into pieces: blanks, comments, tokens and bad pieces, each the longest at its position. The
-- kernel's Documentation/networking/filter shows words, numbers, marks and comments by example; these rules are this
-- project's own.
use Rattle.std.specs.Prelude.{◌≡◌, ℕ, suc, ◌+◌, ◌-◌, ◌<◌, ◌≤◌, Bool, true, false, not, ◌&&◌, ◌||◌, List, [], ◌∷◌}
use Rattle.std.specs.Prelude.{length, take, drop, nat_lt, ◌==◌, if◌then◌else◌, fold, Option, Some, None, option_map}
use Rattle.std.specs.List.{list_all}
use Rattle.cbpf_syntax.specs.declared.token.Kind.TheVariants.{Word, Number, Mark}
use Rattle.cbpf_syntax.specs.declared.token.BadPiece.TheVariants.{NoToken, OpenComment, LargeNumber}
use Rattle.cbpf_syntax.specs.declared.piece.PieceKind.{PieceKind}
use Rattle.cbpf_syntax.specs.declared.piece.PieceKind.TheVariants.{Blanks, Comment, TokenOf, Bad}
use Rattle.cbpf_syntax.specs.declared.piece.Piece.{Piece}
use Rattle.cbpf_syntax.specs.declared.piece.Lead.{Lead}
use Rattle.cbpf_syntax.specs.declared.piece.Lead.TheVariants.{Blank, LineComment, Letter, Digit, Slash, Single, Other}
use Rattle.cbpf_code.specs.WordTokens.{is_blank}
use Rattle.cbpf_syntax.specs.Bytes.{is_name_byte}
use Rattle.cbpf_syntax.specs.Leads.{lead_of}
use Rattle.cbpf_syntax.specs.Numbers.{number_value, number_limit}

-- whether the last line of a text, which may not be whole, has only blanks
abbrev pub is_line_blank : List ℕ → Bool
is_line_blank text = fold (λ blank b. b == 10 || (blank && is_blank b)) true text

-- the kind, where no byte is left
abbrev pub alone : List ℕ → PieceKind → Option PieceKind
alone [] kind = Some kind
alone (b ∷ bs) kind = None

-- the kind, where the test holds
abbrev pub only_if : Bool → PieceKind → Option PieceKind
only_if true kind = Some kind
only_if false kind = None

-- digits that spell a number are a token below the limit, and else a bad piece
abbrev pub number_kind : Option ℕ → PieceKind
number_kind None = Bad NoToken
number_kind (Some n) = if nat_lt n number_limit then TokenOf (Number n) else Bad LargeNumber

-- A numeral, which is a run of name bytes that begins with a digit: a number, where it spells one below the limit.
-- A numeral of word text has only digits (`WordTokens` of `cbpf_code`).
abbrev pub numeral_kind : List ℕ → PieceKind
numeral_kind bytes = number_kind (number_value bytes)

-- the bytes begin with `*/`
abbrev pub begins_with_close : List ℕ → Bool
begins_with_close [] = false
begins_with_close (b ∷ []) = false
begins_with_close (b ∷ c ∷ bs) = b == 42 && c == 47

-- whether the end of a comment comes
abbrev pub has_close : List ℕ → Bool
has_close [] = false
has_close (b ∷ bs) = begins_with_close (b ∷ bs) || has_close bs

-- The bytes after a `/*`: a comment where they end with their first `*/`, an open comment where they have none. They
-- end with their first where they have one and no `*/` ends before the last byte.
abbrev pub comment_kind : List ℕ → Option PieceKind
comment_kind bs =
    if has_close bs then only_if (not (has_close (take (length bs - 1) bs))) Comment else Some (Bad OpenComment)

-- a `/` and the bytes after it
abbrev pub slash_kind : List ℕ → Option PieceKind
slash_kind [] = Some (Bad NoToken)
slash_kind (b ∷ bs) = if b == 42 then comment_kind bs else None

-- the kind by what the first byte says
abbrev pub led_kind : Lead → ℕ → List ℕ → Option PieceKind
led_kind Blank b bs = only_if (list_all is_blank bs) Blanks
led_kind LineComment b bs = only_if (list_all (λ c. not (c == 10)) bs) Comment
led_kind Letter b bs = only_if (list_all is_name_byte bs) (TokenOf Word)
led_kind Digit b bs = only_if (list_all is_name_byte bs) (numeral_kind (b ∷ bs))
led_kind Slash b bs = slash_kind bs
led_kind Single b bs = alone bs (TokenOf (Mark b))
led_kind Other b bs = alone bs (Bad NoToken)

-- Which kind of piece the bytes are, if they are one. `fresh` says that only blanks stand before them on their
-- line.
abbrev pub piece_kind : Bool → List ℕ → Option PieceKind
piece_kind fresh [] = None
piece_kind fresh (b ∷ bs) = led_kind (lead_of fresh b) b bs

-- the piece stands at the front of the text, and no longer one does
pub record IsNext (fresh : Bool) (text : List ℕ) (piece : Piece) : Type 0 where
  pub within : piece.size ≤ length text
  pub kind : piece_kind fresh (take piece.size text) ≡ Some piece.kind
  pub longest : (n : ℕ) → piece.size < n → n ≤ length text → piece_kind fresh (take n text) ≡ None

-- the piece is the next of the text at a position
abbrev pub IsPieceAt : List ℕ → ℕ → Piece → Type 0
IsPieceAt text at piece = IsNext (is_line_blank (take at text)) (drop at text) piece

-- the text from one position to another is cut into the pieces
abbrev pub IsCut : List ℕ → ℕ → List Piece → ℕ → Type 0
IsCut text at [] to = at ≡ to
IsCut text at (piece ∷ pieces) to = IsPieceAt text at piece × IsCut text (at + piece.size) pieces to

-- The next piece, as the lexer finds it by the first byte: a matter of this crate alone, which no public clause names.

-- how many bytes there are up to the end of the first `*/`, where there is one; `star` says that a `*` stands before
-- the bytes
abbrev pub close_after : Bool → List ℕ → Option ℕ
close_after star [] = None
close_after star (b ∷ bs) = if star && b == 47 then Some 1 else option_map suc (close_after (b == 42) bs)

-- a `/*` and so many bytes after it, by the end of the first `*/` among them
abbrev pub comment_piece : Option ℕ → ℕ → Piece
comment_piece None size = record { kind = Bad OpenComment; size = 2 + size }
comment_piece (Some close) size = record { kind = Comment; size = 2 + close }

-- a `/` and what comes after it
abbrev pub slash_piece : List ℕ → Piece
slash_piece [] = record { kind = Bad NoToken; size = 1 }
slash_piece (b ∷ bs) =
    if b == 42 then comment_piece (close_after false bs) (length bs) else record { kind = Bad NoToken; size = 1 }
