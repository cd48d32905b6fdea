-- Each text has tokens or a first bad piece: at each place of it stands a piece.
use Rattle.std.proofs.Common.{rules, ◌≡◌, ℕ, zero, suc, ◌+◌, ◌≤◌, true, List, [], ◌++◌, length}
use Rattle.std.proofs.Common.{take, drop, refl, subst, arith, ◌⊎◌, inl, inr, get_or}
use Rattle.std.proofs.lemmas.Bool.{cases_lt}
use Rattle.cbpf_syntax.specs.declared.piece.PieceKind.{PieceKind}
use Rattle.cbpf_syntax.specs.declared.piece.PieceKind.TheVariants.{Bad}
use Rattle.cbpf_syntax.specs.declared.piece.Piece.{Piece}
use Rattle.cbpf_syntax.specs.declared.token.BadPiece.{BadPiece}
use Rattle.cbpf_syntax.specs.declared.token.Token.{Token}
use Rattle.cbpf_syntax.specs.Pieces.{IsPieceAt, is_line_blank}
use Rattle.cbpf_syntax.specs.Leads.{lead_of}
use Rattle.cbpf_syntax.specs.Tokens.{LexesTo, Lexes, IsFirstBad, token_of, is_good}
use Rattle.cbpf_syntax.specs.CutLaws.{EachLexed}
use Rattle.cbpf_syntax.proofs.Runs.{led_piece, led_next}
use Rattle.cbpf_syntax.proofs.Cuts.{piece_at, piece_within, piece_some, LexesTo-more}

-- what a text has
abbrev Answer : List ℕ → Type 0
Answer text = ((ts : List Token) × Lexes text ts) ⊎ ((f : BadPiece) × (at : ℕ) × IsFirstBad text f at)

-- a piece is bad, or it isn't
one_of : (kind : PieceKind) → ((f : BadPiece) × (kind ≡ Bad f)) ⊎ (is_good kind ≡ true)
one_of kind = search (rules)

bad_here : (text : List ℕ) (at : ℕ) (ts : List Token) (piece : Piece) (f : BadPiece) → LexesTo text at ts
    → IsPieceAt text at piece → piece.kind ≡ Bad f → IsFirstBad text f at
bad_here text at ts piece f h1 h2 h3 = search (rules)

whole : (text : List ℕ) (at : ℕ) (ts : List Token) → at ≤ length text → length text ≤ at → LexesTo text at ts
    → Answer text
whole text at ts l m lexed = let e : at ≡ length text = omega (arith, l, m) in
    inl (ts, subst (λ n. LexesTo text n ts) e lexed)

-- what the text has by its tokens up to a place, of which at most so many bytes lie before the end
answer_from : (text : List ℕ) (left at : ℕ) (ts : List Token) → length text ≤ at + left → at ≤ length text
    → LexesTo text at ts → Answer text
answer_from text zero at ts l m lexed = whole text at ts m (omega (arith, l)) lexed
answer_from text (suc left) at ts l m lexed = elim (cases_lt at (length text)) [
  | inr end ↦ whole text at ts m end lexed
  | inl more ↦
      let lead = lead_of (is_line_blank (take at text)) (get_or text at 0) in
      let next = led_piece lead (get_or text at 0) (drop (at + 1) text) in
      let here : IsPieceAt text at next = piece_at text at next more (led_next _ _ _ lead refl) in
      elim (one_of next.kind) [
        | inl bad ↦ inr (bad.0, at, bad_here text at ts next bad.0 lexed here bad.1)
        | inr good ↦ answer_from text left (at + next.size) (ts ++ token_of next.kind at (at + next.size))
            (omega (arith, l, piece_some text at next here)) (piece_within text at next more here)
            (LexesTo-more text at ts next lexed here good)
      ]
]

nothing_read : (text : List ℕ) → LexesTo text 0 []
nothing_read text = record { pieces = []; cut = refl; good = refl; spans = refl }

pub each_lexed : EachLexed
each_lexed text = answer_from text (length text) 0 [] (omega arith) (omega arith) (nothing_read text)
