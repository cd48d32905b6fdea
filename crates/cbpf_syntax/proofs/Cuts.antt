-- Cuts of a text: one more piece, and that there is only one.
use Rattle.std.proofs.lemmas.Grind.{common_steps}
use Rattle.std.proofs.Common.{rules, ◌≡◌, ◌≢◌, ℕ, ◌+◌, ◌-◌, ◌<◌, ◌≤◌, Bool, true, List, [], ◌∷◌, ◌++◌}
use Rattle.std.proofs.Common.{length, take, drop, refl, ap, sym, ◌∙◌, arith, Option, Some, None, append_assoc}
use Rattle.std.proofs.Common.{append-nil, inl, inr, get_or, length-drop}
use Rattle.std.proofs.lemmas.Bool.{and_parts, cases_order, cases_lt}
use Rattle.std.proofs.lemmas.List.{drop_all, drop_more, take_all, take_rest}
use Rattle.std.specs.List.{list_all}
use Rattle.cbpf_syntax.specs.declared.piece.PieceKind.{PieceKind}
use Rattle.cbpf_syntax.specs.declared.piece.Piece.{Piece}
use Rattle.cbpf_syntax.specs.declared.token.Token.{Token}
use Rattle.cbpf_syntax.specs.declared.token.Kind.{Kind}
use Rattle.cbpf_syntax.specs.Pieces.{IsNext, IsPieceAt, IsCut, is_line_blank}
use Rattle.cbpf_syntax.specs.Tokens.{LexesTo, tokens_of, token_of, is_good}
use Rattle.cbpf_syntax.specs.declared.piece.PieceKind.TheVariants.{Blanks, Comment, TokenOf, Bad}

IsCut-snoc : (text : List ℕ) (at : ℕ) (ps : List Piece) (to : ℕ) (p : Piece) → IsCut text at ps to
    → IsPieceAt text to p → IsCut text at (ps ++ p ∷ []) (to + p.size)
IsCut-snoc text at [] to p e next = (rw e next, ap (λ x. x + p.size) e)
IsCut-snoc text at (q ∷ qs) to p cut next = (cut.0, IsCut-snoc text (at + q.size) qs to p cut.1 next)

tokens_of-snoc : (text : List ℕ) (at : ℕ) (ps : List Piece) (to : ℕ) (p : Piece) → IsCut text at ps to
    → tokens_of at (ps ++ p ∷ []) ≡ tokens_of at ps ++ token_of p.kind to (to + p.size)
tokens_of-snoc text at [] to p e = rw (e, append-nil) refl
tokens_of-snoc text at (q ∷ qs) to p cut =
    ap (λ ts. token_of q.kind at (at + q.size) ++ ts) (tokens_of-snoc text (at + q.size) qs to p cut.1) ∙ sym
    (append_assoc (token_of q.kind at (at + q.size)) (tokens_of (at + q.size) qs) (token_of p.kind to (to + p.size)))

good-snoc : (ps : List Piece) (p : Piece) → list_all (λ (q : Piece). is_good q.kind) ps ≡ true → is_good p.kind ≡ true
    → list_all (λ (q : Piece). is_good q.kind) (ps ++ p ∷ []) ≡ true
good-snoc ps p h1 h2 = grind (arith, common_steps, and_parts)

pub LexesTo-more : (text : List ℕ) (at : ℕ) (tokens : List Token) (p : Piece) → LexesTo text at tokens
    → IsPieceAt text at p → is_good p.kind ≡ true
    → LexesTo text (at + p.size) (tokens ++ token_of p.kind at (at + p.size))
LexesTo-more text at tokens p lexed next good = record {
  pieces = lexed.pieces ++ p ∷ [];
  cut = IsCut-snoc text 0 lexed.pieces at p lexed.cut next;
  good = good-snoc lexed.pieces p lexed.good good;
  spans = ap (λ ts. ts ++ token_of p.kind at (at + p.size)) lexed.spans
      ∙ sym (tokens_of-snoc text 0 lexed.pieces at p lexed.cut);
}

-- There is one next piece
some-none : {A B : Type 0} (o : Option A) (x : A) → o ≡ Some x → o ≡ None → B
some-none o x e h = cc

pub some-same : {A : Type 0} (x y : A) → ◌≡◌ {A = Option A} (Some x) (Some y) → x ≡ y
some-same x y e = cc

same_size : (fresh : Bool) (text : List ℕ) (p q : Piece) → IsNext fresh text p → IsNext fresh text q → p.size ≡ q.size
same_size fresh text p q h1 h2 = search (rules, cases_order, some-none)

pub one_next : (fresh : Bool) (text : List ℕ) (p q : Piece) → IsNext fresh text p → IsNext fresh text q → p ≡ q
one_next fresh text p q h1 h2 = search (rules, same_size, some-same)

pub past_end : {B : Type 0} (text : List ℕ) (at : ℕ) (q : Piece) → at ≡ length text → IsPieceAt text at q → B
past_end text at q e next =
    some-none _ _ (rw (drop_all at text (omega arith), take_all {A = ℕ} q.size [] (omega arith)) at next.kind) refl

pub one_cut : (text : List ℕ) (at : ℕ) (ps qs : List Piece) → IsCut text at ps (length text)
    → IsCut text at qs (length text) → ps ≡ qs
one_cut text at [] [] a b = refl
one_cut text at [] (q ∷ qs) a b = past_end text at q a b.0
one_cut text at (p ∷ ps) [] a b = past_end text at p b a.0
one_cut text at (p ∷ ps) (q ∷ qs) a b =
    let e : p ≡ q = one_next _ _ p q a.0 b.0 in
    let rest : ps ≡ qs = one_cut text (at + p.size) ps qs a.1 (rw (← e) at b.1) in
    λ i. e i ∷ rest i

pub piece_at : (text : List ℕ) (at : ℕ) (p : Piece) → at < length text
    → IsNext (is_line_blank (take at text)) (get_or text at 0 ∷ drop (at + 1) text) p → IsPieceAt text at p
piece_at text at p l next = rw (drop_more text at 0) next

-- the same, of the bytes from the next place to the end
pub next_at : (text : List ℕ) (at : ℕ) (p : Piece) → at < length text → IsNext (is_line_blank (take at text))
    (get_or text at 0 ∷ take (length text - (at + 1)) (drop (at + 1) text)) p → IsPieceAt text at p
next_at text at p l next = piece_at text at p l (rw (take_rest text (at + 1)) at next)

pub piece_within : (text : List ℕ) (at : ℕ) (p : Piece) → at < length text → IsPieceAt text at p
    → at + p.size ≤ length text
piece_within text at p l next = omega (arith, next.within, length-drop at text)

pub piece_some : (text : List ℕ) (at : ℕ) (p : Piece) → IsPieceAt text at p → 0 < p.size
piece_some text at p next = elim (cases_lt 0 p.size) [
  | inl l ↦ l
  | inr z ↦ let none : p.size ≡ 0 = omega arith in some-none _ _ (rw none at next.kind) refl
]

-- the tokens after one more piece that is a token, or none
pub token_more : (text : List ℕ) (from at : ℕ) (p : Piece) (kind : Kind)
    → ((ts : List Token) → LexesTo text from ts → LexesTo text at ts) → IsPieceAt text at p → p.kind ≡ TokenOf kind
    → (ts : List Token) → LexesTo text from ts
    → LexesTo text (at + p.size) (ts ++ record { kind = kind; start = at; end = at + p.size } ∷ [])
token_more text from at p kind more next e ts lexed =
    rw e at (LexesTo-more text at ts p (more ts lexed) next (rw e refl))

pub piece_more : (text : List ℕ) (from at : ℕ) (p : Piece) → ((ts : List Token) → LexesTo text from ts
    → LexesTo text at ts) → IsPieceAt text at p → is_good p.kind ≡ true → ((kind : Kind)
    → p.kind ≢ TokenOf kind) → (ts : List Token) → LexesTo text from ts → LexesTo text (at + p.size) ts
piece_more text from at p more next good other ts lexed =
    let none : token_of p.kind at (at + p.size) ≡ [] = no_token p.kind at (at + p.size) other in
    rw (none, append-nil) at (LexesTo-more text at ts p (more ts lexed) next good)
  where
    no_token : (kind : PieceKind) (at to : ℕ) → ((k : Kind) → kind ≢ TokenOf k) → token_of kind at to ≡ []
    no_token Blanks at to other = refl
    no_token Comment at to other = refl
    no_token (TokenOf k) at to other = absurd (other k refl)
    no_token (Bad f) at to other = refl
