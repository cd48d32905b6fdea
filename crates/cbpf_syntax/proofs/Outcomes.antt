-- A text has one list of tokens or one first bad piece.
use Rattle.std.proofs.Common.{◌≡◌, ℕ, ◌+◌, Bool, true, false, List, [], ◌∷◌, ◌++◌, length, refl, ap, sym, ◌∙◌, subst}
use Rattle.std.proofs.Common.{append_assoc}
use Rattle.std.specs.List.{list_all}
use Rattle.std.proofs.lemmas.Bool.{and_parts}
use Rattle.cbpf_syntax.specs.declared.piece.PieceKind.{PieceKind}
use Rattle.cbpf_syntax.specs.declared.piece.PieceKind.TheVariants.{Bad}
use Rattle.cbpf_syntax.specs.declared.piece.Piece.{Piece}
use Rattle.cbpf_syntax.specs.declared.token.BadPiece.{BadPiece}
use Rattle.cbpf_syntax.specs.Pieces.{IsPieceAt, IsCut}
use Rattle.cbpf_syntax.specs.declared.token.Token.{Token}
use Rattle.cbpf_syntax.specs.Tokens.{LexesTo, Lexes, tokens_of, token_of, is_good}
use Rattle.cbpf_syntax.specs.CutLaws.{OneCut, OneList, OneFault, NeverLexedAndBad}
use Rattle.cbpf_syntax.proofs.Cuts.{one_next, past_end}
use Rattle.cbpf_syntax.proofs.Cuts as cuts

abbrev are_good : List Piece → Bool
are_good ps = list_all (λ (p : Piece). is_good p.kind) ps

pub one_cut : OneCut
one_cut text ps qs a b = cuts.one_cut text 0 ps qs a b

pub one_list : OneList
one_list text ts us a b =
    a.spans ∙ (ap (λ ps. tokens_of 0 ps) (cuts.one_cut text 0 a.pieces b.pieces a.cut b.cut) ∙ sym b.spans)

good_bad : {B : Type 0} (p q : Piece) → p ≡ q → is_good p.kind ≡ true → is_good q.kind ≡ false → B
good_bad p q e g h = let k : true ≡ false = sym g ∙ (ap (λ (x : Piece). is_good x.kind) e ∙ h) in cc

-- two cuts of good pieces, each before a bad one
same_bad : (text : List ℕ) (at : ℕ) (ps qs : List Piece) (m n : ℕ) (p q : Piece) → IsCut text at ps m
    → IsCut text at qs n → are_good ps ≡ true → are_good qs ≡ true
    → IsPieceAt text m p → IsPieceAt text n q → is_good p.kind ≡ false → is_good q.kind ≡ false → (m ≡ n) × (p ≡ q)
same_bad text at [] [] m n p q a b g h x y f k = let e : m ≡ n = sym a ∙ b in (e, one_next _ _ p q x (rw (← e) at y))
same_bad text at [] (r ∷ qs) m n p q a b g h x y f k =
    good_bad r p (one_next _ _ r p b.0 (rw (← a) at x)) (and_parts (is_good r.kind) _ h).0 f
same_bad text at (r ∷ ps) [] m n p q a b g h x y f k =
    good_bad r q (one_next _ _ r q a.0 (rw (← b) at y)) (and_parts (is_good r.kind) _ g).0 k
same_bad text at (r ∷ ps) (s ∷ qs) m n p q a b g h x y f k =
    let e : r ≡ s = one_next _ _ r s a.0 b.0 in
    same_bad text (at + r.size) ps qs m n p q a.1 (rw (← e) at b.1) (and_parts (is_good r.kind) _ g).1
    (and_parts (is_good s.kind) _ h).1 x y f k

-- a cut of the whole text into good pieces leaves no place for a bad one
no_bad : {B : Type 0} (text : List ℕ) (at : ℕ) (ps qs : List Piece) (n : ℕ) (q : Piece)
    → IsCut text at ps (length text) → IsCut text at qs n → are_good ps ≡ true → IsPieceAt text n q
    → is_good q.kind ≡ false → B
no_bad text at [] [] n q a b g y k = past_end text n q (sym b ∙ a) y
no_bad text at [] (r ∷ qs) n q a b g y k = past_end text at r a b.0
no_bad text at (r ∷ ps) [] n q a b g y k =
    good_bad r q (one_next _ _ r q a.0 (rw (← b) at y)) (and_parts (is_good r.kind) _ g).0 k
no_bad text at (r ∷ ps) (s ∷ qs) n q a b g y k =
    let e : r ≡ s = one_next _ _ r s a.0 b.0 in
    no_bad text (at + r.size) ps qs n q a.1 (rw (← e) at b.1) (and_parts (is_good r.kind) _ g).1 y k

bad-same : (f g : BadPiece) → ◌≡◌ {A = PieceKind} (Bad f) (Bad g) → f ≡ g
bad-same f g e = cc

pub one_fault : OneFault
one_fault text f g m n a b =
    let both = same_bad text 0 a.before.pieces b.before.pieces m n (record { kind = Bad f; size = a.size })
    (record { kind = Bad g; size = b.size }) a.before.cut b.before.cut a.before.good b.before.good a.bad
    b.bad refl refl in
    (bad-same f g (ap (λ (p : Piece). p.kind) both.1), both.0)

pub never_both : NeverLexedAndBad
never_both text ts f at a b = no_bad text 0 a.pieces b.before.pieces at (record { kind = Bad f; size = b.size })
    a.cut b.before.cut a.good b.bad refl

-- What is read of a text is the front of the whole.
cut_on : (text : List ℕ) (from : ℕ) (ps qs : List Piece) (to : ℕ) → IsCut text from ps to
    → IsCut text from qs (length text) → (rs : List Piece) × (qs ≡ ps ++ rs) × IsCut text to rs (length text)
cut_on text from [] qs to a b = (qs, refl, subst (λ n. IsCut text n qs (length text)) a b)
cut_on text from (p ∷ ps) [] to a b = past_end text from p b a.0
cut_on text from (p ∷ ps) (q ∷ qs) to a b =
    let e : p ≡ q = one_next _ _ p q a.0 b.0 in
    let more = cut_on text (from + p.size) ps qs to a.1 (rw (← e) at b.1) in
    (more.0, (λ i. sym e i ∷ more.1 i), more.2)

tokens_of-append : (text : List ℕ) (at : ℕ) (ps : List Piece) (to : ℕ) (qs : List Piece) → IsCut text at ps to
    → tokens_of at (ps ++ qs) ≡ tokens_of at ps ++ tokens_of to qs
tokens_of-append text at [] to qs e = ap (λ n. tokens_of n qs) e
tokens_of-append text at (p ∷ ps) to qs cut =
    ap (λ ts. token_of p.kind at (at + p.size) ++ ts) (tokens_of-append text (at + p.size) ps to qs cut.1)
    ∙ sym (append_assoc (token_of p.kind at (at + p.size)) (tokens_of (at + p.size) ps) (tokens_of to qs))

none_after : (text : List ℕ) (at : ℕ) (rs : List Piece) → IsCut text at rs (length text) → at ≡ length text
    → tokens_of at rs ≡ []
none_after text at [] cut e = refl
none_after text at (r ∷ rs) cut e = past_end text at r e cut.0

-- the tokens up to a place are the first of the whole text's, and all of them where it is the end
pub lexes_on : (text : List ℕ) (at : ℕ) (ts us : List Token) → LexesTo text at ts → Lexes text us
    → (rest : List Token) × (us ≡ ts ++ rest) × (at ≡ length text → rest ≡ [])
lexes_on text at ts us a b =
    let c = cut_on text 0 a.pieces b.pieces at a.cut b.cut in (
      tokens_of at c.0,
      b.spans ∙ (ap (λ ps. tokens_of 0 ps) c.1
          ∙ (tokens_of-append text 0 a.pieces at c.0 a.cut ∙ ap (λ xs. xs ++ tokens_of at c.0) (sym a.spans))),
      none_after text at c.0 c.2,
    )
