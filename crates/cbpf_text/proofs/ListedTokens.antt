-- The tokens of a text that is spelled by segments.
use Rattle.std.proofs.lemmas.List.Folds.{list_all-append}
use Rattle.std.proofs.lemmas.Grind.{common_steps}
use Rattle.std.proofs.Common.{rules, ◌≡◌, ℕ, zero, suc, ◌+◌, Bool, true, false, not, ◌&&◌, List, [], ◌∷◌, ◌++◌, length}
use Rattle.std.proofs.Common.{refl, sym, subst, ◌∙◌, arith, append_assoc, length-append, Option, Some, None}
use Rattle.std.specs.Prelude.{◌==◌, slice_range}
use Rattle.std.specs.List.{list_all}
use Rattle.std.proofs.lemmas.List.{take_at, drop_at}
use Rattle.std.proofs.Math.Numerals.{one-add}
use Rattle.std.proofs.lemmas.Bool.{and_parts, and_from}
use Rattle.cbpf_syntax.specs.Tokens.{tokens_of}
use Rattle.cbpf_syntax.proofs.Spelled.{Segment, bytes_of, text_of, pieces_of, piece_of, AreSegments, ends_name}
use Rattle.cbpf_syntax.proofs.Spelled.{ends_blank, stay_apart}
use Rattle.cbpf_syntax.proofs.Spelled.Segment.{blank, word, number, mark}
use Rattle.cbpf_syntax.specs.Lexemes as grammar
use Rattle.cbpf_syntax.specs.Lexemes.{Lexeme, lexemes_of}
use Rattle.cbpf_syntax.specs.Refusals.{symbol_at, IsLargeNegative}
use Rattle.cbpf_syntax.proofs.Refused.{large_parts}

-- the tokens of segments that begin at a place
abbrev pub lexemes_at : ℕ → List Segment → List Lexeme
lexemes_at at [] = []
lexemes_at at (blank b ∷ ss) = lexemes_at (at + 1) ss
lexemes_at at (word b bs ∷ ss) = record { symbol = grammar.Symbol.word (b ∷ bs); at = at }
    ∷ lexemes_at (at + (1 + length bs)) ss
lexemes_at at (number b bs n ∷ ss) = record { symbol = grammar.Symbol.number n; at = at }
    ∷ lexemes_at (at + (1 + length bs)) ss
lexemes_at at (mark b ∷ ss) = record { symbol = grammar.Symbol.mark b; at = at } ∷ lexemes_at (at + 1) ss

-- the bytes of the segment after a front
part_at : (before : List ℕ) (b : ℕ) (bs rest : List ℕ)
    → slice_range (before ++ (b ∷ (bs ++ rest))) (length before) (length before + (1 + length bs)) ≡ b ∷ bs
part_at before b bs rest = search (rules, one-add, drop_at, take_at)

-- the tokens of a text of segments, after a front, as the grammar sees them
pub lexemes_spelled : (before : List ℕ) (ss : List Segment)
    → lexemes_of (before ++ text_of ss) (tokens_of (length before) (pieces_of ss)) ≡ lexemes_at (length before) ss
lexemes_spelled before [] = refl
lexemes_spelled before (s ∷ ss) = by_kind s (moved s (lexemes_spelled (before ++ bytes_of s) ss))
  where
    moved : (s : Segment)
        → lexemes_of ((before ++ bytes_of s) ++ text_of ss) (tokens_of (length (before ++ bytes_of s)) (pieces_of ss))
        ≡ lexemes_at (length (before ++ bytes_of s)) ss
        → lexemes_of (before ++ text_of (s ∷ ss)) (tokens_of (length before + length (bytes_of s)) (pieces_of ss))
        ≡ lexemes_at (length before + length (bytes_of s)) ss
    moved s e =
        let t = append_assoc before (bytes_of s) (text_of ss) in
        let n = length-append before (bytes_of s) in
        subst (λ k. lexemes_of (before ++ (bytes_of s ++ text_of ss)) (tokens_of k (pieces_of ss)) ≡ lexemes_at k ss)
        n (subst (λ x. lexemes_of x (tokens_of (length (before ++ bytes_of s)) (pieces_of ss))
        ≡ lexemes_at (length (before ++ bytes_of s)) ss) t e)

    by_kind : (s : Segment)
        → lexemes_of (before ++ text_of (s ∷ ss)) (tokens_of (length before + length (bytes_of s)) (pieces_of ss))
        ≡ lexemes_at (length before + length (bytes_of s)) ss
        → lexemes_of (before ++ text_of (s ∷ ss)) (tokens_of (length before) (piece_of s ∷ pieces_of ss))
        ≡ lexemes_at (length before) (s ∷ ss)
    by_kind (blank b) e = e
    by_kind (word b bs) e =
        let p = part_at before b bs (text_of ss) in
        let r =
        subst (λ m. lexemes_of (before ++ text_of (word b bs ∷ ss)) (tokens_of (length before + m) (pieces_of ss))
        ≡ lexemes_at (length before + m) ss) (sym (one-add (length bs))) e in
        λ k. record { symbol = grammar.Symbol.word (p k); at = length before } ∷ r k
    by_kind (number b bs n) e =
        let r =
        subst (λ m. lexemes_of (before ++ text_of (number b bs n ∷ ss)) (tokens_of (length before + m) (pieces_of ss))
        ≡ lexemes_at (length before + m) ss) (sym (one-add (length bs))) e in
        λ k. record { symbol = grammar.Symbol.number n; at = length before } ∷ r k
    by_kind (mark b) e = λ k. record { symbol = grammar.Symbol.mark b; at = length before } ∷ e k

-- segments after one another
pub lexemes_append : (at : ℕ) (ss us : List Segment)
    → lexemes_at at (ss ++ us) ≡ lexemes_at at ss ++ lexemes_at (at + length (text_of ss)) us
lexemes_append at [] us = let e : at + 0 ≡ at = omega arith in rw e refl
lexemes_append at (blank b ∷ ss) us = search (rules, text_of, lexemes_append (at + 1) ss us)
lexemes_append at (mark b ∷ ss) us = search (rules, text_of, lexemes_append (at + 1) ss us)
lexemes_append at (word b bs ∷ ss) us =
    search (rules, text_of, length-append, lexemes_append (at + (1 + length bs)) ss us)
lexemes_append at (number b bs n ∷ ss) us =
    search (rules, text_of, length-append, lexemes_append (at + (1 + length bs)) ss us)

pub text_append : (ss us : List Segment) → text_of (ss ++ us) ≡ text_of ss ++ text_of us
text_append ss us = grind (arith, common_steps, bytes_of, append_assoc, text_of)

pub are_append : (ss us : List Segment) → AreSegments ss → AreSegments us → AreSegments (ss ++ us)
are_append [] us p q = q
are_append (s ∷ ss) us p q = (p.0, are_append ss us p.1 q)

-- a line's segments, up to its newline, stay apart before a line that begins with no blank
abbrev pub newline : List Segment
newline = blank 10 ∷ []

name_before : (ss us : List Segment) → ends_name (ss ++ (blank 10 ∷ us)) ≡ ends_name (ss ++ newline)
name_before [] us = refl
name_before (blank b ∷ ss) us = refl
name_before ss us = refl

blank_before : (ss us : List Segment) → ends_blank (ss ++ (blank 10 ∷ us)) ≡ ends_blank (ss ++ newline)
blank_before [] us = refl
blank_before (blank b ∷ ss) us = refl
blank_before ss us = refl

pub ends_before : (ss us : List Segment) → ends_name (ss ++ newline) ≡ true → ends_name (ss ++ (blank 10 ∷ us)) ≡ true
ends_before ss us e = name_before ss us ∙ e

pub apart_before : (fresh : Bool) (ss us : List Segment) → stay_apart fresh (ss ++ newline) ≡ true
    → ends_blank us ≡ true → stay_apart true us ≡ true → stay_apart fresh (ss ++ (blank 10 ∷ us)) ≡ true
apart_before fresh [] us h b k = rw (b, k) refl
apart_before fresh (blank c ∷ ss) us h b k = let p = and_parts (ends_blank (ss ++ newline)) _ h in
    and_from _ _ (blank_before ss us ∙ p.0) (apart_before _ ss us p.1 b k)
apart_before fresh (word c cs ∷ ss) us h b k = let p = and_parts (ends_name (ss ++ newline)) _ h in
    and_from _ _ (name_before ss us ∙ p.0) (apart_before false ss us p.1 b k)
apart_before fresh (number c cs n ∷ ss) us h b k = let p = and_parts (ends_name (ss ++ newline)) _ h in
    and_from _ _ (name_before ss us ∙ p.0) (apart_before false ss us p.1 b k)
apart_before fresh (mark c ∷ ss) us h b k = let p = and_parts (not (fresh && c == 35)) _ h in
    and_from _ _ p.0 (apart_before false ss us p.1 b k)

-- no token is a `-`
abbrev no_minus : Segment → Bool
no_minus (mark b) = not (b == 45)
no_minus x = true

abbrev pub are_positive : List Segment → Bool
are_positive ss = list_all no_minus ss

pub positive_append : (ss us : List Segment) → are_positive ss ≡ true → are_positive us ≡ true
    → are_positive (ss ++ us) ≡ true
positive_append ss us p q = rw (list_all-append no_minus ss us, p, q) refl

never_minus : (at : ℕ) (ss : List Segment) (j : ℕ) (s : grammar.Symbol) → are_positive ss ≡ true
    → symbol_at (lexemes_at at ss) j ≡ Some s → s ≡ grammar.Symbol.mark 45 → ⊥
never_minus at [] j s p g e = let k : ◌≡◌ {A = Option grammar.Symbol} None (Some s) = g in cc
never_minus at (blank b ∷ ss) j s p g e = never_minus (at + 1) ss j s p g e
never_minus at (word b bs ∷ ss) zero s p g e = let k : Some (grammar.Symbol.word (b ∷ bs)) ≡ Some s = g in cc
never_minus at (word b bs ∷ ss) (suc j) s p g e = never_minus (at + (1 + length bs)) ss j s p g e
never_minus at (number b bs n ∷ ss) zero s p g e = let k : Some (grammar.Symbol.number n) ≡ Some s = g in cc
never_minus at (number b bs n ∷ ss) (suc j) s p g e = never_minus (at + (1 + length bs)) ss j s p g e
never_minus at (mark b ∷ ss) zero s p g e = search (rules, and_parts)
never_minus at (mark b ∷ ss) (suc j) s p g e = never_minus (at + 1) ss j s (and_parts (not (b == 45)) _ p).1 g e

pub no_large_negative : (at : ℕ) (ss : List Segment) → are_positive ss ≡ true → (i : ℕ)
    → IsLargeNegative (lexemes_at at ss) i → ⊥
no_large_negative at ss p zero l = cc
no_large_negative at ss p (suc i) l =
    let minus = (large_parts (symbol_at (lexemes_at at ss) i) (symbol_at (lexemes_at at ss) (suc i)) l).1 in
    never_minus at ss i (grammar.Symbol.mark 45) p minus refl
