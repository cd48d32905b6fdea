-- Tokens that fit classes: all of them, or as far as the tokens go.
use Rattle.std.proofs.Common.{◌≡◌, ℕ, suc, ◌≤◌, Bool, true, false, ◌&&◌, List, [], ◌∷◌, ◌++◌, length, take, refl, arith, ap, inl, inr}
use Rattle.std.proofs.Math.Numerals.{one-add}
use Rattle.std.proofs.lemmas.Bool.{and_parts, cases_Bool}
use Rattle.cbpf_syntax.specs.Classes.{Class}
use Rattle.cbpf_syntax.specs.Lexemes.{Lexeme}
use Rattle.cbpf_syntax.specs.Fits.{fits, fits_all}
use Rattle.cbpf_syntax.specs.Choice.{common}

-- the tokens fit the classes one by one, of which there may be more
abbrev pub fits_front : List Class → List Lexeme → Bool
fits_front [] [] = true
fits_front [] (t ∷ ts) = false
fits_front (c ∷ cs) [] = true
fits_front (c ∷ cs) (t ∷ ts) = fits c t.symbol && fits_front cs ts

pub front_nil : (cs : List Class) → fits_front cs [] ≡ true
front_nil [] = refl
front_nil (c ∷ cs) = refl

pub whole_front : (cs : List Class) (ts : List Lexeme) → fits_all cs ts ≡ true → fits_front cs ts ≡ true
whole_front [] (t ∷ ts) f = cc
whole_front (c ∷ cs) (t ∷ ts) f =
    let p = and_parts (fits c t.symbol) (fits_all cs ts) f in rw (p.0, whole_front cs ts p.1) refl
whole_front cs ts f = refl

pub length_whole : (cs : List Class) (ts : List Lexeme) → fits_all cs ts ≡ true → length cs ≡ length ts
length_whole [] [] f = refl
length_whole (c ∷ cs) (t ∷ ts) f = ap suc (length_whole cs ts (and_parts (fits c t.symbol) _ f).1)
length_whole cs ts f = cc

pub length_front : (cs : List Class) (ts : List Lexeme) → fits_front cs ts ≡ true → length ts ≤ length cs
length_front [] (t ∷ ts) f = absurd cc
length_front (c ∷ cs) (t ∷ ts) f =
    let h = length_front cs ts (and_parts (fits c t.symbol) (fits_front cs ts) f).1 in omega arith
length_front cs ts f = omega arith

pub front_whole : (cs : List Class) (ts : List Lexeme) → fits_front cs ts ≡ true → length cs ≡ length ts
    → fits_all cs ts ≡ true
front_whole [] ts h e = h
front_whole (c ∷ cs) [] h e = absurd (omega arith)
front_whole (c ∷ cs) (t ∷ ts) h e =
    let p = and_parts (fits c t.symbol) (fits_front cs ts) h in rw (p.0, front_whole cs ts p.1 (omega arith)) refl

pub front_before : (cs : List Class) (ts us : List Lexeme) → fits_front cs (ts ++ us) ≡ true → fits_front cs ts ≡ true
front_before [] (t ∷ ts) us h = cc
front_before (c ∷ cs) (t ∷ ts) us h =
    let p = and_parts (fits c t.symbol) (fits_front cs (ts ++ us)) h in rw (p.0, front_before cs ts us p.1) refl
front_before cs ts us h = refl

-- as many tokens fit as `common` says, and no more
pub common_fits : (cs : List Class) (ts : List Lexeme) → fits_front cs (take (common cs ts) ts) ≡ true
common_fits [] ts = refl
common_fits (c ∷ cs) [] = refl
common_fits (c ∷ cs) (t ∷ ts) = elim (cases_Bool (fits c t.symbol)) [
  | inl e ↦ rw (e, one-add) (rw (e, common_fits cs ts) refl)
  | inr e ↦ rw e refl
]

pub common_most : (cs : List Class) (ts : List Lexeme) (n : ℕ) → n ≤ length ts → fits_front cs (take n ts) ≡ true
    → n ≤ common cs ts
common_most (c ∷ cs) (t ∷ ts) (suc n) l h =
    let p = and_parts (fits c t.symbol) (fits_front cs (take n ts)) h in
    let more = common_most cs ts n (omega arith) p.1 in
    rw (p.0, one-add) (omega arith)
common_most [] (t ∷ ts) (suc n) l h = absurd cc
common_most cs ts n l h = omega arith
