-- The table of first bytes is held against the definition at each of the 256 bytes, by computing.
use Rattle.std.proofs.Common.{rules, ◌≡◌, ◌≢◌, ℕ, ◌<◌, Bool, true, false, get_or, refl}
use Rattle.std.specs.Prelude.{◌==◌, if◌then◌else◌}
use Rattle.std.proofs.lemmas.Bool.{agree_below, agree_below_at, ne_eqb}
use Rattle.cbpf_syntax.specs.declared.piece.TheConstants.{LEADS}
use Rattle.cbpf_syntax.specs.declared.piece.Lead.{Lead}
use Rattle.cbpf_syntax.specs.declared.piece.Lead.TheVariants.{Blank, LineComment, Letter, Digit, Slash, Single, Other}
use Rattle.cbpf_syntax.specs.Leads.{lead_of}
use Rattle.cbpf_code.specs.WordTokens.{is_blank}

-- what a letter of the table says
abbrev pub by_letter : Bool → ℕ → Lead
by_letter fresh g = if g == 66 then Blank else (if g == 67 then LineComment else (if g == 68 then Digit
    else (if g == 72 then (if fresh then LineComment else Single) else (if g == 76 then Letter
    else (if g == 77 then Single else (if g == 83 then Slash else Other))))))

-- the variants by numbers, so that tests of them compute
abbrev pub number_of : Lead → ℕ
number_of Blank = 0
number_of LineComment = 1
number_of Letter = 2
number_of Digit = 3
number_of Slash = 4
number_of Single = 5
number_of Other = 6

pub same_lead : (l m : Lead) → (number_of l == number_of m) ≡ true → l ≡ m
same_lead Blank Blank h = refl
same_lead LineComment LineComment h = refl
same_lead Letter Letter h = refl
same_lead Digit Digit h = refl
same_lead Slash Slash h = refl
same_lead Single Single h = refl
same_lead Other Other h = refl
same_lead l m h = cc

-- the two leads are the same at each byte
agree : (f g : ℕ → Lead) (b : ℕ) → agree_below (λ k. number_of (f k) == number_of (g k)) (λ k. true) 256 ≡ true
    → b < 256 → f b ≡ g b
agree f g b h lt =
    same_lead (f b) (g b) (agree_below_at (λ k. number_of (f k) == number_of (g k)) (λ k. true) 256 b h lt)

pub letter_lead : (fresh : Bool) (b : ℕ) → b < 256 → by_letter fresh (get_or LEADS b 0) ≡ lead_of fresh b
unfolding lead_of
letter_lead true b lt = agree (λ k. by_letter true (get_or LEADS k 0)) (lead_of true) b refl lt
letter_lead false b lt = agree (λ k. by_letter false (get_or LEADS k 0)) (lead_of false) b refl lt

-- a letter that says nothing else
pub other_letter : (fresh : Bool) (g : ℕ) → g ≢ 76 → g ≢ 68 → g ≢ 77 → g ≢ 66 → g ≢ 67 → g ≢ 72 → g ≢ 83
    → by_letter fresh g ≡ Other
other_letter fresh g h1 h2 h3 h4 h5 h6 h7 = search (rules, ne_eqb)

pub blank_lead : (fresh : Bool) (b : ℕ) → is_blank b ≡ true → lead_of fresh b ≡ Blank
unfolding lead_of
blank_lead fresh b e = rw e refl
