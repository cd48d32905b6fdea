-- The text after so many newlines.
use Rattle.std.proofs.Common.{◌≡◌, ℕ, zero, suc, ◌-◌, ◌<◌, List, arith, refl, ap}
use Rattle.cbpf_tool.specs.SourceLine.{after_newline, after_newlines}

-- one newline of them
pub one_newline : (n : ℕ) (text : List ℕ) → 0 < n → after_newlines n text ≡ after_newlines (n - 1) (after_newline text)
one_newline zero text h = absurd (omega (arith, h))
one_newline (suc n) text h =
    let same : n ≡ suc n - 1 = omega arith in ap (λ k. after_newlines k (after_newline text)) same

-- none
pub no_newline : (n : ℕ) (text : List ℕ) → (0 < n → ⊥) → after_newlines n text ≡ text
no_newline zero text h = refl
no_newline (suc n) text h = absurd (h (omega arith))

pub ruleset newlines = (one_newline, no_newline)
