-- Blanks that are cut from an array of them, and the longest of a program's first instructions.
use Rattle.std.proofs.Common.{◌≡◌, ◌≤◌, ◌∙◌, ℕ, zero, suc, ◌+◌, List, ◌∷◌, take, max, refl, ap, arith}
use Rattle.std.specs.Prelude.{replicate}
use Rattle.std.proofs.lemmas.List.{take-replicate}
use Rattle.cbpf_code.specs.Text.{spaces}
use Rattle.cbpf_code.specs.declared.insn.Insn.{Insn}
use Rattle.cbpf_why.specs.Columns.{length_at, longest_of}

blanks_are : (n : ℕ) → replicate n 32 ≡ spaces n
blanks_are zero = refl
blanks_are (suc n) = ap (λ (t : List ℕ). 32 ∷ t) (blanks_are n)

pub blanks_taken : (n m : ℕ) → n ≤ m → take n (replicate m 32) ≡ spaces n
blanks_taken n m l = take-replicate n m 32 l ∙ blanks_are n

pub longest_next : (list : List Insn) (i n : ℕ) → n ≡ longest_of list i → max n (length_at list i) ≡ longest_of list (i + 1)
longest_next list i n e =
    let next : i + 1 ≡ suc i = omega arith in
    rw (next, e) refl

pub ruleset lengths = (longest_next)
