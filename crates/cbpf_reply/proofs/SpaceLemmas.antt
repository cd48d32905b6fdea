-- Spaces that are cut from a longer text of them.
use Rattle.std.proofs.Common.{◌≡◌, ℕ, zero, suc, ◌-◌, List, [], ◌∷◌, drop, take, min, refl, ap, arith}
use Rattle.std.specs.List.{repeat}
use Rattle.cbpf_code.specs.Text.{spaces}

take-repeat : (b n : ℕ) → take n (repeat n (b ∷ [])) ≡ repeat n (b ∷ [])
take-repeat b zero = refl
take-repeat b (suc n) = ap (λ (t : List ℕ). b ∷ t) (take-repeat b n)

drop-repeat : (b k n : ℕ) → drop k (repeat n (b ∷ [])) ≡ repeat (n - k) (b ∷ [])
drop-repeat b zero n = let all : n - 0 ≡ n = omega arith in rw all refl
drop-repeat b (suc k) zero = let none : 0 - suc k ≡ 0 = omega arith in rw none refl
drop-repeat b (suc k) (suc n) = let rest : suc n - suc k ≡ n - k = omega arith in rw rest (drop-repeat b k n)

-- what is left beside a text of k bytes
pub spaces-beside : (n k m : ℕ) → m ≡ min k n → take (n - m) (drop m (spaces n)) ≡ spaces (n - k)
spaces-beside n k m e =
    let same : n - m ≡ n - k = omega arith in
    rw (drop-repeat 32 m n, take-repeat 32 (n - m), same) refl
