-- Lists by index.
use Rattle.std.proofs.Common.{◌≡◌, ℕ, zero, suc, ◌+◌, ◌<◌, List, [], ◌∷◌, ◌++◌, length, get_or, take, drop, arith, ap}
use Rattle.std.proofs.Common.{refl, add-one}
use Rattle.std.specs.Prelude.{Some, slice_get}
use Rattle.std.proofs.lemmas.Option.{slice_get-get_or}

pub slice_get-drop_head : {X : Type 0} (xs : List X) (i : ℕ) (x : X) (rest : List X) → drop i xs ≡ x ∷ rest
    → (slice_get xs i ≡ Some x) × (drop (i + 1) xs ≡ rest)
slice_get-drop_head [] zero x rest h = cc
slice_get-drop_head [] (suc i) x rest h = cc
slice_get-drop_head (y ∷ xs) zero x rest h = (cc, cc)
slice_get-drop_head (y ∷ xs) (suc i) x rest h = rw add-one (rw add-one at (slice_get-drop_head xs i x rest h))

pub take-slice_get : {X : Type 0} (xs : List X) (i : ℕ) (x : X) → slice_get xs i ≡ Some x
    → take (i + 1) xs ≡ take i xs ++ x ∷ []
take-slice_get [] i x h = cc
take-slice_get (y ∷ ys) zero x h = let same : y ≡ x = cc in rw same refl
take-slice_get (y ∷ ys) (suc i) x h =
    let ih = take-slice_get ys i x h in
    let e : suc i + 1 ≡ suc (i + 1) = omega arith in
    rw e (ap (λ rest. y ∷ rest) ih)

pub slice_get-take : {X : Type 0} (xs : List X) (n i : ℕ) → i < n → slice_get (take n xs) i ≡ slice_get xs i
slice_get-take xs zero i h = absurd (omega arith)
slice_get-take [] (suc n) i h = refl
slice_get-take (y ∷ ys) (suc n) zero h = refl
slice_get-take (y ∷ ys) (suc n) (suc i) h = slice_get-take ys n i (omega arith)

pub slice_get-drop : {X : Type 0} (xs : List X) (k i : ℕ) → slice_get (drop k xs) i ≡ slice_get xs (k + i)
slice_get-drop xs zero i = let e : 0 + i ≡ i = omega arith in rw e refl
slice_get-drop [] (suc k) i = refl
slice_get-drop (x ∷ xs) (suc k) i = let e : suc k + i ≡ suc (k + i) = omega arith in rw e (slice_get-drop xs k i)

-- an element that is read, where the default isn't
pub read_at : {X : Type 0} {xs ys : List X} {i : ℕ} (d : X) → xs ≡ ys → i < length ys
    → slice_get ys i ≡ Some (get_or xs i d)
read_at {ys = ys} {i = i} d e within = rw e (slice_get-get_or ys i d within)
