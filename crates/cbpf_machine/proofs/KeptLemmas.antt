-- Trails that ignore what is between two of their states.
use Rattle.std.proofs.Common.{◌≡◌, ℕ, zero, suc, ◌+◌, ◌-◌, ◌<◌, ◌≤◌, List, [], ◌∷◌, ◌++◌}
use Rattle.std.proofs.Common.{length, take, length-take, length-append, append_assoc, refl, ap, sym, subst, ◌∙◌, arith}
use Rattle.std.specs.Prelude.{Some, slice_get, replicate}
use Rattle.std.proofs.lemmas.Option.{slice_get_within}
use Rattle.std.proofs.lemmas.List.{take-take, take-append-le, length-replicate, replicate_more}
use Rattle.cbpf_machine.specs.Registers.{Registers}
use Rattle.cbpf_machine.specs.Trail.{IgnoresBetween}
use Rattle.cbpf_machine.proofs.ListLemmas.{slice_get-take}

pub ignores_fewer : {T : Type 0} (stands : T → List Registers → Type 0) (k m n : ℕ) → m ≤ n
    → IgnoresBetween stands k n → IgnoresBetween stands k m
ignores_fewer stands k m n few h = λ t xs ys long within front last at.
    h t xs ys long (omega (arith, within, few)) front last at

-- ---- one state more: nothing is between

same : {X : Type 0} (k i : ℕ) (xs ys : List X) → length xs ≡ length ys → length xs ≤ k + 1 → take k xs ≡ take k ys
    → length xs ≡ i + 1 → slice_get xs i ≡ slice_get ys i → xs ≡ ys
same k i [] ys long within front n at = absurd (omega arith)
same k i (x ∷ xs) [] long within front n at = absurd (omega arith)
same k zero (x ∷ []) (y ∷ []) long within front n at = let e : x ≡ y = cc in rw e refl
same k zero (x ∷ []) (y ∷ z ∷ ys) long within front n at = absurd (omega arith)
same k zero (x ∷ z ∷ xs) (y ∷ ys) long within front n at = absurd (omega arith)
same zero (suc i) (x ∷ xs) (y ∷ ys) long within front n at = absurd (omega arith)
same (suc k) (suc i) (x ∷ xs) (y ∷ ys) long within front n at =
    let e : x ≡ y = cc in
    let rest : take k xs ≡ take k ys = cc in
    rw e (ap (λ zs. y ∷ zs) (same k i xs ys (omega arith) (omega arith) rest (omega arith) at))

same_lists : {X : Type 0} (k : ℕ) (xs ys : List X) → length xs ≡ length ys → length xs ≤ k + 1 → take k xs ≡ take k ys
    → slice_get xs (length xs - 1) ≡ slice_get ys (length ys - 1) → xs ≡ ys
same_lists k [] [] long within front last = refl
same_lists k [] (y ∷ ys) long within front last = absurd (omega arith)
same_lists k (x ∷ xs) ys long within front last =
    let a : length xs ≡ length (x ∷ xs) - 1 = omega arith in
    let b : length ys - 1 ≡ length xs = omega (arith, long) in
    same k (length xs) (x ∷ xs) ys long within front (omega arith)
    (ap (λ i. slice_get (x ∷ xs) i) a ∙ last ∙ ap (λ i. slice_get ys i) b)

pub ignores_none : {T : Type 0} (stands : T → List Registers → Type 0) (k : ℕ) → IgnoresBetween stands k 1
ignores_none stands k = λ t xs ys long within front last at.
    subst (λ zs. stands t zs) (same_lists k xs ys long within front last) at

-- ---- a state that was added for each one between

slice_get-last : {X : Type 0} (xs : List X) (x : X) → slice_get (xs ++ x ∷ []) (length xs) ≡ Some x
slice_get-last [] x = refl
slice_get-last (y ∷ ys) x = slice_get-last ys x

pub ignored : {T : Type 0} (stands : T → List Registers → Type 0) (t : T) (k n : ℕ) (xs : List Registers) (s : Registers)
    → 1 ≤ n → IgnoresBetween stands k n → slice_get xs (k + n - 1) ≡ Some s
    → stands t (take k xs ++ replicate n s) → stands t (take (k + n) xs)
ignored stands t k n xs s some h at added =
    let within : k + n - 1 < length xs = slice_get_within xs (k + n - 1) s at in
    let front : length (take k xs) ≡ k = omega (arith, length-take k xs) in
    let left : length (take k xs ++ replicate n s) ≡ k + n =
    omega (arith, length-append (take k xs) (replicate n s), length-replicate n s) in
    let right : length (take (k + n) xs) ≡ k + n = omega (arith, length-take (k + n) xs) in
    let m : n ≡ (n - 1) + 1 = omega arith in
    let split : take k xs ++ replicate n s ≡ (take k xs ++ replicate (n - 1) s) ++ s ∷ [] =
    ap (λ i. take k xs ++ replicate i s) m ∙ ap (λ l. take k xs ++ l) (sym (replicate_more (n - 1) s))
    ∙ sym (append_assoc (take k xs) (replicate (n - 1) s) (s ∷ [])) in
    let place : length (take k xs ++ replicate n s) - 1 ≡ length (take k xs ++ replicate (n - 1) s) =
    omega (arith, length-append (take k xs) (replicate (n - 1) s), length-replicate (n - 1) s) in
    let one : slice_get (take k xs ++ replicate n s) (length (take k xs ++ replicate n s) - 1) ≡ Some s =
    ap (λ i. slice_get (take k xs ++ replicate n s) i) place
    ∙ ap (λ l. slice_get l (length (take k xs ++ replicate (n - 1) s))) split
    ∙ slice_get-last (take k xs ++ replicate (n - 1) s) s in
    let other : slice_get (take (k + n) xs) (length (take (k + n) xs) - 1) ≡ Some s =
    ap (λ i. slice_get (take (k + n) xs) (i - 1)) right ∙ slice_get-take xs (k + n) (k + n - 1) (omega arith) ∙ at in
    h t (take k xs ++ replicate n s) (take (k + n) xs) (left ∙ sym right) (omega arith)
    (take-append-le k (take k xs) (replicate n s) (omega arith) ∙ take-take k k xs (omega arith)
    ∙ sym (take-take k (k + n) xs (omega arith)))
    (one ∙ sym other) added
