-- A loop over an iterator that writes the text of each item.
use Rattle.std.proofs.Common.{◌≡◌, ℕ, ◌+◌, List, [], ◌∷◌, ◌++◌, length, Option, sym, ap, ◌∙◌, append_assoc}
use Rattle.std.proofs.Common.{append-nil, arith}
use Rattle.std.specs.List.{flat_map}
use Rattle.std.proofs.lemmas.List.{length-append}
use Rattle.std.proofs.lemmas.Grind.{flat_map-append}
use Rattle.cbpf_code.specs.Writing.{Appended, AppendedPart}
use Rattle.cbpf_code.proofs.WrittenLemmas.{appended-then, part-then, part-more}

module _ {X : Type 0} (f : X → List ℕ) (done : List X) (x : X) where
  one-more : flat_map f (done ++ x ∷ []) ≡ flat_map f done ++ f x
  one-more = flat_map-append f done (x ∷ []) ∙ ap (λ (t : List ℕ). flat_map f done ++ t) (append-nil (f x))

  pub each-next : (u v w : Option (List ℕ)) → Appended u v (flat_map f done) → Appended v w (f x)
      → Appended u w (flat_map f (done ++ x ∷ []))
  each-next u v w a b = rw one-more (appended-then u v w (flat_map f done) (f x) a b)

  pub each-failed : (u v w : Option (List ℕ)) (left all : List X) → done ++ (x ∷ left) ≡ all
      → Appended u v (flat_map f done) → AppendedPart v w (f x) → AppendedPart u w (flat_map f all)
  each-failed u v w left all e a b =
      let whole : flat_map f all ≡ flat_map f (done ++ x ∷ []) ++ flat_map f left =
      ap (flat_map f) (sym e ∙ sym (append_assoc done (x ∷ []) left)) ∙ flat_map-append f (done ++ x ∷ []) left in
      rw whole (part-more u w (flat_map f (done ++ x ∷ [])) (flat_map f left)
      (rw one-more (part-then u v w (flat_map f done) (f x) a b)))

  pub one-left : (left all : List X) → done ++ (x ∷ left) ≡ all → (done ++ x ∷ []) ++ left ≡ all
  one-left left all e = append_assoc done (x ∷ []) left ∙ e

  pub one-counted : length (done ++ x ∷ []) ≡ length done + 1
  one-counted = length-append done (x ∷ [])

pub none-left : {X : Type 0} (done all : List X) → done ++ [] ≡ all → done ≡ all
none-left done all e = sym (append-nil done) ∙ e

pub some-left : {X : Type 0} (done : List X) (x : X) (left all : List X) → done ++ (x ∷ left) ≡ all
    → length done + (length left + 1) ≡ length all
some-left done x left all e =
    let n : length (done ++ (x ∷ left)) ≡ length all = ap length e in
    omega (arith, n, length-append done (x ∷ left))
