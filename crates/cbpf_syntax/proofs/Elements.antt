-- Elements of lists that are made of others.
use Rattle.std.proofs.lemmas.Grind.{common_steps}
use Rattle.std.proofs.Common.{rules, ◌≡◌, ℕ, ◌<◌, Bool, true, List, [], ◌∷◌, length, map, refl, arith, ◌⊎◌, inl, inr}
use Rattle.std.proofs.Common.{get_or, zero, suc, ◌&&◌, ap, sym, ◌∙◌}
use Rattle.std.proofs.lemmas.List.{get_or_default}
use Rattle.std.specs.Prelude.{Contains, flat_map}
use Rattle.std.specs.List.{list_all, list_any, common_prefix_len}
use Rattle.std.proofs.lemmas.Bool.{and_parts, cases_order, or_left, or_right, or_cases}
use Rattle.std.proofs.lemmas.List.Elements.{Contains-append_left, Contains-append_right, Contains-append_cases}

pub first_element : {X : Type 0} (x : X) (xs : List X) → Contains (x ∷ xs) x
first_element x xs = (0, omega arith, refl)

pub later_element : {X : Type 0} (x : X) (xs : List X) (y : X) → Contains xs y → Contains (x ∷ xs) y
later_element x xs y c = Contains-append_right (x ∷ []) xs y c

no_element : {X : Type 0} {B : Type 0} (y : X) → Contains [] y → B
no_element y c = absurd (omega (arith, c.1))

-- the element is the first or one of the rest
pub which_element : {X : Type 0} (x : X) (xs : List X) (y : X) → Contains (x ∷ xs) y → (x ≡ y) ⊎ Contains xs y
which_element x xs y h1 = search (rules, get_or)

pub only_element : {X : Type 0} (x y : X) → Contains (x ∷ []) y → x ≡ y
only_element x y c = elim (which_element x [] y c) [ inl e ↦ e | inr d ↦ no_element y d ]

pub from_map : {X Y : Type 0} (f : X → Y) (xs : List X) (y : Y) → Contains (map f xs) y
    → (x : X) × Contains xs x × (f x ≡ y)
from_map f [] y c = no_element y c
from_map f (x ∷ xs) y c = elim (which_element (f x) (map f xs) y c) [
  | inl e ↦ (x, first_element x xs, e)
  | inr d ↦ let r = from_map f xs y d in (r.0, later_element x xs r.0 r.1, r.2)
]

pub into_map : {X Y : Type 0} (f : X → Y) (xs : List X) (x : X) → Contains xs x → Contains (map f xs) (f x)
into_map f xs x h1 = grind (arith, common_steps, no_element, which_element, first_element, later_element)

pub from_flat_map : {X Y : Type 0} (f : X → List Y) (xs : List X) (y : Y) → Contains (flat_map f xs) y
    → (x : X) × Contains xs x × Contains (f x) y
from_flat_map f [] y c = no_element y c
from_flat_map f (x ∷ xs) y c = elim (Contains-append_cases (f x) (flat_map f xs) y c) [
  | inl d ↦ (x, first_element x xs, d)
  | inr d ↦ let r = from_flat_map f xs y d in (r.0, later_element x xs r.0 r.1, r.2)
]

pub into_flat_map : {X Y : Type 0} (f : X → List Y) (xs : List X) (x : X) (y : Y) → Contains xs x → Contains (f x) y
    → Contains (flat_map f xs) y
into_flat_map f [] x y c d = no_element x c
into_flat_map f (z ∷ xs) x y c d = elim (which_element z xs x c) [
  | inl e ↦ Contains-append_left (f z) (flat_map f xs) y (rw e d)
  | inr r ↦ Contains-append_right (f z) (flat_map f xs) y (into_flat_map f xs x y r d)
]

pub any_element : {X : Type 0} (p : X → Bool) (xs : List X) (x : X) → Contains xs x → p x ≡ true
    → list_any p xs ≡ true
any_element p xs x h1 h2 = grind (arith, common_steps, no_element, which_element, or_left, or_right)

pub some_element : {X : Type 0} (p : X → Bool) (xs : List X) → list_any p xs ≡ true
    → (x : X) × Contains xs x × (p x ≡ true)
some_element p [] e = cc
some_element p (x ∷ xs) e = elim (or_cases (p x) (list_any p xs) e) [
  | inl h ↦ (x, first_element x xs, h)
  | inr h ↦ let r = some_element p xs h in (r.0, later_element x xs r.0 r.1, r.2)
]

-- what holds of all elements by a test holds of one of them
pub list_all_at : {X : Type 0} (p : X → Bool) (xs : List X) (i : ℕ) (d : X) → list_all p xs ≡ true → i < length xs
    → p (get_or xs i d) ≡ true
list_all_at p xs i d h1 h2 = grind (arith, common_steps, and_parts)

pub common_mapped : {X Y V W : Type 0} (e : V → W → Bool) (f : X → V) (g : Y → W) (xs : List X) (ys : List Y)
    → common_prefix_len e (map f xs) (map g ys) ≡ common_prefix_len (λ x y. e (f x) (g y)) xs ys
common_mapped e f g (x ∷ xs) (y ∷ ys) = rw (common_mapped e f g xs ys) refl
common_mapped e f g xs ys = refl

-- each two elements pass a test, the earlier one first
abbrev pub all_pairs : {X : Type 0} → (X → X → Bool) → List X → Bool
all_pairs p [] = true
all_pairs p (x ∷ xs) = list_all (p x) xs && all_pairs p xs

pair_at : {X : Type 0} (p : X → X → Bool) (xs : List X) (i j : ℕ) (d : X) → all_pairs p xs ≡ true → i < j
    → j < length xs → p (get_or xs i d) (get_or xs j d) ≡ true
pair_at p (x ∷ xs) zero (suc j) d e l m = list_all_at (p x) xs j d (and_parts _ _ e).0 (omega arith)
pair_at p (x ∷ xs) (suc i) (suc j) d e l m =
    pair_at p xs i j d (and_parts (list_all (p x) xs) _ e).1 (omega arith) (omega arith)
pair_at p xs i j d e l m = absurd (omega arith)

pub same_or_pair : {X : Type 0} (p : X → X → Bool) (xs : List X) (x y : X) → all_pairs p xs ≡ true → Contains xs x
    → Contains xs y → (x ≡ y) ⊎ ((p x y ≡ true) ⊎ (p y x ≡ true))
same_or_pair p xs x y all a b = elim (cases_order a.0 b.0) [
  | inl e ↦ inl (sym a.2 ∙ ap (λ k. get_or xs k x) e ∙ get_or_default xs b.0 x y b.1 ∙ b.2)
  | inr h ↦ inr (elim h [
    | inl l ↦ inl (rw (a.2, get_or_default xs b.0 x y b.1, b.2) at (pair_at p xs a.0 b.0 x all l b.1))
    | inr l ↦ inr (rw (b.2, get_or_default xs a.0 y x a.1, a.2) at (pair_at p xs b.0 a.0 y all l a.1))
  ])
]
