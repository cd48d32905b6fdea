-- Where a number is too large after a `-`, and where tokens that were read as items go on no farther.
use Rattle.std.proofs.Common.{◌≡◌, ℕ, zero, suc, ◌+◌, ◌-◌, ◌<◌, ◌≤◌, List, [], ◌∷◌, ◌++◌, length, take, drop}
use Rattle.std.proofs.Common.{map, refl, arith, sym, subst, length-drop, get_or, Some}
use Rattle.std.proofs.lemmas.List.{take-append-drop, drop_all, drop-drop}
use Rattle.std.proofs.lemmas.Option.{slice_get-map, slice_get-get_or, slice_get_past}
use Rattle.std.proofs.lemmas.Bool.{cases_lt}
use Rattle.cbpf_syntax.specs.declared.lexeme.Lexeme as declared_lexeme
use Rattle.cbpf_syntax.specs.Lexemes.{Lexeme}
use Rattle.cbpf_syntax.specs.Items.{Item, Items}
use Rattle.cbpf_syntax.specs.Views.{symbol_of, lexeme_of}
use Rattle.cbpf_syntax.specs.Steps.{Stuck, IsNextItem}
use Rattle.cbpf_syntax.specs.Refusals.{symbol_at, is_large, is_large_at, IsLargeNegative, ItemsStuckAt}
use Rattle.cbpf_syntax.specs.Lexemes.{Symbol}
use Rattle.cbpf_syntax.specs.Lexemes.Symbol.{number, mark}
use Rattle.std.proofs.Common.{true, Option, ap, eqb-true}
use Rattle.std.specs.Prelude.{◌==◌}
use Rattle.std.proofs.lemmas.Bool.{and_parts}
use Rattle.cbpf_syntax.proofs.Greedy.{Greedy, stuck_first, stuck_after}
use Rattle.cbpf_syntax.proofs.Apart.{no_item}

pub symbol_at_get : (ts : List declared_lexeme.Lexeme) (i : ℕ) (d : declared_lexeme.Lexeme) → i < length ts
    → symbol_at (map lexeme_of ts) i ≡ Some (symbol_of (get_or ts i d).symbol)
symbol_at_get ts i d l = rw (slice_get-map lexeme_of ts i, slice_get-get_or ts i d l) refl

-- what stands at an index and the one before
pub large_here : (ts : List declared_lexeme.Lexeme) (i : ℕ) (d e : declared_lexeme.Lexeme) → 1 ≤ i → i < length ts
    → is_large_at (map lexeme_of ts) i
    ≡ is_large (Some (symbol_of (get_or ts (i - 1) d).symbol)) (Some (symbol_of (get_or ts i e).symbol))
large_here ts zero d e some within = absurd (omega (arith, some))
large_here ts (suc i) d e some within =
    let same : suc i - 1 ≡ i = omega arith in
    rw (same, symbol_at_get ts i d (omega (arith, within)), symbol_at_get ts (suc i) e within) refl

pub large_parts : (o q : Option Symbol) → is_large o q ≡ true
    → (n : ℕ) × (o ≡ Some (mark 45)) × (q ≡ Some (number n))
large_parts (Some (mark b)) (Some (number n)) h =
    (n, ap (λ c. Some (mark c)) (eqb-true b 45 (and_parts (b == 45) _ h).0), refl)
large_parts o q h = cc

pub large_number : (ts : List Lexeme) (i : ℕ) → IsLargeNegative ts i → (n : ℕ) × (symbol_at ts i ≡ Some (number n))
large_number ts zero h = cc
large_number ts (suc i) h = let parts = large_parts (symbol_at ts i) (symbol_at ts (suc i)) h in (parts.0, parts.2)

pub large_within : (ts : List Lexeme) (i : ℕ) → IsLargeNegative ts i → i < length ts
large_within ts i h = grind (arith, cases_lt, slice_get_past, large_number)

-- Where items were read one by one.
pub greedy_snoc : (ts : List Lexeme) (is : List Item) (rest : List Lexeme) (n : ℕ) (i : Item) → Greedy ts is rest
    → IsNextItem rest n i → Greedy ts (is ++ (i ∷ [])) (drop n rest)
greedy_snoc ts [] rest n i p next = rw p (n, next, refl)
greedy_snoc ts (j ∷ is) rest n i p next = (p.0, p.1, greedy_snoc (drop p.0 ts) is rest n i p.2 next)

pub greedy_more : (ts : List Lexeme) (is : List Item) (at n : ℕ) (i : Item) → Greedy ts is (drop at ts)
    → IsNextItem (drop at ts) n i → Greedy ts (is ++ (i ∷ [])) (drop (at + n) ts)
greedy_more ts is at n i p next = rw drop-drop at (greedy_snoc ts is (drop at ts) n i p next)

pub greedy_items : (ts : List Lexeme) (is : List Item) → Greedy ts is [] → Items ts is
greedy_items ts [] p = p
greedy_items ts (i ∷ is) p =
    (take p.0 ts, drop p.0 ts, sym (take-append-drop p.0 ts), p.1.is_item, greedy_items (drop p.0 ts) is p.2)

pub greedy_all : (ts : List Lexeme) (is : List Item) (at : ℕ) → length ts ≤ at
    → Greedy ts is (drop at ts) → Items ts is
greedy_all ts is at l p = greedy_items ts is (rw (drop_all at ts l) at p)

-- an item has a token
pub next_some : (ts : List Lexeme) (n : ℕ) (i : Item) → IsNextItem ts n i → 0 < n
next_some ts zero i next = absurd (no_item i next.is_item)
next_some ts (suc n) i next = omega arith

pub stuck_from : (ts : List Lexeme) (is : List Item) (rest : List Lexeme) (s : ℕ) → Greedy ts is rest → 0 < length rest
    → ItemsStuckAt rest s → (m : ℕ) × (length ts ≡ m + length rest) × ItemsStuckAt ts (m + s)
stuck_from ts [] rest s p some stuck =
    let none : s ≡ 0 + s = omega arith in rw p (0, omega arith, subst (λ m. ItemsStuckAt rest m) none stuck)
stuck_from ts (i ∷ is) rest s p some stuck =
    let r = stuck_from (drop p.0 ts) is rest s p.2 some stuck in
    let size : length (drop p.0 ts) ≡ length ts - p.0 = length-drop p.0 ts in
    let add : p.0 + (r.0 + s) ≡ p.0 + r.0 + s = omega arith in
    let l : p.0 < length ts = omega (arith, r.1) in
    (p.0 + r.0, omega (arith, r.1), subst (λ m. ItemsStuckAt ts m) add (stuck_after p.0 (r.0 + s) ts i p.1 l r.2))

pub stuck_at : (ts : List Lexeme) (is : List Item) (at n : ℕ) → at < length ts → Greedy ts is (drop at ts)
    → Stuck n (drop at ts) → ItemsStuckAt ts (at + n)
stuck_at ts is at n l p s =
    let size : length (drop at ts) ≡ length ts - at = length-drop at ts in
    let some : 0 < length (drop at ts) = omega arith in
    let r = stuck_from ts is (drop at ts) n p some (stuck_first n (drop at ts) some s) in
    let same : r.0 ≡ at = omega (arith, r.1) in
    subst (λ m. ItemsStuckAt ts (m + n)) same r.2
