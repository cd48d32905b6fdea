-- Marks at the beginnings of blocks.
use Rattle.std.proofs.Common.{◌≡◌, ℕ, zero, suc, ◌+◌, ◌≤◌, List, [], ◌∷◌, ◌++◌, length, take, arith, refl, sym, ap, ◌∙◌, take_all}
use Rattle.std.specs.Prelude.{Bool, true, false, ◌||◌, ◌==◌, slice_get, Some}
use Rattle.cbpf_code.specs.declared.insn.Insn.{Insn}
use Rattle.cbpf_why.specs.Graph.{begins_block, opens}
use Rattle.cbpf_machine.proofs.ListLemmas.{take-slice_get}
use Rattle.std.proofs.lemmas.List.FromFn.{length-enumerate_from}
use Rattle.std.specs.List.{list_any, enumerate_from}

pub or-assoc : (a b c : Bool) → ((a || b) || c) ≡ (a || (b || c))
or-assoc true b c = refl
or-assoc false b c = refl

pub or-false : (a : Bool) → (a || false) ≡ a
or-false true = refl
or-false false = refl

pub or-three : (a b c d : Bool) → (((a || b) || c) || d) ≡ (a || (b || (c || d)))
or-three a b c d = or-assoc (a || b) c d ∙ or-assoc a b (c || d)

pub ruleset blocks = (or-assoc, or-false, or-three)

pub any-more : {X : Type 0} (p : X → Bool) (xs : List X) (y : X) → list_any p (xs ++ y ∷ []) ≡ (list_any p xs || p y)
any-more p [] y = or-false (p y)
any-more p (x ∷ xs) y = ap (λ b. p x || b) (any-more p xs y) ∙ sym (or-assoc (p x) (list_any p xs) (p y))

pub enum_at : (list : List Insn) (a i : ℕ) (x : Insn) → slice_get list i ≡ Some x → slice_get (enumerate_from a list) i ≡ Some (a + i, x)
enum_at [] a i x h = absurd cc
enum_at (y ∷ ys) a zero x h =
    let same : y ≡ x = cc in
    let place : a ≡ a + 0 = omega arith in
    ap (λ (n : ℕ). Some (n, y)) place ∙ ap (λ z. Some (a + 0, z)) same
enum_at (y ∷ ys) a (suc i) x h =
    let place : a + 1 + i ≡ a + suc i = omega arith in
    enum_at ys (a + 1) i x h ∙ ap (λ (n : ℕ). Some (n, x)) place

-- what the first instructions open, with the next one
pub opened-more : (list : List Insn) (i j : ℕ) (insn : Insn) (old new : Bool) → slice_get list i ≡ Some insn
    → old ≡ ((j == 0) || list_any (opens j) (take i (enumerate_from 0 list))) → new ≡ (old || opens j (i, insn))
    → new ≡ ((j == 0) || list_any (opens j) (take (i + 1) (enumerate_from 0 list)))
opened-more list i j insn old new at was is =
    let zero-is : 0 + i ≡ i = omega arith in
    let there : slice_get (enumerate_from 0 list) i ≡ Some (i, insn) =
    enum_at list 0 i insn at ∙ ap (λ (n : ℕ). Some (n, insn)) zero-is in
    is ∙ ap (λ b. b || opens j (i, insn)) was
    ∙ or-assoc (j == 0) (list_any (opens j) (take i (enumerate_from 0 list))) (opens j (i, insn))
    ∙ ap (λ b. (j == 0) || b) (sym (any-more (opens j) (take i (enumerate_from 0 list)) (i, insn)))
    ∙ ap (λ l. (j == 0) || list_any (opens j) l) (sym (take-slice_get (enumerate_from 0 list) i (i, insn) there))

-- where all of them were read
pub opened-all : (list : List Insn) (i j : ℕ) (new : Bool) → length list ≤ i
    → new ≡ ((j == 0) || list_any (opens j) (take i (enumerate_from 0 list))) → new ≡ begins_block list j
opened-all list i j new long is =
    is ∙ ap (λ l. (j == 0) || list_any (opens j) l) (take_all i (enumerate_from 0 list) (omega (arith, long, length-enumerate_from 0 list)))
