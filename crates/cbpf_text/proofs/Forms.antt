-- Items by their forms: how many targets each has, and its mnemonic; and their statements.
use Rattle.std.proofs.Common.{◌≡◌, refl, sym, ◌∙◌, ap, ℕ, zero, suc, ◌+◌, Bool, true, false, List, [], ◌∷◌}
use Rattle.std.proofs.Common.{length, arith, map, Option, Some, None, inl, inr, eqb-true}
use Rattle.std.specs.Prelude.{All, Contains, ◌==◌, ◌||◌, slice_get, Result, Ok, Err}
use Rattle.std.specs.List.{list_all}
use Rattle.std.specs.Option.{option_or}
use Rattle.std.proofs.lemmas.Bool.{and_parts, or_cases}
use Rattle.cbpf_code.specs.declared.insn.Insn.{Insn}
use Rattle.cbpf_syntax.specs.declared.table.Fields.{Fields}
use Rattle.cbpf_syntax.specs.declared.table.Fields.TheVariants.{Constant, Goto, Branch, Swapped}
use Rattle.cbpf_syntax.specs.Classes.{Class}
use Rattle.cbpf_syntax.specs.Classes.Class.{name}
use Rattle.cbpf_syntax.specs.Lexemes.{Lexeme}
use Rattle.cbpf_syntax.specs.Fits.{fits, fits_all}
use Rattle.cbpf_syntax.specs.Table.{Row, classes, table, mnemonics}
use Rattle.cbpf_syntax.specs.Items.{Item, HasForm, Items}
use Rattle.cbpf_syntax.proofs.Elements.{list_all_at}
use Rattle.cbpf_text.specs.declared.fault.AsmKind.{AsmKind}
use Rattle.cbpf_text.specs.declared.draft.Target.{Target}
use Rattle.cbpf_text.specs.declared.draft.Statement.{Statement}
use Rattle.cbpf_text.specs.Operands.{names_at, targets_in}
use Rattle.cbpf_text.specs.Refusals.{Use, is_conditional, use_fault, uses_fault, uses_of}
use Rattle.cbpf_text.specs.Assembled.{offset_of, with_fields, insn_of}
use Rattle.cbpf_text.specs.Drafts.{KeepsLabel, AreTargets, IsStatement, IsAnswer}

abbrev one_if : Class → ℕ
one_if name = 1
one_if c = 0

abbrev names_in : List Class → ℕ
names_in [] = 0
names_in (c ∷ cs) = one_if c + names_in cs

abbrev pub takes : Fields → ℕ → Bool
takes Constant n = n == 0
takes Branch n = n == 1 || n == 2
takes x n = n == 1

rows_take : list_all (λ (r : Row). takes r.fields (names_in (classes r))) table ≡ true
unfolding mnemonics
rows_take = refl

row_takes : (r : Row) → Contains table r → takes r.fields (names_in (classes r)) ≡ true
row_takes r p = rw p.2 at (list_all_at (λ (s : Row). takes s.fields (names_in (classes s))) table p.0 r rows_take p.1)

names_count : (cs : List Class) (ts : List Lexeme) → fits_all cs ts ≡ true → length (names_at cs ts) ≡ names_in cs
names_count (c ∷ cs) [] e = let k : false ≡ true = e in cc
names_count (c ∷ cs) (t ∷ ts) e = by_class c (names_count cs ts (and_parts (fits c t.symbol) (fits_all cs ts) e).1)
  where
    by_class : (c : Class) → length (names_at cs ts) ≡ names_in cs
        → length (names_at (c ∷ cs) (t ∷ ts)) ≡ one_if c + names_in cs
    by_class name h = omega (arith, h)
    by_class c h = omega (arith, h)
names_count cs ts e = refl

-- an instruction has as many targets as its fields take
pub form_takes : (item : Item) → HasForm item → takes item.row.fields (length (targets_in item)) ≡ true
form_takes item h =
    ap (takes item.row.fields) (names_count (classes item.row) item.body h.fits) ∙ row_takes item.row h.known

-- the items of a token list have their forms
pub items_forms : (ts : List Lexeme) (is : List Item) → Items ts is → All HasForm is
items_forms ts [] p k d l = absurd (omega arith)
items_forms ts (i ∷ is) p zero d l = p.3.form
items_forms ts (i ∷ is) p (suc k) d l = items_forms p.1 is p.4 k d (omega arith)

-- where the first fault is reported, or is none
pub refused_before : (o p : Option (AsmKind × ℕ)) (r : AsmKind × ℕ) → o ≡ Some r → option_or o p ≡ Some r
refused_before o p r h = rw h refl

-- The targets of a statement, which are its item's: what their offsets say of the item.

abbrev pub use_of : ℕ → Bool → Lexeme → Use
use_of index short t = record { index = index; target = t; conditional = short }

-- what is answered to a target
abbrev pub IsOffset : List (Lexeme × ℕ) → ℕ → Bool → Target → Result ℕ (AsmKind × ℕ) → Type 0
IsOffset ls index short target r = (l : Lexeme) → KeepsLabel target l
    → IsAnswer (use_fault ls (use_of index short l)) (offset_of ls index (Some l)) r

abbrev Answers : List (Lexeme × ℕ) → ℕ → Fields → ℕ → ℕ → List Lexeme → Result Insn (AsmKind × ℕ) → Type 0
Answers ls index f code k ts r = IsAnswer (uses_fault ls (map (use_of index (is_conditional f)) ts))
    (with_fields f code k (offset_of ls index (slice_get ts 0)) (offset_of ls index (slice_get ts 1))) r

module _ (ls : List (Lexeme × ℕ)) (index code k : ℕ) (n : ℕ) (a b : Target) where
  constant : (ts : List Lexeme) → takes Constant (length ts) ≡ true
      → Answers ls index Constant code k ts (Ok (record { code = code; jt = 0; jf = 0; k = k }))
  constant [] e = (refl, refl)
  constant (t ∷ ts) e = let z = eqb-true (length (t ∷ ts)) 0 e in absurd (omega (arith, z))

  goto : (ts : List Lexeme) (d : ℕ) → takes Goto (length ts) ≡ true → AreTargets n a b ts → IsOffset ls index false a (Ok d)
      → Answers ls index Goto code k ts (Ok (record { code = code; jt = 0; jf = 0; k = d }))
  goto [] d e h o = let z : false ≡ true = e in cc
  goto (t ∷ []) d e h o = let q = o t h.1 in (rw q.0 refl, rw q.1 refl)
  goto (t ∷ u ∷ ts) d e h o = let z = eqb-true (length (t ∷ u ∷ ts)) 1 e in absurd (omega (arith, z))

  swapped : (ts : List Lexeme) (d : ℕ) → takes Swapped (length ts) ≡ true → AreTargets n a b ts
      → IsOffset ls index true a (Ok d)
      → Answers ls index Swapped code k ts (Ok (record { code = code; jt = 0; jf = d; k = k }))
  swapped [] d e h o = let z : false ≡ true = e in cc
  swapped (t ∷ []) d e h o = let q = o t h.1 in (rw q.0 refl, rw q.1 refl)
  swapped (t ∷ u ∷ ts) d e h o = let z = eqb-true (length (t ∷ u ∷ ts)) 1 e in absurd (omega (arith, z))

  one_branch : (ts : List Lexeme) (d : ℕ) → takes Branch (length ts) ≡ true → AreTargets n a b ts → (n ≡ 2 → ⊥)
      → IsOffset ls index true a (Ok d)
      → Answers ls index Branch code k ts (Ok (record { code = code; jt = d; jf = 0; k = k }))
  one_branch [] d e h two o = let z : false ≡ true = e in cc
  one_branch (t ∷ []) d e h two o = let q = o t h.1 in (rw q.0 refl, rw q.1 refl)
  one_branch (t ∷ u ∷ ts) d e h two o = absurd (two h.0)

  two_branch : (ts : List Lexeme) (d m : ℕ) → takes Branch (length ts) ≡ true → AreTargets n a b ts → n ≡ 2
      → IsOffset ls index true a (Ok d) → IsOffset ls index true b (Ok m)
      → Answers ls index Branch code k ts (Ok (record { code = code; jt = d; jf = m; k = k }))
  two_branch [] d m e h two o p = let z : false ≡ true = e in cc
  two_branch (t ∷ []) d m e h two o p = absurd (omega (arith, h.0, two))
  two_branch (t ∷ u ∷ []) d m e h two o p =
      let q = o t h.1 in
      let r = p u h.2 in
      (rw (q.0, r.0) refl, rw (q.1, r.1) refl)
  two_branch (t ∷ u ∷ v ∷ ts) d m e h two o p =
      elim (or_cases (length (t ∷ u ∷ v ∷ ts) == 1) (length (t ∷ u ∷ v ∷ ts) == 2) e) [
        | inl z ↦ absurd (omega (arith, eqb-true _ 1 z))
        | inr z ↦ absurd (omega (arith, eqb-true _ 2 z))
      ]

  -- the first target is refused, or the second one after it
  first : (f : Fields) (ts : List Lexeme) (r : AsmKind × ℕ) → takes f (length ts) ≡ true → AreTargets n a b ts
      → (f ≡ Constant → ⊥) → IsOffset ls index (is_conditional f) a (Err r) → Answers ls index f code k ts (Err r)
  first f (t ∷ []) r e h jumps o = refused_before _ None r (o t h.1)
  first f (t ∷ u ∷ ts) r e h jumps o = refused_before _ _ r (o t h.1)
  first Constant [] r e h jumps o = absurd (jumps refl)
  first f [] r e h jumps o = let z : false ≡ true = e in cc

  second : (ts : List Lexeme) (d : ℕ) (r : AsmKind × ℕ) → AreTargets n a b ts → n ≡ 2
      → IsOffset ls index true a (Ok d) → IsOffset ls index true b (Err r) → Answers ls index Branch code k ts (Err r)
  second [] d r h two o p = absurd (omega (arith, h, two))
  second (t ∷ []) d r h two o p = absurd (omega (arith, h.0, two))
  second (t ∷ u ∷ ts) d r h two o p = rw (o t h.1).0 (refused_before _ _ r (p u h.2))

-- the same of an item and its statement
module _ (ls : List (Lexeme × ℕ)) (index : ℕ) (item : Item) (s : Statement) (h : IsStatement s item)
    (form : HasForm item) where
  abbrev IsInsn : Result Insn (AsmKind × ℕ) → Type 0
  IsInsn r = IsAnswer (uses_fault ls (uses_of index item)) (insn_of ls index item) r

  kept : (f : Fields) (r : Result Insn (AsmKind × ℕ)) → s.fields ≡ f
      → (takes f (length (targets_in item)) ≡ true
      → Answers ls index f s.code s.literal (targets_in item) r) → IsInsn r
  kept f r e answers =
      let is : item.row.fields ≡ f = sym h.fields ∙ e in
      rw (is, ← h.code, ← h.literal) (answers (rw is at (form_takes item form)))

  pub constant_insn : s.fields ≡ Constant → IsInsn (Ok (record { code = s.code; jt = 0; jf = 0; k = s.literal }))
  constant_insn e = kept Constant (Ok (record { code = s.code; jt = 0; jf = 0; k = s.literal })) e (constant ls index s.code s.literal s.targets s.first s.second (targets_in item))

  pub goto_insn : (d : ℕ) → s.fields ≡ Goto → IsOffset ls index false s.first (Ok d)
      → IsInsn (Ok (record { code = s.code; jt = 0; jf = 0; k = d }))
  goto_insn d e o = kept Goto (Ok (record { code = s.code; jt = 0; jf = 0; k = d })) e (λ t. goto ls index s.code s.literal s.targets s.first s.second (targets_in item) d t
      h.targets o)

  pub swapped_insn : (d : ℕ) → s.fields ≡ Swapped → IsOffset ls index true s.first (Ok d)
      → IsInsn (Ok (record { code = s.code; jt = 0; jf = d; k = s.literal }))
  swapped_insn d e o = kept Swapped (Ok (record { code = s.code; jt = 0; jf = d; k = s.literal })) e (λ t. swapped ls index s.code s.literal s.targets s.first s.second
      (targets_in item) d t h.targets o)

  pub one_branch_insn : (d : ℕ) → s.fields ≡ Branch → (s.targets ≡ 2 → ⊥) → IsOffset ls index true s.first (Ok d)
      → IsInsn (Ok (record { code = s.code; jt = d; jf = 0; k = s.literal }))
  one_branch_insn d e two o = kept Branch (Ok (record { code = s.code; jt = d; jf = 0; k = s.literal })) e (λ t. one_branch ls index s.code s.literal s.targets s.first s.second
      (targets_in item) d t h.targets two o)

  pub two_branch_insn : (d m : ℕ) → s.fields ≡ Branch → s.targets ≡ 2 → IsOffset ls index true s.first (Ok d)
      → IsOffset ls index true s.second (Ok m)
      → IsInsn (Ok (record { code = s.code; jt = d; jf = m; k = s.literal }))
  two_branch_insn d m e two o p = kept Branch (Ok (record { code = s.code; jt = d; jf = m; k = s.literal })) e (λ t. two_branch ls index s.code s.literal s.targets s.first s.second
      (targets_in item) d m t h.targets two o p)

  pub first_refused : (f : Fields) (r : AsmKind × ℕ) → s.fields ≡ f → (f ≡ Constant → ⊥)
      → IsOffset ls index (is_conditional f) s.first (Err r) → IsInsn (Err r)
  first_refused f r e jumps o = kept f (Err r) e (λ t. first ls index s.code s.literal s.targets s.first s.second f
      (targets_in item) r t h.targets jumps o)

  pub second_refused : (d : ℕ) (r : AsmKind × ℕ) → s.fields ≡ Branch → s.targets ≡ 2
      → IsOffset ls index true s.first (Ok d) → IsOffset ls index true s.second (Err r) → IsInsn (Err r)
  second_refused d r e two o p = kept Branch (Err r) e (λ _. second ls index s.code s.literal s.targets s.first s.second
      (targets_in item) d r h.targets two o p)
