-- What is decided: a property holds or not, by computing it. No axiom is used.
use Rattle.std.proofs.Common.{◌≡◌, ℕ, zero, suc, ◌<◌, ◌≤◌, Bool, true, false, List, arith, refl, subst, inl, inr}
use Rattle.std.specs.Prelude.{◌⊎◌, Option, Some, None, IsTrue, slice_get}
use Rattle.std.proofs.lemmas.Bool.{cases_eq, cases_lt}
use Rattle.cbpf_code.specs.declared.insn.Insn.{Insn}
use Rattle.cbpf_code.specs.declared.opcode.Op.{Op}
use Rattle.cbpf_code.specs.Opcode.{op_of}
use Rattle.cbpf_code.specs.ControlFlow.{InsnAt}

abbrev pub Decided : Type 0 → Type 0
Decided P = P ⊎ (P → ⊥)

pub is_true : (b : Bool) → Decided (IsTrue b)
is_true true = inl refl
is_true false = inr (λ h. absurd (cc))

pub at_most : (m n : ℕ) → Decided (m ≤ n)
at_most m n = elim (cases_lt n m) [ inl h ↦ inr (λ le. omega arith) | inr h ↦ inl h ]

pub both : {P Q : Type 0} → Decided P → Decided Q → Decided (P × Q)
both (inl p) (inl q) = inl (p, q)
both (inr n) d = inr (λ h. n h.0)
both (inl p) (inr n) = inr (λ h. n h.1)

pub either : {P Q : Type 0} → Decided P → Decided Q → Decided (P ⊎ Q)
either (inl p) d = inl (inl p)
either (inr n) (inl q) = inl (inr q)
either (inr n) (inr m) = inr (λ h. elim h [ inl p ↦ n p | inr q ↦ m q ])

pub not : {P : Type 0} → Decided P → Decided (P → ⊥)
not (inl p) = inr (λ never. never p)
not (inr n) = inl n

-- the least number below n with a property, or that there is none
pub least : (P : ℕ → Type 0) (n : ℕ) → ((j : ℕ) → j < n → Decided (P j))
    → ((j : ℕ) × (j < n) × P j × ((h : ℕ) → h < j → P h → ⊥)) ⊎ ((j : ℕ) → j < n → P j → ⊥)
least P zero decided = inr (λ j below h. omega arith)
least P (suc n) decided =
    elim (least P n (λ j below. decided j (omega arith))) [
      | inl found ↦ inl (found.0, omega arith, found.2, found.3)
      | inr none ↦ elim (decided n (omega arith)) [
        | inl last ↦ inl (n, omega arith, last, none)
        | inr never ↦ inr (λ j below h. elim (cases_eq j n) [
          | inl e ↦ never (subst P e h)
          | inr ne ↦ none j (omega arith) h
        ])
      ]
    ]

-- ---- an instruction of a list

-- what an option has, if it has it
pub found : {X : Type 0} (o : Option X) (P : X → Type 0) → ((x : X) → Decided (P x))
    → Decided ((x : X) × (o ≡ Some x) × P x)
found None P decided = inr (λ a. let some = a.1 in absurd (cc))
found (Some x) P decided = elim (decided x) [
  | inl has ↦ inl (x, refl, has)
  | inr never ↦ inr (λ a. let same : a.0 ≡ x = cc in never (subst P same a.2))
]

pub insn_at : (list : List Insn) (i : ℕ) (Has : Op → Insn → Type 0) → ((op : Op) (insn : Insn) → Decided (Has op insn))
    → Decided (InsnAt list i Has)
insn_at list i Has decided =
    elim (found (slice_get list i) _ (λ insn. found (op_of insn.code) _ (λ op. decided op insn))) [
      | inl h ↦ inl (h.0, h.2.0, h.1, h.2.1, h.2.2)
      | inr never ↦ inr (λ h. never (h.0, h.2, (h.1, h.3, h.4)))
    ]

pub is_none : {X : Type 0} (o : Option X) → Decided (o ≡ None)
is_none None = inl refl
is_none (Some x) = inr (λ h. absurd (cc))
