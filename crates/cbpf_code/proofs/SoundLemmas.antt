-- What a checked list says of its instructions, for those who run it.
use Rattle.std.proofs.Common.{◌≡◌, ℕ, ◌+◌, ◌-◌, ◌<◌, ◌≤◌, List, length, arith, refl, ap, ◌∙◌, inl, inr}
use Rattle.std.specs.Prelude.{◌⊎◌, IsTrue, Option, Some, None, slice_get}
use Rattle.std.proofs.lemmas.Option.{slice_get_within}
use Rattle.cbpf_code.specs.declared.insn.Insn.{Insn}
use Rattle.cbpf_code.specs.declared.opcode.Op.{Op}
use Rattle.cbpf_code.specs.declared.opcode.Op.TheVariants.{Ja, Jump, RetK, RetA}
use Rattle.cbpf_code.specs.declared.checker.CheckFault.TheVariants.{NoInstruction, TooMany, UnknownCode, NoSlot}
use Rattle.cbpf_code.specs.declared.checker.CheckFault.TheVariants.{ZeroDivisor, WideShift, JumpOutside}
use Rattle.cbpf_code.specs.declared.checker.CheckFault.TheVariants.{UnknownExtension, NoReturn}
use Rattle.cbpf_code.specs.declared.checker.TheConstants.{MAX_INSTRUCTIONS, SLOTS}
use Rattle.cbpf_code.specs.declared.extension.TheConstants.{FIRST_EXTENSION}
use Rattle.cbpf_code.specs.Opcode.{op_of}
use Rattle.cbpf_code.specs.Extension.{ext_at}
use Rattle.cbpf_code.specs.ControlFlow.{successors, jump_targets, IsAmong}
use Rattle.cbpf_code.specs.Faults.{uses_slot, divides_by_k, shifts_by_k, loads_absolute}
use Rattle.cbpf_code.specs.Sound.{IsSound}
use Rattle.cbpf_code.specs.CheckSteps.{IsWellFormed}

pub known_or : (o : Option Op) → (o ≡ None) ⊎ ((op : Op) × (o ≡ Some op))
known_or None = inl refl
known_or (Some op) = inr (op, refl)

-- what the absence of C4 to C8 says of an instruction at i of n
pub record Allowed (op : Op) (insn : Insn) (i n : ℕ) : Type 0 where
  pub slot : IsTrue (uses_slot op) → insn.k < SLOTS
  pub divisor : IsTrue (divides_by_k op) → 0 < insn.k
  pub shift : IsTrue (shifts_by_k op) → insn.k < 32
  pub targets : (t : ℕ) → IsAmong (jump_targets op insn i) t → t < n
  pub extension : IsTrue (loads_absolute op) → FIRST_EXTENSION ≤ insn.k → ext_at insn.k ≡ None → ⊥

-- ---- where C1 to C9 are absent

pub formed_known : (list : List Insn) (i : ℕ) (insn : Insn) → IsWellFormed list → slice_get list i ≡ Some insn
    → (op : Op) × (op_of insn.code ≡ Some op)
formed_known list i insn formed here = elim (known_or (op_of insn.code)) [
  | inl none ↦ absurd (formed.none (UnknownCode i) (omega arith) (insn, here, none))
  | inr known ↦ known
]

pub formed_allowed : (list : List Insn) (i : ℕ) (insn : Insn) (op : Op) → IsWellFormed list
    → slice_get list i ≡ Some insn → op_of insn.code ≡ Some op → Allowed op insn i (length list)
formed_allowed list i insn op formed here known = record {
  slot = λ names.
      let never = λ (h : SLOTS ≤ insn.k). formed.none (NoSlot i) (omega arith) (insn, op, here, known, (names, h)) in
      omega arith;
  divisor = λ divides.
      let never = λ (h : insn.k ≡ 0). formed.none (ZeroDivisor i) (omega arith) (insn, op, here, known, (divides, h)) in
      omega arith;
  shift = λ shifts.
      let never = λ (h : 32 ≤ insn.k). formed.none (WideShift i) (omega arith) (insn, op, here, known, (shifts, h)) in
      omega arith;
  targets = λ t target.
      let never = λ (h : length list ≤ t).
      formed.none (JumpOutside i) (omega arith) (insn, op, here, known, (t, target, h)) in
      omega arith;
  extension = λ loads far none.
      formed.none (UnknownExtension i) (omega arith) (insn, op, here, known, (loads, far, none));
}

allowed_next : (op : Op) (insn : Insn) (i n t : ℕ) → Allowed op insn i n → i < n
    → (i + 1 ≡ n → ((op ≡ RetK) ⊎ (op ≡ RetA) → ⊥) → ⊥) → IsAmong (successors (Some op) insn i) t → t < n
allowed_next Ja insn i n t allowed below last h = allowed.targets t h
allowed_next (Jump cond src) insn i n t allowed below last h = allowed.targets t h
allowed_next RetK insn i n t allowed below last h = absurd h
allowed_next RetA insn i n t allowed below last h = absurd h
allowed_next _ insn i n t allowed below last h =
    let never = λ (e : i + 1 ≡ n). last e (λ r. elim r [ inl a ↦ cc | inr b ↦ cc ]) in
    elim h [ inl e ↦ omega (arith, e) | inr n ↦ absurd n ]

pub formed_next : (list : List Insn) (i : ℕ) (insn : Insn) (op : Op) → IsWellFormed list
    → slice_get list i ≡ Some insn → op_of insn.code ≡ Some op → (t : ℕ) → IsAmong (successors (Some op) insn i) t
    → t < length list
formed_next list i insn op formed here known t follows =
    allowed_next op insn i (length list) t (formed_allowed list i insn op formed here known)
    (slice_get_within list i insn here)
    (λ last never.
    let at_end : length list - 1 ≡ i = omega arith in
    formed.none NoReturn (omega arith) (
      insn,
      ap (slice_get list) at_end ∙ here,
      λ r. never (elim r [ inl a ↦ inl (cc) | inr b ↦ inr (cc) ]),
    ))
    follows

-- ---- a checked list

pub sound_few : (list : List Insn) → IsSound list → length list ≤ MAX_INSTRUCTIONS
sound_few list sound = let never : MAX_INSTRUCTIONS < length list → ⊥ = sound.none TooMany in omega arith

pub sound_some : (list : List Insn) → IsSound list → 0 < length list
sound_some list sound = let never : length list ≡ 0 → ⊥ = sound.none NoInstruction in omega arith

well_formed : (list : List Insn) → IsSound list → IsWellFormed list
well_formed list sound = record { few = sound_few list sound; none = λ e low has. sound.none e has }

pub sound_known : (list : List Insn) (i : ℕ) (insn : Insn) → IsSound list → slice_get list i ≡ Some insn
    → (op : Op) × (op_of insn.code ≡ Some op)
sound_known list i insn sound here = formed_known list i insn (well_formed list sound) here

pub sound_allowed : (list : List Insn) (i : ℕ) (insn : Insn) (op : Op) → IsSound list → slice_get list i ≡ Some insn
    → op_of insn.code ≡ Some op → Allowed op insn i (length list)
sound_allowed list i insn op sound here known = formed_allowed list i insn op (well_formed list sound) here known

-- what follows an instruction of a checked program is one of its indices
pub sound_next : (list : List Insn) (i : ℕ) (insn : Insn) (op : Op) → IsSound list → slice_get list i ≡ Some insn
    → op_of insn.code ≡ Some op → (t : ℕ) → IsAmong (successors (Some op) insn i) t → t < length list
sound_next list i insn op sound here known = formed_next list i insn op (well_formed list sound) here known
