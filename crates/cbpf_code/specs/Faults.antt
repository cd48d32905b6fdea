-- What a checker refuses in a list of instructions, and which refusal it reports first (bpf(4), "FILTER
-- MACHINE": branches lead forward and inside, and the end is a return; which further faults there are, and
-- their order, is this project's).
use Rattle.std.specs.Prelude.{◌≡◌, ◌⊎◌, ℕ, ◌-◌, ◌<◌, ◌≤◌, Bool, true, false, IsTrue, List, Some, None, length}
use Rattle.std.specs.Prelude.{slice_get}
use Rattle.cbpf_code.specs.declared.insn.Insn.{Insn}
use Rattle.cbpf_code.specs.declared.opcode.Op.{Op}
use Rattle.cbpf_code.specs.declared.opcode.Op.TheVariants.{LdAbs, LdMem, LdxMem, St, Stx, Alu, RetK, RetA}
use Rattle.cbpf_code.specs.declared.opcode.AluOp.TheVariants.{Div, Mod, Lsh, Rsh}
use Rattle.cbpf_code.specs.declared.opcode.Src.TheVariants.{K}
use Rattle.cbpf_code.specs.declared.checker.TheConstants.{MAX_INSTRUCTIONS, SLOTS}
use Rattle.cbpf_code.specs.declared.extension.TheConstants.{FIRST_EXTENSION}
use Rattle.cbpf_code.specs.declared.checker.CheckFault.{CheckFault}
use Rattle.cbpf_code.specs.declared.checker.CheckFault.TheVariants.{NoInstruction, TooMany, UnknownCode, NoSlot}
use Rattle.cbpf_code.specs.declared.checker.CheckFault.TheVariants.{ZeroDivisor, WideShift, JumpOutside}
use Rattle.cbpf_code.specs.declared.checker.CheckFault.TheVariants.{UnknownExtension, NoReturn, UnwrittenSlot}
use Rattle.cbpf_code.specs.Opcode.{op_of}
use Rattle.cbpf_code.specs.Extension.{ext_at}
use Rattle.cbpf_code.specs.ControlFlow.{InsnAt, jump_targets, IsAmong, loads_slot, MayBeUnwritten}

-- operations whose k is a slot of scratch memory
abbrev pub uses_slot : Op → Bool
uses_slot LdMem = true
uses_slot LdxMem = true
uses_slot St = true
uses_slot Stx = true
uses_slot _ = false

-- whether an operation divides by its constant
abbrev pub divides_by_k : Op → Bool
divides_by_k (Alu Div K) = true
divides_by_k (Alu Mod K) = true
divides_by_k _ = false

-- whether an operation shifts by its constant
abbrev pub shifts_by_k : Op → Bool
shifts_by_k (Alu Lsh K) = true
shifts_by_k (Alu Rsh K) = true
shifts_by_k _ = false

-- whether an operation loads from an offset that is its constant
abbrev pub loads_absolute : Op → Bool
loads_absolute (LdAbs size) = true
loads_absolute _ = false

-- a return of a number or of A
abbrev pub IsReturn : Insn → Type 0
IsReturn insn = (op_of insn.code ≡ Some RetK) ⊎ (op_of insn.code ≡ Some RetA)

-- C4: the slot isn't one of scratch memory
abbrev pub NamesNoSlot : Op → Insn → Type 0
NamesNoSlot op insn = IsTrue (uses_slot op) × (SLOTS ≤ insn.k)

-- C5: the divisor is the constant 0
abbrev pub DividesByZero : Op → Insn → Type 0
DividesByZero op insn = IsTrue (divides_by_k op) × (insn.k ≡ 0)

-- C6: the shift is by a constant of 32 or more
abbrev pub ShiftsTooFar : Op → Insn → Type 0
ShiftsTooFar op insn = IsTrue (shifts_by_k op) × (32 ≤ insn.k)

-- C7: a target of the instruction at index i isn't one of n instructions
abbrev pub JumpsOutside : Op → Insn → ℕ → ℕ → Type 0
JumpsOutside op insn i n = (t : ℕ) × IsAmong (jump_targets op insn i) t × (n ≤ t)

-- C8: an absolute load whose k is 0xfffff000 or more, and no extension has this number
abbrev pub LoadsUnknownExtension : Op → Insn → Type 0
LoadsUnknownExtension op insn = IsTrue (loads_absolute op) × (FIRST_EXTENSION ≤ insn.k) × (ext_at insn.k ≡ None)

-- the order of reports: by rank, and of one rank by the instruction's index; C3 to C8 have rank 2
abbrev pub rank : CheckFault → ℕ
rank NoInstruction = 0
rank TooMany = 1
rank NoReturn = 3
rank (UnwrittenSlot i) = 4
rank _ = 2

-- the index of the instruction that a fault is about; a fault of the whole list stands at 0
abbrev pub index_of : CheckFault → ℕ
index_of (UnknownCode i) = i
index_of (NoSlot i) = i
index_of (ZeroDivisor i) = i
index_of (WideShift i) = i
index_of (JumpOutside i) = i
index_of (UnknownExtension i) = i
index_of (UnwrittenSlot i) = i
index_of _ = 0

-- a list has a fault, from C1 to C10 in this order
abbrev pub HasFault : List Insn → CheckFault → Type 0
HasFault list NoInstruction = length list ≡ 0
HasFault list TooMany = MAX_INSTRUCTIONS < length list
HasFault list (UnknownCode i) = (insn : Insn) × (slice_get list i ≡ Some insn) × (op_of insn.code ≡ None)
HasFault list (NoSlot i) = InsnAt list i (λ op insn. NamesNoSlot op insn)
HasFault list (ZeroDivisor i) = InsnAt list i (λ op insn. DividesByZero op insn)
HasFault list (WideShift i) = InsnAt list i (λ op insn. ShiftsTooFar op insn)
HasFault list (JumpOutside i) = InsnAt list i (λ op insn. JumpsOutside op insn i (length list))
HasFault list (UnknownExtension i) = InsnAt list i (λ op insn. LoadsUnknownExtension op insn)
HasFault list NoReturn = (insn : Insn) × (slice_get list (length list - 1) ≡ Some insn) × (IsReturn insn → ⊥)
HasFault list (UnwrittenSlot i) = InsnAt list i (λ op insn. IsTrue (loads_slot op) × MayBeUnwritten list insn.k i)

-- the first fault is reported before the second
abbrev pub IsEarlier : CheckFault → CheckFault → Type 0
IsEarlier e f = (rank e < rank f) ⊎ ((rank e ≡ rank f) × (index_of e < index_of f))

-- the list has this fault and no earlier one
pub record FirstFault (list : List Insn) (e : CheckFault) : Type 0 where
  pub present : HasFault list e
  pub none_earlier : (f : CheckFault) → IsEarlier f e → HasFault list f → ⊥
