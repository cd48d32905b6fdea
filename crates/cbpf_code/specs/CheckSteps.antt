-- What the passes of the checker promise one another; the rules themselves are those of Faults (bpf(4), "FILTER
-- MACHINE"). No public clause names it.
use Rattle.std.specs.Prelude.{ℕ, ◌<◌, ◌≤◌, List, length}
use Rattle.cbpf_code.specs.declared.insn.Insn.{Insn}
use Rattle.cbpf_code.specs.declared.opcode.Op.{Op}
use Rattle.cbpf_code.specs.declared.checker.CheckFault.{CheckFault}
use Rattle.cbpf_code.specs.declared.checker.CheckFault.TheVariants.{NoSlot, ZeroDivisor, WideShift}
use Rattle.cbpf_code.specs.declared.checker.CheckFault.TheVariants.{JumpOutside, UnknownExtension}
use Rattle.cbpf_code.specs.declared.checker.TheConstants.{MAX_INSTRUCTIONS}
use Rattle.cbpf_code.specs.Faults.{HasFault, rank, NamesNoSlot, DividesByZero, ShiftsTooFar, JumpsOutside}
use Rattle.cbpf_code.specs.Faults.{LoadsUnknownExtension}

-- an instruction of a known code, at i of n, has a fault of this kind by itself, whatever index the fault names
abbrev pub InsnHasFault : Op → Insn → ℕ → ℕ → CheckFault → Type 0
InsnHasFault op insn i n (NoSlot at) = NamesNoSlot op insn
InsnHasFault op insn i n (ZeroDivisor at) = DividesByZero op insn
InsnHasFault op insn i n (WideShift at) = ShiftsTooFar op insn
InsnHasFault op insn i n (JumpOutside at) = JumpsOutside op insn i n
InsnHasFault op insn i n (UnknownExtension at) = LoadsUnknownExtension op insn
InsnHasFault op insn i n _ = ⊥

-- it has none
abbrev pub IsAllowed : Op → Insn → ℕ → ℕ → Type 0
IsAllowed op insn i n = (e : CheckFault) → InsnHasFault op insn i n e → ⊥

-- no fault but C10, which has rank 4, is there, so that each path ends at a return
pub record IsWellFormed (list : List Insn) : Type 0 where
  pub few : length list ≤ MAX_INSTRUCTIONS
  pub none : (e : CheckFault) → rank e < 4 → HasFault list e → ⊥
