-- Masks of slots of scratch memory, a bit for each slot (Documentation/networking/filter, "BPF engine and instruction
-- set"). No public clause names it.
use Rattle.std.specs.Prelude.{◌≡◌, ◌≢◌, ◌⊎◌, ℕ, ◌<◌, IsTrue, List, length, slice_index}
use Rattle.std.specs.Int.{bit_at}
use Rattle.cbpf_code.specs.declared.insn.Insn.{Insn}
use Rattle.cbpf_code.specs.declared.opcode.Op.{Op}
use Rattle.cbpf_code.specs.declared.checker.TheConstants.{SLOTS}
use Rattle.cbpf_code.specs.ControlFlow.{stores_slot}

-- slot s is in a mask
abbrev pub InMask : ℕ → ℕ → Type 0
InMask mask s = bit_at mask s ≡ 1

-- slot s is in the mask of instruction t
abbrev pub InMaskOf : List ℕ → ℕ → ℕ → Type 0
InMaskOf masks t s = InMask (slice_index masks t) s

-- the mask `after` has those slots of `mask` into which the instruction stores nothing
pub record LeavesUnwritten (mask : ℕ) (op : Op) (insn : Insn) (after : ℕ) : Type 0 where
  pub kept : (s : ℕ) → s < SLOTS → InMask mask s → (IsTrue (stores_slot op) → insn.k ≢ s) → InMask after s
  pub only : (s : ℕ) → s < SLOTS → InMask after s → InMask mask s
  pub stored : (s : ℕ) → s < SLOTS → InMask after s → IsTrue (stores_slot op) → insn.k ≢ s

-- a mask was added to the masks of the instructions To, and to no other
pub record AddsToMasks (old new : List ℕ) (added_mask : ℕ) (To : ℕ → Type 0) : Type 0 where
  pub long : length new ≡ length old
  pub kept : (t s : ℕ) → InMaskOf old t s → InMaskOf new t s
  pub added : (t s : ℕ) → To t → InMask added_mask s → InMaskOf new t s
  pub only : (t s : ℕ) → InMaskOf new t s → InMaskOf old t s ⊎ (To t × InMask added_mask s)
