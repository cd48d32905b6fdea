-- Masks of slots: one mask, and the masks of all instructions.
use Rattle.std.proofs.Common.{◌≡◌, ℕ, Some, ◌+◌, ◌*◌, ◌%◌, ◌^◌, ◌<◌, List, length, arith, refl, sym, ◌∙◌, inl, inr}
use Rattle.std.specs.Prelude.{◌⊎◌, IsTrue, slice_set, slice_index, bit_and, bit_or}
use Rattle.std.specs.Int.{bit_not, w16}
use Rattle.std.proofs.lemmas.Bool.{cases_eq}
use Rattle.std.proofs.lemmas.Nat.Bits.{bit_at_or, bit_at-lt, bit_at_clear_same, bit_at_clear_other}
use Rattle.std.proofs.lemmas.List.{get_or-set_other}
use Rattle.std.proofs.lemmas.Grind.{get_or-set_at}
use Rattle.std.proofs.Math.ListN.{length-set}
use Rattle.cbpf_code.specs.declared.insn.Insn.{Insn}
use Rattle.cbpf_code.specs.declared.opcode.Op.{Op}
use Rattle.cbpf_code.specs.declared.opcode.Op.TheVariants.{Ja, Jump, RetK, RetA}
use Rattle.cbpf_code.specs.declared.checker.TheConstants.{SLOTS}
use Rattle.cbpf_code.specs.ControlFlow.{successors, IsAmong, stores_slot}
use Rattle.cbpf_code.specs.SlotMasks.{InMask, LeavesUnwritten, AddsToMasks}

-- ---- one mask

in_mask-or : (a b s : ℕ) → InMask a s ⊎ InMask b s → InMask (bit_or a b) s
in_mask-or a b s h = grind (arith, bit_at-lt, bit_at_or)

in_or-mask : (a b s : ℕ) → InMask (bit_or a b) s → InMask a s ⊎ InMask b s
in_or-mask a b s h = grind (arith, bit_at_or, cases_eq)

pub leaves_unwritten-cleared : (mask : ℕ) (op : Op) (insn : Insn) → insn.k < SLOTS → IsTrue (stores_slot op)
    → LeavesUnwritten mask op insn (bit_and mask (bit_not w16 (1 * 2 ^ insn.k % 2 ^ 16)))
leaves_unwritten-cleared mask op insn within stores = record {
  kept = λ s small here away. bit_at_clear_other w16 mask insn.k within s small (λ e. away stores (sym e)) ∙ here;
  only = λ s small here.
      elim (cases_eq s insn.k) [
        | inl e ↦ absurd (gone s here e)
        | inr n ↦ sym (bit_at_clear_other w16 mask insn.k within s small n) ∙ here
      ];
  stored = λ s small here is e. gone s here (sym e);
}
  where
    gone : (s : ℕ) → InMask (bit_and mask (bit_not w16 (1 * 2 ^ insn.k % 2 ^ 16))) s → s ≡ insn.k → ⊥
    gone s here e = let off = bit_at_clear_same w16 mask insn.k within in let on = rw e at here in omega arith

-- ---- the masks of all instructions

pub adds_to_masks-one : (masks : List ℕ) (at mask : ℕ) → at < length masks
    → AddsToMasks masks (slice_set masks at (bit_or (slice_index masks at) mask)) mask (λ t. t ≡ at)
adds_to_masks-one masks at mask inside =
    grind (arith, length-set, cases_eq, get_or-set_at, in_mask-or, get_or-set_other, in_or-mask)

pub follows-next : (op : Op) (insn : Insn) (i : ℕ) → (op ≡ Ja → ⊥)
    → ((cond_is : _) (src : _) → op ≡ Jump cond_is src → ⊥) → (op ≡ RetK → ⊥) → (op ≡ RetA → ⊥)
    → IsAmong (successors (Some op) insn i) (i + 1)
follows-next Ja insn i a b c d = absurd (a refl)
follows-next (Jump k src) insn i a b c d = absurd (b k src refl)
follows-next RetK insn i a b c d = absurd (c refl)
follows-next RetA insn i a b c d = absurd (d refl)
follows-next _ insn i a b c d = inl refl
