use Rattle.std.proofs.Common.{◌+◌, refl, inl, inr, arith}
use Rattle.cbpf_code.proofs.SlotMaskLemmas.{follows-next}
use Rattle.cbpf_code.proofs.slots.propagate.Goals as goal

pub add_to_mask-requires : goal.add_to_mask-requires
add_to_mask-requires c = c.requires.inside _ (rw c.in-Ja.is (inl refl))

pub add_to_mask-requires-in-Jump : goal.add_to_mask-requires-in-Jump
add_to_mask-requires-in-Jump c =
    let there = c.requires.inside (c.args.i + 1 + c.args.insn.jt) (rw c.in-Jump.is (inl refl)) in
    omega (arith, c.from.ensures)

pub add_to_mask-requires-in-Jump-2 : goal.add_to_mask-requires-in-Jump-2
add_to_mask-requires-in-Jump-2 c =
    let there = c.requires.inside (c.args.i + 1 + c.args.insn.jf) (rw c.in-Jump.is (inr (inl refl))) in
    omega (arith, c.from-in-Jump.ensures, c.add_to_mask-in-Jump.ensures.long)

pub add_to_mask-requires-in_default : goal.add_to_mask-requires-in_default
add_to_mask-requires-in_default c = c.requires.inside _ (follows-next c.args.op c.args.insn c.args.i
    c.in_default.not-Ja c.in_default.not-Jump c.in_default.not-RetK c.in_default.not-RetA)
