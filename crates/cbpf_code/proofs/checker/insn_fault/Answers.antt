use Rattle.std.proofs.Common.{◌+◌, refl, arith, inl, inr}
use Rattle.cbpf_code.specs.ControlFlow.{IsAmong, jump_targets}
use Rattle.cbpf_code.proofs.checker.insn_fault.Goals as goal
use Rattle.cbpf_code.proofs.checker.insn_fault.Goals.{else-from-ahead-via-then-from-ahead+else-from-ahead-2}
use Rattle.cbpf_code.proofs.checker.insn_fault.Goals.{else-from-ahead-via-else-from-ahead}

pub returns-else-insn-ahead-clause-fault : goal.returns-else-insn-ahead-clause-fault
returns-else-insn-ahead-clause-fault c =
    let target : IsAmong (jump_targets c.args.op c.args.insn c.args.i) (c.args.i + 1 + c.args.insn.k) =
    rw c.in-Ja.is (inl refl) in
    ((_, target, omega arith), refl, refl)

pub returns-else-from-ahead-clause-fault : goal.returns-else-from-ahead-clause-fault
returns-else-from-ahead-clause-fault c = elim c.else-from-ahead.branch [
  | else-from-ahead-via-then-from-ahead+else-from-ahead-2 w ↦
      let target : IsAmong (jump_targets c.args.op c.args.insn c.args.i) (c.args.i + 1 + c.args.insn.jf) =
      rw c.in-Jump.is (inr (inl refl)) in
      ((_, target, omega arith), refl, refl)
  | else-from-ahead-via-else-from-ahead w ↦
      let target : IsAmong (jump_targets c.args.op c.args.insn c.args.i) (c.args.i + 1 + c.args.insn.jt) =
      rw c.in-Jump.is (inl refl) in
      ((_, target, omega arith), refl, refl)
]
