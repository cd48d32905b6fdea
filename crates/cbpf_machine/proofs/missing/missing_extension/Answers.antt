use Rattle.std.proofs.Common.{◌≡◌, arith}
use Rattle.std.specs.Prelude.{None}
use Rattle.cbpf_code.specs.Extension.{ext_at}
use Rattle.cbpf_machine.proofs.AskedLemmas.{asked_turn, asked_none, without}
use Rattle.cbpf_machine.proofs.missing.missing_extension.Goals as goal

pub returns-in_err-e : goal.returns-in_err-e
returns-in_err-e c = λ list bytes wire s here.
    let none : without c.args.values.now (ext_at c.args.insn.k) ≡ None = grind arith in
    rw (← asked_turn list _ bytes wire s _ here, c.from_residual.ensures) (asked_none _ _ _ none)

pub returns-in_err-op : goal.returns-in_err-op
returns-in_err-op c = λ list bytes wire s here. rw (← asked_turn list _ bytes wire s _ here) (grind arith)

pub returns-then-is_absolute_load : goal.returns-then-is_absolute_load
returns-then-is_absolute_load c = λ list bytes wire s here.
    rw (← asked_turn list _ bytes wire s _ here) (grind arith)

pub returns-else-is_absolute_load : goal.returns-else-is_absolute_load
returns-else-is_absolute_load c = λ list bytes wire s here.
    rw (← asked_turn list _ bytes wire s _ here) (grind arith)

pub returns-then-is_some : goal.returns-then-is_some
returns-then-is_some c = λ list bytes wire s here.
    let none : without c.args.values.now (ext_at c.args.insn.k) ≡ None = grind arith in
    rw (← asked_turn list _ bytes wire s _ here) (asked_none _ _ _ none)
