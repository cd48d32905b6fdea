-- Checked lists: those in which a checker finds no fault (bpf(4), "FILTER MACHINE").
use Rattle.std.specs.Prelude.{List}
use Rattle.cbpf_code.specs.declared.insn.Insn.{Insn}
use Rattle.cbpf_code.specs.declared.checker.CheckFault.{CheckFault}
use Rattle.cbpf_code.specs.Faults.{HasFault}

-- a list without a fault
pub record IsSound (list : List Insn) : Type 0 where
  pub none : (e : CheckFault) → HasFault list e → ⊥
