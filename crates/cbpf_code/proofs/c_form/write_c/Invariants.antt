use Rattle.std.proofs.Common.{take}
use Rattle.std.specs.List.{flat_map}
use Rattle.cbpf_code.specs.Writing.{Appended}
use Rattle.cbpf_code.specs.CForm.{c_line}
use Rattle.cbpf_code.proofs.c_form.write_c.Given as goal

abbrev pub invariant-loop-insn : goal.invariant-loop-insn
invariant-loop-insn g l =
    Appended (g.W.Write.contents l.initial.w) (g.W.Write.contents l.w) (flat_map c_line (take l.insn-index l.list))
