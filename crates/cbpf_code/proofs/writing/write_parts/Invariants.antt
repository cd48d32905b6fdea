use Rattle.std.proofs.Common.{take}
use Rattle.std.specs.List.{flat_map}
use Rattle.cbpf_code.specs.Writing.{Appended}
use Rattle.cbpf_code.proofs.writing.write_parts.Given as goal

abbrev pub invariant-loop-part : goal.invariant-loop-part
invariant-loop-part g l = Appended (g.W.Write.contents l.initial.w) (g.W.Write.contents l.w)
    (flat_map (λ p. p.now) (take l.part-index l.parts))
