use Rattle.std.proofs.Common.{take}
use Rattle.std.specs.List.{flat_map}
use Rattle.cbpf_code.specs.Writing.{Appended}
use Rattle.cbpf_why.specs.Graph.{label_byte}
use Rattle.cbpf_why.proofs.block_nodes.write_label.Given as goal

abbrev pub invariant-loop-b : goal.invariant-loop-b
invariant-loop-b g l = Appended (g.W.Write.contents l.fn.w) (g.W.Write.contents l.w) (flat_map label_byte (take l.b-index l.text))
