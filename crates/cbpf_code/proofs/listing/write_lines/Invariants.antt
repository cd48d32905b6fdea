use Rattle.std.proofs.Common.{take}
use Rattle.std.specs.List.{flat_map, enumerate_from}
use Rattle.cbpf_code.specs.Writing.{Appended}
use Rattle.cbpf_code.specs.Listing.{numbered_line}
use Rattle.cbpf_code.proofs.listing.write_lines.Given as goal

abbrev pub invariant-loop-i : goal.invariant-loop-i
invariant-loop-i g l = Appended (g.W.Write.contents l.initial.w) (g.W.Write.contents l.w)
    (flat_map numbered_line (take l.i (enumerate_from 0 l.p)))
