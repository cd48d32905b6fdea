use Rattle.std.proofs.Common.{take, string_bytes}
use Rattle.std.specs.List.{flat_map}
use Rattle.std.specs.Option.{option_map}
use Rattle.cbpf_code.specs.Writing.{Appended}
use Rattle.cbpf_tool.specs.Remarks.{lacking, lacking_line}
use Rattle.cbpf_tool.proofs.remarks.write_lacking_lines.Given as goal

abbrev pub invariant-loop-range : goal.invariant-loop-range
invariant-loop-range g l = Appended (g.W.Write.contents l.fn.w) (g.W.Write.contents l.w)
    (flat_map (λ range. lacking_line (option_map (λ n. string_bytes n) l.capture) (lacking l.count range))
    (take l.range-index l.ranges))
