use Rattle.std.proofs.Common.{◌≡◌, take, false}
use Rattle.cbpf_tool.specs.Lines.{has_newline}
use Rattle.cbpf_tool.proofs.line_reader.newline_in.Given as goal

abbrev pub invariant-loop-i : goal.invariant-loop-i
invariant-loop-i l = has_newline (take l.i l.bytes) ≡ false
