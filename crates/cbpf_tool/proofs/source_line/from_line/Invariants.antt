use Rattle.std.proofs.Common.{◌≡◌, ◌-◌}
use Rattle.cbpf_tool.specs.SourceLine.{after_newlines}
use Rattle.cbpf_tool.proofs.source_line.from_line.Given as goal

abbrev pub invariant-loop-left : goal.invariant-loop-left
invariant-loop-left l = after_newlines (l.number - 1) l.text ≡ after_newlines l.left l.rest

abbrev pub decreases-loop-left : goal.decreases-loop-left
decreases-loop-left l = l.left
