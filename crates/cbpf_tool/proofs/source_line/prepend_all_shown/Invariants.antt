use Rattle.std.proofs.Common.{◌≡◌, ◌≤◌, ◌+◌, ◌-◌, ◌*◌, ◌++◌, length, drop}
use Rattle.std.specs.List.{flat_map}
use Rattle.cbpf_tool.specs.SourceLine.{shown_byte}
use Rattle.cbpf_tool.proofs.source_line.prepend_all_shown.Given as goal

abbrev pub invariant-loop-i : goal.invariant-loop-i
invariant-loop-i l = record {
  within : l.i ≤ length l.bytes;
  grown : length l.line ≤ length l.fn.line + 4 * (length l.bytes - l.i);
  text : l.line ≡ flat_map shown_byte (drop l.i l.bytes) ++ l.fn.line;
}

abbrev pub decreases-loop-i : goal.decreases-loop-i
decreases-loop-i l = l.i
