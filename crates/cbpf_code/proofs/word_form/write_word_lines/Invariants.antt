use Rattle.std.proofs.Common.{take, length, ◌-◌, ◌≤◌}
use Rattle.std.specs.List.{flat_map}
use Rattle.cbpf_code.specs.Writing.{Appended}
use Rattle.cbpf_code.specs.WordForm.{word_line}
use Rattle.cbpf_code.proofs.word_form.write_word_lines.Given as goal

abbrev pub invariant-loop-i : goal.invariant-loop-i
invariant-loop-i g l =
    Appended (g.W.Write.contents l.initial.w) (g.W.Write.contents l.w) (flat_map word_line (take l.i l.list))
    × (l.i ≤ length l.list)

abbrev pub decreases-loop-i : goal.decreases-loop-i
decreases-loop-i g l = length l.list - l.i
