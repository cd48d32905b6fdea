use Rattle.std.proofs.Common.{◌≡◌, ◌≤◌, ◌*◌, drop, length}
use Rattle.std.specs.List.{flat_map}
use Rattle.cbpf_code.specs.WordForm.{word_line}
use Rattle.cbpf_code.specs.declared.word_form.TheConstants.{LINES, LONGEST_LINE}
use Rattle.cbpf_code.proofs.word_form.prepend_word_lines.Given as goal

abbrev pub invariant-loop-i : goal.invariant-loop-i
invariant-loop-i l = (LONGEST_LINE * l.i ≤ l.at) × (l.at ≤ LINES * LONGEST_LINE) × (l.i ≤ length l.list)
    × (drop l.at l.text ≡ flat_map word_line (drop l.i l.list))

abbrev pub decreases-loop-i : goal.decreases-loop-i
decreases-loop-i l = l.i
