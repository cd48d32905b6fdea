use Rattle.std.proofs.Common.{◌≡◌, ◌≤◌, ◌-◌, length, take}
use Rattle.std.specs.List.{suffix_len}
use Rattle.cbpf_code.specs.WordTokens.{is_blank}
use Rattle.cbpf_tool.proofs.line_words.trim_end.Given as goal

abbrev pub invariant-loop-end : goal.invariant-loop-end
invariant-loop-end l = record {
  within : l.end ≤ length l.text;
  run : length l.text - suffix_len is_blank l.text ≡ l.end - suffix_len is_blank (take l.end l.text);
}

abbrev pub decreases-loop-end : goal.decreases-loop-end
decreases-loop-end l = l.end
