use Rattle.std.proofs.Common.{◌≡◌, map, take, None}
use Rattle.cbpf_command_line.specs.CommandLine.{text_of}
use Rattle.cbpf_tool.specs.Requests.{no_value, values_by}
use Rattle.cbpf_tool.proofs.request.values_of.Given as goal

abbrev pub invariant-loop-word : goal.invariant-loop-word
invariant-loop-word l = record {
  set : l.values ≡ values_by (map text_of (take l.word-index l.words));
  read : no_value (map text_of (take l.word-index l.words)) ≡ None;
}
