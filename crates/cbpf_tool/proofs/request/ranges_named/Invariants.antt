use Rattle.std.proofs.Common.{◌≡◌, map, take, None}
use Rattle.std.specs.List.{filter_map}
use Rattle.cbpf_command_line.specs.CommandLine.{text_of}
use Rattle.cbpf_tool.specs.Requests.{no_packets, packet_range}
use Rattle.cbpf_tool.proofs.request.ranges_named.Given as goal

abbrev pub invariant-loop-word : goal.invariant-loop-word
invariant-loop-word l = record {
  named : l.ranges.items ≡ filter_map packet_range (map text_of (take l.word-index l.words));
  read : no_packets (map text_of (take l.word-index l.words)) ≡ None;
}
