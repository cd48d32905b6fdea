use Rattle.std.proofs.Common.{◌≡◌, map, take}
use Rattle.cbpf_command_line.specs.CommandLine.{text_of}
use Rattle.cbpf_command_line.proofs.why.owned.Given as goal

abbrev pub invariant-loop-text : goal.invariant-loop-text
invariant-loop-text l = map text_of l.own.items ≡ map (λ s. s.now) (take l.text-index l.texts)
