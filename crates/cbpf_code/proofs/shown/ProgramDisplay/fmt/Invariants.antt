use Rattle.std.proofs.Common.{take}
use Rattle.std.specs.List.{flat_map, enumerate_from}
use Rattle.std.specs.Fmt.{HasWritten, IsPlainFormatter}
use Rattle.cbpf_code.specs.Listing.{numbered_line}
use Rattle.cbpf_code.proofs.shown.ProgramDisplay.fmt.Given as goal

abbrev pub invariant-loop-i : goal.invariant-loop-i
invariant-loop-i g l =
    IsPlainFormatter l.initial.f → HasWritten g.W.Write.write_str_gives l.initial.f
    (flat_map numbered_line (take l.i (enumerate_from 0 l.initial.self))) l.f
