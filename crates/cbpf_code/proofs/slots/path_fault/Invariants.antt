use Rattle.cbpf_code.proofs.PathLemmas.{TracksPaths}
use Rattle.cbpf_code.proofs.slots.path_fault.Given as goal

-- the masks hold the paths through the instructions so far
abbrev pub invariant-loop-i : goal.invariant-loop-i
invariant-loop-i l = TracksPaths l.list l.i l.unwritten
