use Rattle.std.proofs.Common.{◌≡◌, map, drop}
use Rattle.std.specs.Ordering.{nat_cmp}
use Rattle.std.specs.Cmp.Lexicographic.{slice_cmp}
use Rattle.std.specs.FinMap.{get, find}
use Rattle.cbpf_tool.specs.FileMap.{files_of}
use Rattle.cbpf_tests.proofs.memory_host.bytes_of.Given as goal

abbrev pub invariant-loop-file : goal.invariant-loop-file
invariant-loop-file l = get (files_of (map (λ f. (f.0.now, f.1.now)) l.files)) l.name
    ≡ find (slice_cmp nat_cmp) l.name (map (λ f. (f.0.now, f.1.now)) (drop l.file-index l.files))
