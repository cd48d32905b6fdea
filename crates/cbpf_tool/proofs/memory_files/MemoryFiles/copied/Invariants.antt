use Rattle.std.proofs.Common.{◌≡◌, map}
use Rattle.std.specs.Ordering.{nat_cmp}
use Rattle.std.specs.Cmp.Lexicographic.{slice_cmp}
use Rattle.std.specs.FinMap.{get, find}
use Rattle.std.specs.VecDeque.Iter.{deque_iter_rest}
use Rattle.cbpf_tool.proofs.memory_files.MemoryFiles.copied.Given as goal

abbrev pub invariant-loop-entry : goal.invariant-loop-entry
invariant-loop-entry g l =
    (goal.iterator-loop-entry g).can_next l.entry-iterator ×
    (goal.iterator-loop-entry g).is_finite l.entry-iterator ×
    (get l.fn.self.files l.name
    ≡ find (slice_cmp nat_cmp) l.name (map (λ e. (e.0.items, e.1.items)) (deque_iter_rest l.entry-iterator)))
