use Rattle.std.proofs.Common.{◌≡◌, ◌<◌, ℕ, length, take}
use Rattle.std.specs.Prelude.{false, ◌||◌, ◌==◌, slice_index_or}
use Rattle.std.specs.List.{list_any, enumerate_from}
use Rattle.cbpf_why.specs.Graph.{opens}
use Rattle.cbpf_why.proofs.blocks.mark_all.Given as goal

abbrev pub invariant-loop-i : goal.invariant-loop-i
invariant-loop-i g l = record {
  long : length l.begins ≡ length l.p;
  marked : (j : ℕ) → j < length l.p
      → slice_index_or l.begins j false ≡ ((j == 0) || list_any (opens j) (take l.i (enumerate_from 0 l.p)));
}
