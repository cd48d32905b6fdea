use Rattle.std.proofs.Common.{ap, sym, ◌∙◌, ◌≡◌, false, true, rules, arith, map}
use Rattle.std.proofs.lemmas.Grind.{common_steps}
use Rattle.std.specs.Ordering.{nat_cmp}
use Rattle.std.specs.Cmp.Lexicographic.{slice_cmp, nat_list_cmp_total}
use Rattle.std.specs.FinMap.{get, find, get-from_entries}
use Rattle.std.specs.Prelude.{bytes_eq}
use Rattle.std.specs.VecDeque.Iter.{deque_iter_rest}
use Rattle.cbpf_tool.proofs.FileLemmas.{scan-miss, scan-hit}
use Rattle.cbpf_tool.proofs.memory_files.MemoryFiles.copied.Goals as goal

pub loop-entry-init : goal.loop-entry-init
loop-entry-init g c = (
  search rules,
  search rules,
  ap (λ m. get m.files c.args.name.now) (sym c.self.view_is)
      ∙ get-from_entries nat_list_cmp_total _ _
      ∙ ap (λ es. find (slice_cmp nat_cmp) c.args.name.now (map (λ e. (e.0.items, e.1.items)) es))
      (sym c.into_iter-entry-iterator.ensures.into_iter_gives.0),
)

pub loop-entry-preserved : goal.loop-entry-preserved
loop-entry-preserved g c =
    let entry = c.in-Some.entry.now in
    let front = c.loop-entry.invariant.2 ∙ ap (λ es.
    find (slice_cmp nat_cmp) c.args.name.now (map (λ e. (e.0.items, e.1.items)) es)) c.in-Some.ensures.steps in
    let miss : bytes_eq c.args.name.now entry.0.items ≡ false = cc in (
      search rules,
      search rules,
      scan-miss c.args.name.now entry.0.items entry.1.items
          (map (λ e. (e.0.items, e.1.items)) (deque_iter_rest c.next.new.self)) _ front miss,
    )

pub returns-in-Ok-clause-gives : goal.returns-in-Ok-clause-gives
returns-in-Ok-clause-gives g c =
    let entry = c.in-Some.entry.now in
    let front = c.loop-entry.invariant.2 ∙ ap (λ es.
    find (slice_cmp nat_cmp) c.args.name.now (map (λ e. (e.0.items, e.1.items)) es)) c.in-Some.ensures.steps in
    let same : bytes_eq c.args.name.now entry.0.items ≡ true = cc in
    let hit = scan-hit c.args.name.now entry.0.items entry.1.items
    (map (λ e. (e.0.items, e.1.items)) (deque_iter_rest c.next.new.self)) _ front same in
    grind (arith, common_steps, hit)
