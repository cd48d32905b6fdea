use Rattle.std.proofs.Common.{◌≡◌, ◌∙◌, ℕ, List, [], true, false, ap, map, drop, get_or, Bor, ◌+◌}
use Rattle.std.proofs.lemmas.List.{drop_more}
use Rattle.std.specs.Ordering.{nat_cmp}
use Rattle.std.specs.Cmp.Lexicographic.{slice_cmp, nat_list_cmp_total}
use Rattle.std.specs.FinMap.{find, get-from_entries}
use Rattle.std.specs.Prelude.{bytes_eq}
use Rattle.cbpf_tool.proofs.FileLemmas.{scan-miss, scan-hit}
use Rattle.cbpf_tests.proofs.memory_host.bytes_of.Goals as goal

pub loop-file-init : goal.loop-file-init
loop-file-init c = get-from_entries nat_list_cmp_total _ _

pub returns-then-eq : goal.returns-then-eq
returns-then-eq c =
    let d : Bor (List ℕ) × Bor (List ℕ) = (record { ref_ptr = (0, 0); now = [] }, record { ref_ptr = (0, 0); now = [] }) in
    let file = get_or c.args.files.now c.loop-file.file-index d in
    let front = c.loop-file.invariant ∙ ap (λ fs.
    find (slice_cmp nat_cmp) c.args.name.now (map (λ f. (f.0.now, f.1.now)) fs))
    (drop_more c.args.files.now c.loop-file.file-index d c.loop-file-test.true) in
    let same : bytes_eq c.args.name.now file.0.now ≡ true = cc in
    scan-hit c.args.name.now file.0.now file.1.now
    (map (λ f. (f.0.now, f.1.now)) (drop (c.loop-file.file-index + 1) c.args.files.now)) _ front same

pub loop-file-preserved : goal.loop-file-preserved
loop-file-preserved c =
    let d : Bor (List ℕ) × Bor (List ℕ) = (record { ref_ptr = (0, 0); now = [] }, record { ref_ptr = (0, 0); now = [] }) in
    let file = get_or c.args.files.now c.loop-file.file-index d in
    let front = c.loop-file.invariant ∙ ap (λ fs.
    find (slice_cmp nat_cmp) c.args.name.now (map (λ f. (f.0.now, f.1.now)) fs))
    (drop_more c.args.files.now c.loop-file.file-index d c.loop-file-test.true) in
    let miss : bytes_eq c.args.name.now file.0.now ≡ false = cc in
    scan-miss c.args.name.now file.0.now file.1.now
    (map (λ f. (f.0.now, f.1.now)) (drop (c.loop-file.file-index + 1) c.args.files.now)) _ front miss
