use Rattle.std.proofs.Common.{◌<◌, length, sym, arith}
use Rattle.std.specs.Prelude.{slice_index_or}
use Rattle.std.proofs.lemmas.List.Edits.{map_over_more}
use Rattle.std.proofs.lemmas.Option.{slice_get-get_or, get_or_from_slice_get}
use Rattle.cbpf_why.specs.Filters.{with_comma}
use Rattle.cbpf_why.proofs.filter.put_commas.Goals as goal

pub loop-i-preserved : goal.loop-i-preserved
loop-i-preserved c =
    let text = c.loop-i.text in
    let here : c.loop-i.i < length text = omega (arith, c.loop-i-test.true, c.loop-i.auto.text) in
    let below : c.loop-i.i < length c.args.text.now = omega (arith, c.loop-i-test.true) in
    let byte = slice_index_or text c.loop-i.i 0 in
    rw c.with_comma.ensures (map_over_more with_comma c.args.text.now text c.loop-i.i byte below c.loop-i.invariant
    (sym (get_or_from_slice_get text c.loop-i.i byte byte (slice_get-get_or text c.loop-i.i 0 here))))
