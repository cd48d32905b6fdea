use Rattle.cbpf_tool.proofs.RequestLemmas.{sorted-ranges}
use Rattle.cbpf_tool.proofs.request.ranges_of.Goals as goal

pub returns-in-Ok : goal.returns-in-Ok
returns-in-Ok c =
    let read = c.in_ok-ranges.ensures in
    (read.0, rw (c.in_ok-put_all.ensures.all, read.1) at c.sort.ensures.permutation, sorted-ranges _ c.in-Ok.ensures.sorted)
