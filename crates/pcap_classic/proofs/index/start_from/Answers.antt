use Rattle.std.proofs.Common.{arith}
use Rattle.std.proofs.lemmas.List.{take_rest}
use Rattle.pcap_classic.proofs.ReachLemmas.{onward_more}
use Rattle.pcap_classic.proofs.index.start_from.Goals as goal

pub record_length-offset-requires : goal.record_length-offset-requires
record_length-offset-requires c =
    let on = onward_more _ _ _ _ c.records.invariant (omega arith) in
    rw (take_rest c.args.file.now c.records.offset) (omega (arith, on.header, on.within))

pub overflow_add-offset : goal.overflow_add-offset
overflow_add-offset c =
    let on = onward_more _ _ _ _ c.records.invariant (omega arith) in
    let size = rw (take_rest c.args.file.now c.records.offset) at c.record_length-offset.ensures in
    omega (arith, on.inside, size)

pub records-preserved : goal.records-preserved
records-preserved c =
    let on = onward_more _ _ _ _ c.records.invariant (omega arith) in
    let size = rw (take_rest c.args.file.now c.records.offset) at c.record_length-offset.ensures in
    rw size on.next
