use Rattle.std.proofs.Common.{◌≡◌, ◌-◌, ◌+◌, arith}
use Rattle.pcap_classic.proofs.ReachLemmas.{after}
use Rattle.pcap_classic.proofs.capture.Capture.following.Goals as goal

pub overflow_add-offset : goal.overflow_add-offset
overflow_add-offset g c =
    let own = rw (← c.self.view_is) at c.requires in
    let next = after _ _ _ _ c.self.invariant.1.long own in
    omega (arith, next.there.inside)

pub overflow_add-offset-2 : goal.overflow_add-offset-2
overflow_add-offset-2 g c =
    let own = rw (← c.self.view_is) at c.requires in
    let next = after _ _ _ _ c.self.invariant.1.long own in
    omega (arith, next.there.inside)

pub overflow_add-item : goal.overflow_add-item
overflow_add-item g c =
    let own = rw (← c.self.view_is) at c.requires in
    let next = after _ _ _ _ c.self.invariant.1.long own in
    omega (arith, next.number, next.there.passed, c.self.invariant.1.counted, c.self.invariant.1.few)

pub file_record-requires-clause-within : goal.file_record-requires-clause-within
file_record-requires-clause-within g c =
    let own = rw (← c.self.view_is) at c.requires in
    let next = after _ _ _ _ c.self.invariant.1.long own in
    rw c.as_slice.ensures.value
    (omega (arith, next.number, next.there.passed, c.self.invariant.1.counted, c.if-item-self.false))

pub file_record-requires-clause-there : goal.file_record-requires-clause-there
file_record-requires-clause-there g c =
    let own = rw (← c.self.view_is) at c.requires in
    let next = after _ _ _ _ c.self.invariant.1.long own in
    let number : c.args.item.now.number - 1 + 1 ≡ c.args.item.now.number + 1 - 1 = omega (arith, next.number) in
    rw c.as_slice.ensures.value (rw number at next.there)
