use Rattle.std.proofs.Common.{arith, sym, ◌∙◌}
use Rattle.pcap_classic.proofs.WalkLemmas.{goes}
use Rattle.pcap_classic.proofs.records.Records.pass.Goals as goal

pub overflow_add-self : goal.overflow_add-self
overflow_add-self c =
    let on = goes _ _ _ _ _ _ c.self.invariant (rw (← c.self.view_is) at c.requires) in
    omega (arith, on.inside)

pub overflow_add-self-2 : goal.overflow_add-self-2
overflow_add-self-2 c =
    let on = goes _ _ _ _ _ _ c.self.invariant (rw (← c.self.view_is) at c.requires) in
    omega (arith, on.inside)

pub overflow_add-self-3 : goal.overflow_add-self-3
overflow_add-self-3 c =
    let on = goes _ _ _ _ _ _ c.self.invariant (rw (← c.self.view_is) at c.requires) in
    omega (arith, on.inside)

pub invariant_of-self : goal.invariant_of-self
invariant_of-self c =
    let on = goes _ _ _ _ _ _ c.self.invariant (rw (← c.self.view_is) at c.requires) in
    on.walk

pub returns : goal.returns
returns c =
    let on = goes _ _ _ _ _ _ c.self.invariant (rw (← c.self.view_is) at c.requires) in
    sym c.self.view_is ∙ on.left
