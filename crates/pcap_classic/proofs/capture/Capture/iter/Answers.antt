use Rattle.std.proofs.Common.{arith}
use Rattle.pcap_classic.proofs.HoldsLemmas.{contents-hold, holds-numbered}
use Rattle.pcap_classic.proofs.capture.Capture.iter.Goals as goal

pub returns-clause-numbered : goal.returns-clause-numbered
returns-clause-numbered g c = λ i r found.
    let order = c.self.inside.header.magic.order in
    let number = holds-numbered order 1 _ _ _ _ (contents-hold _ order 1 _ _ (omega arith)) i r
    (rw (← c.self.view_is) at found) in
    omega (arith, number)
