use Rattle.std.proofs.Common.{◌-◌, arith}
use Rattle.std.proofs.lemmas.Option.{slice_get_within}
use Rattle.pcap_classic.specs.Contents.{contents}
use Rattle.pcap_classic.proofs.ReachLemmas.{start_once}
use Rattle.pcap_classic.proofs.capture.Capture.start_of.Goals as goal

pub returns : goal.returns
returns g c = λ r found.
    start_once _ _ _ _ r c.start_of.ensures (rw c.as_slice.ensures.value (rw (← c.self.view_is) at found))

pub returns-then-n-self : goal.returns-then-n-self
returns-then-n-self g c = λ r found.
    let own = contents c.self.inside.header.magic.order c.self.inside.file.items in
    let before = slice_get_within own.records (c.args.n - 1) r (rw (← c.self.view_is) at found) in
    absurd (omega (arith, before, c.self.invariant.1.counted))
