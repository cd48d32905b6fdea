use Rattle.std.proofs.Common.{◌≡◌, arith}
use Rattle.pcap_classic.proofs.ReachLemmas.{start_is}
use Rattle.pcap_classic.proofs.WalkLemmas.{left_of}
use Rattle.pcap_classic.proofs.capture.Capture.records_at.Goals as goal

pub invariant_of-result : goal.invariant_of-result
invariant_of-result g c =
    let own = c.self.invariant.1 in
    let there = rw (← c.self.view_is) at c.requires.there in
    rw c.as_slice.ensures.value (record {
      long = own.long;
      ordered = omega (arith, c.min.ensures);
      within = omega (arith, c.min-end.ensures, own.counted);
      from_one = λ h. omega (arith, c.min.ensures, c.requires.from_one);
      there = λ h.
          let first : c.min.result ≡ c.args.from = omega (arith, c.min.ensures) in
          rw first (start_is _ _ _ _ own.long c.requires.from_one
          (omega (arith, first, h, c.min-end.ensures, own.counted)) there);
    })

pub returns : goal.returns
returns g c =
    rw (c.as_slice.ensures.value, c.min.ensures, c.min-end.ensures, c.self.invariant.1.counted, ← c.self.view_is)
    (left_of _ c.args.from c.args.end c.requires.from_one)
