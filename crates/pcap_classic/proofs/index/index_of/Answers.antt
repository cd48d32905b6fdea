use Rattle.std.proofs.Common.{arith, ◌∙◌}
use Rattle.std.proofs.lemmas.List.{take_rest}
use Rattle.pcap_classic.proofs.ReachLemmas.{reaches_end, reaches_first}
use Rattle.pcap_classic.proofs.index.index_of.Goals as goal

pub lengths-init : goal.lengths-init
lengths-init g c =
    record {
      here = reaches_first _ _ c.requires;
      kept = record {
        enough = omega arith;
        no_more = rw c.new.ensures.items (omega arith);
        each = rw c.new.ensures.items (λ j h. absurd (omega (arith, h)));
      };
      few = omega arith;
    }

pub returns : goal.returns
returns g c =
    let passed = c.lengths.invariant in
    let front = rw take_rest at c.extent_of.ensures in
    let end = reaches_end _ _ _ _ passed.here (λ size whole. c.in_default.not-WholeRecord size (front ∙ whole)) in
    record {
      index = record {
        long = c.requires;
        counted = end.count;
        few = omega (arith, passed.few, passed.here.inside);
        kept = passed.kept;
        ended = rw (rw take_rest at c.extent_of-2.ensures) at c.ending_by-ending.ensures ∙ end.ending;
      };
      refused = tt;
    }
