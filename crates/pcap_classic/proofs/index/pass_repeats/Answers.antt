use Rattle.std.proofs.Common.{◌<◌, length, arith, rules}
use Rattle.std.proofs.lemmas.List.{take_rest}
use Rattle.pcap_classic.specs.Contents as spec
use Rattle.pcap_classic.proofs.ReachLemmas.{onward}
use Rattle.pcap_classic.proofs.index.pass_repeats.Goals as goal

pub returns-in_err-keep_start-clause-refused : goal.returns-in_err-keep_start-clause-refused
returns-in_err-keep_start-clause-refused g c =
    let here = c.repeats.invariant.passed.here in
    let on = onward _ _ _ _ _ here (rw take_rest at (c.is_record_of.ensures.0 c.repeats-test.true)) in
    let some : 0 < length (spec.contents c.args.order c.args.file.now).records = omega (arith, on.next.passed) in
    search rules

pub repeats-preserved : goal.repeats-preserved
repeats-preserved g c =
    let before = c.repeats.invariant in
    let on = onward _ _ _ _ _ before.passed.here (rw take_rest at (c.is_record_of.ensures.0 c.repeats-test.true)) in
    record {
      passed = record {
        here = on.next;
        kept = c.in_ok-keep_start.ensures _ _ before.passed.here before.passed.kept;
        few = omega (arith, on.header, before.passed.few);
      };
      on = omega (arith, before.on);
    }
