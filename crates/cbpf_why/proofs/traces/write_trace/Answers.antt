use Rattle.cbpf_code.proofs.WrittenLemmas.{first-failed, wrote-then, err-exit, part-then, part-more}
use Rattle.cbpf_machine.specs.Machine.{machine_of}
use Rattle.cbpf_machine.specs.OnPacket.{OnPacket}
use Rattle.cbpf_why.specs.Traces.{trace_text}
use Rattle.cbpf_why.proofs.StepLemmas.{last_inside, test_inside}
use Rattle.cbpf_why.proofs.traces.write_trace.Goals as goal

pub returns-in_err-write_with_number : goal.returns-in_err-write_with_number
unfolding trace_text
returns-in_err-write_with_number g c =
    first-failed _ _ _ _ _ c.from_residual.ensures.0 c.in_err-write_with_number.ensures

pub returns-in_err-traced : goal.returns-in_err-traced
unfolding trace_text
returns-in_err-traced g c =
    err-exit _ _ _ _ c.from_residual-in_err-traced.ensures.0
    (part-then _ _ _ _ _ c.in_ok-write_with_number.ensures (part-more _ _ _ _ (rw c.requires.0 at c.in_err-traced.ensures.wrote)))

pub write_end-requires-clause-ended : goal.write_end-requires-clause-ended
write_end-requires-clause-ended g c =
    let task : OnPacket = record {
      machine = machine_of c.args.p.now c.args.values.now;
      bytes = c.args.item.now.bytes.now;
      wire = c.args.item.now.wire;
    } in
    rw c.in_ok-traced.ensures.ended (last_inside task c.len-sound.ensures.sound)

pub write_end-requires-clause-test : goal.write_end-requires-clause-test
write_end-requires-clause-test g c =
    let task : OnPacket = record {
      machine = machine_of c.args.p.now c.args.values.now;
      bytes = c.args.item.now.bytes.now;
      wire = c.args.item.now.wire;
    } in
    rw c.in_ok-traced.ensures.test (test_inside task c.len-sound.ensures.sound)

pub returns : goal.returns
unfolding trace_text
returns g c =
    wrote-then _ _ _ _ _ _ c.in_ok-write_with_number.ensures
    (wrote-then _ _ _ _ _ _ (rw c.requires.0 at c.in_ok-traced.ensures.wrote)
    (rw (c.in_ok-traced.ensures.ended, c.in_ok-traced.ensures.x, c.in_ok-traced.ensures.test) at c.write_end.ensures))
