use Rattle.std.proofs.Common.{◌∙◌, sym, ap, arith, refl}
use Rattle.cbpf_code.proofs.WrittenLemmas.{appended-nil, err-exit}
use Rattle.cbpf_machine.specs.Machine.{machine_of}
use Rattle.cbpf_machine.specs.Registers.{Registers}
use Rattle.cbpf_machine.proofs.FollowLemmas.{start_goes}
use Rattle.cbpf_machine.proofs.TraceLemmas.{goes_next, turn_on}
use Rattle.pcap_classic.specs.Lent.{record_of}
use Rattle.cbpf_why.specs.Ends.{ended_at}
use Rattle.cbpf_why.specs.Traces.{step_text}
use Rattle.cbpf_why.proofs.StepLemmas.{last_is, next_is, steps-next, steps-stop, steps-done, test_last, test_next}
use Rattle.cbpf_why.proofs.traces.write_steps.Goals as goal

pub turns-init : goal.turns-init
turns-init g c = rw (c.new-meter.ensures, c.zero-s.ensures) (record {
  here = start_goes _ c.len-sound.ensures.sound;
  rises = omega arith;
  written = appended-nil _;
  test = refl;
})

pub turns-preserved : goal.turns-preserved
turns-preserved g c =
    let before = c.turns.invariant in
    let made = c.turn-made.ensures.value in
    let is = sym made ∙ next_is c.turn-made.result c.in-Some.next (sym c.next_state-next.ensures ∙ c.in-Some.is) in
    let higher = turn_on _ before.here.sound _ _ before.here.inside is in
    record {
      here = rw c.turn-made.ensures.spent (goes_next before.here c.in-Some.next is);
      rises = omega (arith, c.turn-made.ensures.spent, before.rises, higher.0);
      written = rw c.turn-made.ensures.spent (steps-next before.here
          (step_text c.args.long (machine_of c.args.p.now c.args.values.now) (record_of c.args.item.now)) _ _ _ before.written
          (rw (c.next_state-next.ensures, made, c.packet_of-packet.ensures) at c.in_ok-write_step.ensures));
      test = rw c.turn-made.ensures.spent (test_next before.here _ _ before.test c.test_after-test.ensures);
    }

pub returns-in_err-write_step-clause-wrote : goal.returns-in_err-write_step-clause-wrote
returns-in_err-write_step-clause-wrote g c =
    let before = c.turns.invariant in
    err-exit _ _ _ _ c.from_residual.ensures.0 (rw c.packet_of-packet.ensures at (steps-stop before.here
    (step_text c.args.long (machine_of c.args.p.now c.args.values.now) (record_of c.args.item.now)) _ _ _ before.written
    (rw (c.next_state-next.ensures, c.turn-made.ensures.value, c.packet_of-packet.ensures) at c.in_err-write_step.ensures)))

pub returns-in-None-clause-wrote : goal.returns-in-None-clause-wrote
returns-in-None-clause-wrote g c =
    let before = c.turns.invariant in
    rw c.packet_of-packet.ensures at (steps-done before.here
    (step_text c.args.long (machine_of c.args.p.now c.args.values.now) (record_of c.args.item.now)) _ _ _
    (rw (c.next_state-next.ensures, c.turn-made.ensures.value) at c.in-None.is) before.written
    (rw (c.next_state-next.ensures, c.turn-made.ensures.value, c.packet_of-packet.ensures) at c.in_ok-write_step.ensures))

pub returns-in-None-clause-ended : goal.returns-in-None-clause-ended
returns-in-None-clause-ended g c =
    let last = last_is c.turns.invariant.here (rw (c.next_state-next.ensures, c.turn-made.ensures.value) at c.in-None.is) in
    rw (c.pc.ensures, c.end_by.ensures, c.turn-made.ensures.value, c.packet_of-packet.ensures)
    (ap (ended_at (machine_of c.args.p.now c.args.values.now) (record_of c.args.item.now))
    (rw c.packet_of-packet.ensures at last))

pub returns-in-None-clause-test : goal.returns-in-None-clause-test
returns-in-None-clause-test g c =
    let before = c.turns.invariant in
    rw c.packet_of-packet.ensures at (test_last before.here _
    (rw (c.next_state-next.ensures, c.turn-made.ensures.value) at c.in-None.is)
    (test_next before.here _ _ before.test c.test_after-test.ensures))

pub returns-in-None-clause-x : goal.returns-in-None-clause-x
returns-in-None-clause-x g c =
    let last = last_is c.turns.invariant.here (rw (c.next_state-next.ensures, c.turn-made.ensures.value) at c.in-None.is) in
    c.x.ensures ∙ ap (λ (s : Registers). s.x) (rw c.packet_of-packet.ensures at last)
