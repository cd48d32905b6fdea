use Rattle.std.proofs.Common.{refl, ◌∙◌, arith, ap}
use Rattle.std.proofs.lemmas.List.{take_all}
use Rattle.cbpf_machine.specs.Registers.{zero_state}
use Rattle.cbpf_machine.specs.OnPacket.{in_task, trace_in}
use Rattle.cbpf_machine.specs.Choices.{last_choice}
use Rattle.cbpf_machine.proofs.FollowLemmas.{start_goes}
use Rattle.cbpf_machine.proofs.SoundLemmas.{sound_some}
use Rattle.cbpf_machine.proofs.TraceLemmas.{length-trace_from}
use Rattle.cbpf_machine.proofs.RunningLemmas.{ends_packet}
use Rattle.cbpf_machine.proofs.packet_end.decided_end.Goals as goal

pub make_turns-turns-requires-clause-inside : goal.make_turns-turns-requires-clause-inside
make_turns-turns-requires-clause-inside g c = rw c.zero-core.ensures (sound_some c.args.task.now.program.now c.len-few.ensures.sound)

pub returns : goal.returns
returns g c =
    let t = in_task c.args.task.now in
    let reached = rw c.in-Some.is at
    (c.make_turns-turns.ensures.reaches zero_state 0 (rw c.zero-core.ensures (start_goes _ c.len-few.ensures.sound))) in
    let chosen = c.make_turns-turns.ensures.chooses zero_state 0 (rw c.zero-core.ensures (start_goes _ c.len-few.ensures.sound))
    refl in
    let end = ends_packet reached.arrives.0 c.in-Some.reason reached.arrives.1 in
    record {
      last = c.of.ensures ∙ end.1;
      reason = rw c.of.ensures reached.arrives.1;
      outcome = end.2;
      choice = chosen ∙ ap (last_choice t.machine.list)
          (take_all _ (trace_in t) (omega (arith, end.0, (c.make_turns-turns.ensures.some refl))));
      turns = omega (arith, c.add.ensures, end.0, (c.make_turns-turns.ensures.some refl));
      few = omega (
        arith,
        c.add.ensures,
        end.0,
        (c.make_turns-turns.ensures.some refl),
        length-trace_from t.machine t.bytes t.wire zero_state,
      );
    }
