use Rattle.std.proofs.Common.{[], arith}
use Rattle.cbpf_machine.specs.Registers.{zero_state}
use Rattle.cbpf_machine.specs.Machine.{machine_of}
use Rattle.cbpf_machine.proofs.TraceLemmas.{length-trace_from}
use Rattle.cbpf_machine.proofs.SoundLemmas.{sound_few}
use Rattle.session_tests.proofs.machine_trail.filled_and_followed.Goals as goal

pub follow-followed-requires-clause-spare : goal.follow-followed-requires-clause-spare
follow-followed-requires-clause-spare g c =
    omega (
      arith,
      c.new-meter.ensures,
      sound_few c.args.p.now c.len-sound.ensures.sound,
      length-trace_from (machine_of c.args.p.now c.new-values.result) [] 0 zero_state,
    )
