use Rattle.std.proofs.Common.{◌-◌, arith}
use Rattle.std.proofs.lemmas.Option.{slice_get_within}
use Rattle.cbpf_machine.specs.Core.{registers}
use Rattle.cbpf_machine.specs.OnPacket.{in_task, trace_in}
use Rattle.cbpf_machine.proofs.TraceLemmas.{goes_at}
use Rattle.cbpf_machine.proofs.FollowLemmas.{start_goes}
use Rattle.cbpf_machine.proofs.reach.reach.Goals as goal

pub reach-init : goal.reach-init
reach-init g c =
    record {
      from_one = omega arith;
      within = c.requires.from_one;
      here = rw c.zero-here.ensures (start_goes _ c.len-sound.ensures.sound);
      spent = omega arith;
    }

pub returns-clause-long : goal.returns-clause-long
returns-clause-long g c =
    let within = slice_get_within (trace_in (in_task c.args.task.now)) (c.reach.entries - 1)
    (registers c.reach.here c.reach.slots) (goes_at c.reach.invariant.here) in
    omega (arith, within, c.reach-test.false)
