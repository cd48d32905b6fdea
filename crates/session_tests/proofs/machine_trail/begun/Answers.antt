use Rattle.std.proofs.Common.{◌≡◌, ◌+◌, ◌-◌, [], arith}
use Rattle.cbpf_machine.specs.Machine.{machine_of}
use Rattle.cbpf_machine.specs.Trace.{trace}
use Rattle.cbpf_machine.specs.Values.{no_values}
use Rattle.cbpf_machine.proofs.FollowLemmas.{paused_of}
use Rattle.cbpf_machine.proofs.TraceLemmas.{first_entry}
use Rattle.session_tests.proofs.machine_trail.begun.Goals as goal

pub returns-clause-stands : goal.returns-clause-stands
returns-clause-stands g c =
    let at : 0 + c.in-Paused.count - 1 ≡ c.in-Paused.count - 1 = omega arith in
    let first = (paused_of _ (trace (machine_of c.args.p.now c.new-values.result) [] 0) 0 _ _ _ _ c.in-Paused.ensures.follows).0 in
    c.start.ensures.stands (trace (machine_of c.args.p.now no_values) [] 0)
    (first_entry (record { machine = machine_of c.args.p.now no_values; bytes = []; wire = 0 }) c.len-sound.ensures.sound)
    (rw at at (rw c.new-values.ensures.value at first.at))
