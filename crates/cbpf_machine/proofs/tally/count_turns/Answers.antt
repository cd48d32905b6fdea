use Rattle.std.proofs.Common.{◌+◌, ◌∙◌, arith}
use Rattle.std.proofs.lemmas.List.{length-set}
use Rattle.std.specs.Prelude.{slice_set}
use Rattle.cbpf_machine.specs.OnPacket.{in_task}
use Rattle.cbpf_machine.proofs.RunningLemmas.{running_starts}
use Rattle.cbpf_machine.proofs.TallyLemmas.{CountsFirst, counts_next, counts_all}
use Rattle.cbpf_machine.proofs.tally.count_turns.Given.{Over}
use Rattle.cbpf_machine.proofs.tally.count_turns.Goals.{In-Some}
use Rattle.cbpf_machine.proofs.tally.count_turns.Goals as goal

pub turns-init : goal.turns-init
turns-init g c =
    record {
      running = running_starts _ c.len-few.ensures.sound _ c.new-running.ensures;
      long = c.requires.long;
      counts = rw c.new-running.ensures (record {
        ahead = λ i h. (omega arith, omega arith);
        once = λ i. (omega arith, omega arith);
        executed = λ i. omega arith;
        taken = λ i. omega arith;
      });
    }

pub turns-preserved : goal.turns-preserved
turns-preserved g c =
    let before = c.turns.invariant in
    let made = c.in_default.ensures in
    rw c.pc-pc.ensures (record {
      running = made.goes.0;
      long = length-set c.turns.runs c.turns.running.core.pc c.turn.new.here ∙ before.long;
      counts = counts_next c.turn.new.here c.turn.new.self.core.pc before.counts before.running.here
          (omega (arith, before.running.here.inside, before.long)) made.goes.1 made.turns (rw c.pc-pc.ensures at made.here);
    })

counted : (g : Over) (c : In-Some g) → CountsFirst (in_task c.args.task.now)
    c.turn.new.self.turns (c.turns.running.core.pc + 1) c.args.runs.now (slice_set c.turns.runs c.pc-pc.result c.turn.new.here)
counted g c =
    let before = c.turns.invariant in
    rw c.pc-pc.ensures (counts_next c.turn.new.here (c.turns.running.core.pc + 1) before.counts before.running.here
    (omega (arith, before.running.here.inside, before.long)) (omega arith) c.in-Some.ensures.turns
    (rw c.pc-pc.ensures at c.in-Some.ensures.here))

pub returns-in-Some-clause-executed : goal.returns-in-Some-clause-executed
returns-in-Some-clause-executed g c =
    (counts_all (counted g (goal.at.returns-in-Some-clause-executed g c).In-Some) c.in-Some.ensures.goes.long).0

pub returns-in-Some-clause-taken : goal.returns-in-Some-clause-taken
returns-in-Some-clause-taken g c =
    (counts_all (counted g (goal.at.returns-in-Some-clause-taken g c).In-Some) c.in-Some.ensures.goes.long).1
