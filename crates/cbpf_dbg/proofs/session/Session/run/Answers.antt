use Rattle.std.proofs.Common.{refl, rules}
use Rattle.cbpf_machine.specs.Machine.{machine_of}
use Rattle.cbpf_dbg.proofs.WholeLemmas.{HasLoaded}
use Rattle.cbpf_dbg.proofs.CarryLemmas.{known-sound}
use Rattle.cbpf_dbg.specs.Commands.{run}
use Rattle.cbpf_dbg.specs.Here.{RunStopsHere}
use Rattle.cbpf_dbg.proofs.HereLemmas.{of-answer, run-returns}
use Rattle.cbpf_dbg.proofs.ShownStops.{shows-run}
use Rattle.cbpf_dbg.proofs.session.Session.run.Goals as goal

pub returns-clause-shown : goal.returns-clause-shown
returns-clause-shown g c =
    shows-run _ _ _ (record { program = c.in-Some.is; values = refl; capture = c.in-Some-capture.is }) _
    (known-sound _ _ _ _ _ _ c.in-Some.is c.self.invariant.1) _ _ _ _ c.run_to_limit-reply.ensures.runs

pub returns-clause-after : goal.returns-clause-after
returns-clause-after g c = search rules

pub returns-clause-reply : goal.returns-clause-reply
returns-clause-reply g c = search rules

pub returns-clause-returns : goal.returns-clause-returns
returns-clause-returns g c =
    let holds : HasLoaded (machine_of c.in-Some.program c.self.inside.values) c.in-Some-capture.capture c.args.self.now =
    record {
      program = rw (← c.self.view_is) c.in-Some.is;
      values = rw (← c.self.view_is) refl;
      capture = rw (← c.self.view_is) c.in-Some-capture.is;
    } in
    of-answer RunStopsHere (run c.args.self.now c.args.limit) c.args.self.now _ _ (returns-clause-reply g c)
    (returns-clause-after g c) (run-returns _ _ c.args.self.now holds c.args.limit)

pub returns-clause-ahead : goal.returns-clause-ahead
returns-clause-ahead g c = search rules

pub returns-clause-turns : goal.returns-clause-turns
returns-clause-turns g c = search rules
