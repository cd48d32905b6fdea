use Rattle.std.proofs.Common.{arith, refl, rules}
use Rattle.cbpf_machine.specs.Registers.{zero_state}
use Rattle.cbpf_machine.specs.Trace.{trace}
use Rattle.cbpf_machine.proofs.KeptLemmas.{ignores_fewer}
use Rattle.cbpf_machine.proofs.TraceLemmas.{first_entry, length-trace_from}
use Rattle.cbpf_dbg.specs.Loaded.{machine_in}
use Rattle.cbpf_dbg.proofs.CursorLemmas.{entry_at_place}
use Rattle.cbpf_dbg.proofs.FollowLemmas.{step_within, steps_few}
use Rattle.cbpf_dbg.proofs.run.run_whole.Goals as goal

pub returns-then-cannot_stop-clause-goes : goal.returns-then-cannot_stop-clause-goes
returns-then-cannot_stop-clause-goes g c = search rules

pub start-requires-clause-near : goal.start-requires-clause-near
start-requires-clause-near g c =
    let ran = c.if-not-run_records.ensures.goes in
    let at = ran.passes.stands.at ((ran.entry refl).0) in
    let within = step_within _ _ _ at.0 ran.passes.stands at.1 in
    let few = length-trace_from (machine_in c.args.loaded.now) at.0.bytes at.0.wire zero_state in
    omega (arith, within, few)

pub start-requires-clause-ignores : goal.start-requires-clause-ignores
start-requires-clause-ignores g c =
    let ran = c.if-not-run_records.ensures.goes in
    let at = ran.passes.stands.at ((ran.entry refl).0) in
    let within = step_within _ _ _ at.0 ran.passes.stands at.1 in
    let few = length-trace_from (machine_in c.args.loaded.now) at.0.bytes at.0.wire zero_state in
    ignores_fewer g.T.Trail.stands_for 1 _ _ (omega (arith, within, few)) c.first_gap.ensures.ignores

pub start-requires-clause-few : goal.start-requires-clause-few
start-requires-clause-few g c =
    let ran = c.if-not-run_records.ensures.goes in
    let at = ran.passes.stands.at ((ran.entry refl).0) in
    omega (arith, step_within _ _ _ at.0 ran.passes.stands at.1, steps_few _ _ _ at.0 ran.passes.stands at.1)

pub returns-clause-keeps : goal.returns-clause-keeps
returns-clause-keeps g c = λ r there.
    let ran = c.if-not-run_records.ensures.goes in
    let begun = (ran.entry refl).0 in
    c.start.ensures.stands (trace (machine_in c.args.loaded.now) r.bytes r.wire)
    (first_entry _ ran.passes.stands.sound)
    (entry_at_place _ _ _ r ran.passes.stands there begun)
