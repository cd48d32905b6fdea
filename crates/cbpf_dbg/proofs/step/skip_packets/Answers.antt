use Rattle.std.proofs.Common.{◌+◌, ◌∙◌, arith, ap}
use Rattle.std.proofs.lemmas.Grind.{common_steps}
use Rattle.cbpf_machine.proofs.SoundLemmas.{sound_some}
use Rattle.cbpf_reply.specs.declared.reply.Place.{Place}
use Rattle.cbpf_dbg.proofs.RecordsLeftLemmas.{start_first}
use Rattle.cbpf_dbg.proofs.StepLemmas.{GoesPast, goes_past, nears_more}
use Rattle.cbpf_dbg.proofs.step.skip_packets.Given.{Over}
use Rattle.cbpf_dbg.proofs.step.skip_packets.Goals.{After-run_records-paused}
use Rattle.cbpf_dbg.proofs.step.skip_packets.Goals as goal

pub records_at-requires-clause-there : goal.records_at-requires-clause-there
records_at-requires-clause-there g c = start_first _ _ _ _ c.requires.left c.in-Some.ensures

pub skip-init : goal.skip-init
skip-init g c = grind (arith, common_steps)

pub nonzero_div-packets : goal.nonzero_div-packets
nonzero_div-packets g c =
    omega (arith, sound_some _ c.args.loaded.now.sound, c.len.ensures.value, c.from-longest.ensures)

past : (g : Over) (c : After-run_records-paused g)
    → GoesPast c.args.loaded.now (record c.skip.walk { end = c.min.result }) c.run_records-paused.new.walk c.skip.ahead
    c.skip.meter c.run_records-paused.new.meter
past g c =
    let so = c.skip.invariant in
    let longest = c.from-longest.ensures ∙ c.len.ensures.value in
    goes_past c.args.loaded.now _ _ c.skip.ahead _ _ _ so.nears.passes.stands so.before
    (rw longest at c.skip-test.true) c.if-walk-past.true (ap (λ n. n + 1) c.count-past.ensures.value)
    (rw longest at c.saturating_add.ensures) c.min.ensures
    c.run_records-paused.ensures.goes c.run_records-paused.ensures.none

pub overflow_sub-ahead : goal.overflow_sub-ahead
overflow_sub-ahead g c = let went = past g (goal.at.overflow_sub-ahead g c).After-run_records-paused in
    omega (arith, c.spent-before.ensures, c.spent.ensures, went.rises)

pub overflow_cast-ahead : goal.overflow_cast-ahead
overflow_cast-ahead g c = let went = past g (goal.at.overflow_cast-ahead g c).After-run_records-paused in
    omega (arith, c.spent-before.ensures, c.spent.ensures, went.fewer)

pub overflow_sub-ahead-in-skip : goal.overflow_sub-ahead-in-skip
overflow_sub-ahead-in-skip g c = let went = past g (goal.at.overflow_sub-ahead-in-skip g c).After-run_records-paused in
    omega (arith, c.spent-before.ensures, c.spent.ensures, went.fewer)

pub skip-smaller : goal.skip-smaller
skip-smaller g c = let went = past g (goal.at.skip-smaller g c).After-run_records-paused in
    omega (arith, went.early, ap (λ (q : Place). q.packet) went.to)

pub skip-preserved : goal.skip-preserved
skip-preserved g c =
    let went = past g (goal.at.skip-preserved g c).After-run_records-paused in
    record {
      nears = nears_more _ _ _ _ _ _ _ _ _ _ _ c.skip.invariant.nears
          (rw (c.spent-before.ensures, c.spent.ensures) went.nears);
      left = c.run_records-paused.ensures.goes.left;
      before = ap (λ (q : Place). q.step) went.to;
    }
