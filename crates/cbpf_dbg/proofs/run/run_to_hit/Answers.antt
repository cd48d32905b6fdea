use Rattle.std.proofs.Common.{arith, sym, refl}
use Rattle.std.proofs.lemmas.Grind.{common_steps}
use Rattle.cbpf_dbg.proofs.GoingLemmas.{at_hit, goes_more, hits_out, watches_hits}
use Rattle.cbpf_dbg.proofs.RecordsLeftLemmas.{at_end, start_first}
use Rattle.cbpf_dbg.proofs.run.run_to_hit.Goals as goal
use Rattle.cbpf_dbg.proofs.run.run_to_hit.Goals.{then-not-go_on_in_packet+else-not-run_whole, else-not-go_on_in_packet}

pub returns-then-not-run_whole-clause-comes : goal.returns-then-not-run_whole-clause-comes
returns-then-not-run_whole-clause-comes g c =
    let all = goes_more _ _ _ _ _ _ _ _ _ c.if-not-go_on_in_packet.ensures.goes c.if-not-run_whole.ensures.goes in (
      rw all.same at (at_end _ _ _ all.ends (c.if-not-run_whole.ensures.none refl)),
      sym (hits_out _ _ _ _ _ _ all (watches_hits c.args.loaded.now)),
    )

pub front-here-requires : goal.front-here-requires
front-here-requires g c = grind (arith, common_steps)

pub stop_at-requires : goal.stop_at-requires
stop_at-requires g c = elim c.if-not-go_on_in_packet.branch [
  | then-not-go_on_in_packet+else-not-run_whole w ↦
      let ran = w.if-not-run_whole.ensures.goes in
      rw w.walk-is (at_hit _ _ _ _ _ ran).1
  | else-not-go_on_in_packet w ↦
      let went = w.if-not-go_on_in_packet.ensures.goes in
      rw w.walk-is (at_hit _ _ _ _ _ went).1
]

pub returns-clause-comes : goal.returns-clause-comes
returns-clause-comes g c = elim c.if-not-go_on_in_packet.branch [
  | then-not-go_on_in_packet+else-not-run_whole w ↦
      let ran = w.if-not-run_whole.ensures.goes in
      let all = goes_more _ _ _ _ _ _ _ _ _ w.if-not-go_on_in_packet.ensures.goes ran in
      let hit = at_hit _ _ _ _ _ all in
      rw (c.stop_at.ensures hit.0, w.walk-is)
      (refl, omega (arith, all.ends.later (all.entry refl).0, all.same), hit.2)
  | else-not-go_on_in_packet w ↦
      let went = w.if-not-go_on_in_packet.ensures.goes in
      let hit = at_hit _ _ _ _ _ went in
      rw (c.stop_at.ensures hit.0, w.walk-is)
      (refl, omega (arith, went.ends.later (went.entry refl).0, went.same), hit.2)
]

pub returns-clause-start : goal.returns-clause-start
returns-clause-start g c = elim c.if-not-go_on_in_packet.branch [
  | then-not-go_on_in_packet+else-not-run_whole w ↦
      let left = w.if-not-run_whole.ensures.goes.left in
      rw w.walk-is (start_first _ _ _ _ left (rw w.walk-is at (sym c.front-here.ensures)))
  | else-not-go_on_in_packet w ↦
      let left = w.if-not-go_on_in_packet.ensures.goes.left in
      rw w.walk-is (start_first _ _ _ _ left (rw w.walk-is at (sym c.front-here.ensures)))
]
