use Rattle.cbpf_machine.specs.Machine.{machine_of}
use Rattle.std.proofs.Common.{◌≡◌, [], ◌∷◌, ◌++◌, arith, sym, append-nil, refl, ap, ◌∙◌, inl, rules}
use Rattle.cbpf_dbg.proofs.CarryLemmas.{known-sound}
use Rattle.cbpf_dbg.proofs.WholeLemmas.{HasLoaded, stops-held, from_start, going-spare, going-found, going-stop}
use Rattle.cbpf_dbg.proofs.WholeLemmas.{going-end, fewer, going-turns, end-turns}
use Rattle.cbpf_dbg.proofs.HereLemmas.{going-returns, end-returns}
use Rattle.cbpf_dbg.proofs.session.Session.run_to_end.Goals as goal

pub runs-init : goal.runs-init
runs-init g c =
    let holds :
    HasLoaded (machine_of c.in-Some._program c.args.self.now.values) c.in-Some-capture.capture c.args.self.now = record {
      program = rw (← c.self.view_is) c.in-Some.is;
      values = refl;
      capture = rw (← c.self.view_is) c.in-Some-capture.is;
    } in
    record {
      going = (
        machine_of c.in-Some._program c.args.self.now.values,
        c.in-Some-capture.capture,
        record {
          sound = (known-sound _ _ _ _ _ _ c.in-Some.is c.self.invariant.1);
          few = omega (arith, c.count-few.ensures.value, c.count-few.ensures.bounded);
          old_holds = holds;
          new_holds = holds;
          passed = [];
          place = refl;
          found = sym (append-nil _);
          hits = refl;
          spent = refl;
          spare = c.requires;
        },
      );
    }

pub returns-then-is_err-clause-from_start : goal.returns-then-is_err-clause-from_start
returns-then-is_err-clause-from_start g c = from_start c.args.self.now

pub returns-then-is_err-clause-memory : goal.returns-then-is_err-clause-memory
returns-then-is_err-clause-memory g c = λ _. let w = c.runs.invariant.going in
    rw c.reserve.ensures.items (going-found _ _ _ _ _ _ _ _ w.2)

pub returns-then-is_err-clause-returns : goal.returns-then-is_err-clause-returns
returns-then-is_err-clause-returns g c = λ all. let w = c.runs.invariant.going in
    rw c.reserve.ensures.items (going-returns _ _ _ _ w.2.old_holds _ _ _ _ w.2 all)

pub returns-then-is_err-clause-memory_turns : goal.returns-then-is_err-clause-memory_turns
returns-then-is_err-clause-memory_turns g c = λ _. let w = c.runs.invariant.going in going-turns _ _ _ _ _ _ _ _ w.2

pub run-requires : goal.run-requires
run-requires g c = let w = c.runs.invariant.going in going-spare _ _ _ _ _ _ _ _ w.2

pub runs-smaller : goal.runs-smaller
runs-smaller g c = fewer c.runs.self c.run.new.self c.in-Stopped.stop (rw c.in-Stopped.is at c.in-Ok.ensures.ahead)

pub runs-preserved : goal.runs-preserved
runs-preserved g c =
    let pushed : c.push.new.self.items ≡ c.runs.found.items ++ c.in-Stopped.stop ∷ [] =
    c.in-Ok-push.ensures.items ∙ ap (λ xs. xs ++ c.in-Stopped.stop ∷ []) c.reserve.ensures.items in
    record {
      going = (
        c.runs.invariant.going.0,
        c.runs.invariant.going.1,
        going-stop _ _ _ _ _ _ _ _ c.runs.invariant.going.2 _ _ _ _ (rw c.in-Stopped.is at c.in-Ok.ensures.ahead) c.run.ensures.after
            c.run.ensures.turns pushed,
      );
    }

pub returns-in-Finished-clause-reply : goal.returns-in-Finished-clause-reply
returns-in-Finished-clause-reply g c =
    let w = c.runs.invariant.going in
    inl ((going-end _ _ _ _ _ _ _ _ w.2 _ _ (rw c.in-Finished.is at c.in-Ok.ensures.ahead) (rw c.in-Finished.is at c.in-Ok.ensures.reply)
    c.run.ensures.after).0)

pub returns-in-Finished-clause-after : goal.returns-in-Finished-clause-after
returns-in-Finished-clause-after g c =
    let w = c.runs.invariant.going in
    (going-end _ _ _ _ _ _ _ _ w.2 _ _ (rw c.in-Finished.is at c.in-Ok.ensures.ahead) (rw c.in-Finished.is at c.in-Ok.ensures.reply)
    c.run.ensures.after).1

pub returns-in-Finished-clause-stops : goal.returns-in-Finished-clause-stops
returns-in-Finished-clause-stops g c =
    let w = c.runs.invariant.going in
    let end = going-end _ _ _ _ _ _ _ _ w.2 _ _ (rw c.in-Finished.is at c.in-Ok.ensures.ahead) (rw c.in-Finished.is at c.in-Ok.ensures.reply)
    c.run.ensures.after in
    (_, stops-held _ _ _ ((w.2).old_holds), c.reserve.ensures.items ∙ end.2)

pub returns-in-Finished-clause-turns : goal.returns-in-Finished-clause-turns
returns-in-Finished-clause-turns g c =
    let w = c.runs.invariant.going in
    end-turns _ _ _ _ _ _ _ _ w.2 c.run.new.self c.in-Finished.counts (rw c.in-Finished.is at c.in-Ok.ensures.ahead) _ c.run.ensures.turns

pub returns-in-Finished-clause-from_start : goal.returns-in-Finished-clause-from_start
returns-in-Finished-clause-from_start g c = from_start c.args.self.now

pub returns-in-Finished-clause-returns : goal.returns-in-Finished-clause-returns
returns-in-Finished-clause-returns g c = λ all.
    let w = c.runs.invariant.going in
    let end = going-end _ _ _ _ _ _ _ _ w.2 _ _ (rw c.in-Finished.is at c.in-Ok.ensures.ahead) (rw c.in-Finished.is at c.in-Ok.ensures.reply)
    c.run.ensures.after in
    end-returns _ _ _ _ w.2.old_holds _ _ end.1 (c.reserve.ensures.items ∙ end.2) all

pub returns-in_default-clause-refused : goal.returns-in_default-clause-refused
returns-in_default-clause-refused g c = search rules
