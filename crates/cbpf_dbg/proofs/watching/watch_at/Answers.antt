use Rattle.std.proofs.Common.{arith, inl, inr, ◌≡◌, ap, ◌∙◌, Some}
use Rattle.std.specs.Prelude.{slice_get}
use Rattle.cbpf_machine.specs.Follow.{is_met}
use Rattle.cbpf_machine.proofs.SoundLemmas.{sound_few, sound_known}
use Rattle.cbpf_dbg.proofs.CarryLemmas.{same_or_other}
use Rattle.cbpf_dbg.proofs.watching.watch_at.Goals as goal

pub set-requires-clause-few : goal.set-requires-clause-few
set-requires-clause-few g c = omega (arith, c.requires.inside, sound_few c.args.p.now c.len-few.ensures.sound)

pub set-requires-clause-known : goal.set-requires-clause-known
set-requires-clause-known g c = sound_known c.args.p.now c.args.i _ c.len-few.ensures.sound c.at_index.ensures.value

pub returns-clause-watches : goal.returns-clause-watches
returns-clause-watches g c = λ before watches same.
    record {
      hits_are = λ bytes wire s inside.
          elim (same_or_other s.pc c.args.i) [
            | inl here ↦ ap (λ w. is_met w s) (rw here c.set.ensures.here) ∙ c.watch_of.ensures.holds bytes wire s here
            | inr other ↦ ap (λ w. is_met w s) (c.set.ensures.others s.pc other).watch
                ∙ rw (same s other) (watches.hits_are bytes wire s inside)
          ];
      knows = λ i insn at.
          elim (same_or_other i c.args.i) [
            | inl here ↦
                let there : slice_get c.args.p.now c.args.i ≡ Some insn = rw (← here) at in
                let one : c.at_index.result ≡ insn = cc (c.at_index.ensures.value, there) in
                rw (here, ← one) c.set.ensures.knows
            | inr other ↦ rw ((c.set.ensures.others i other).code, (c.set.ensures.others i other).first) (watches.knows i insn at)
          ];
    }
