use Rattle.std.proofs.Common.{◌≡◌, ◌≢◌, arith, inl, inr, ap, ◌∙◌, Some}
use Rattle.std.proofs.lemmas.Bool.{cases_lt}
use Rattle.std.proofs.lemmas.Option.{slice_get_within}
use Rattle.std.specs.Prelude.{slice_get}
use Rattle.cbpf_machine.specs.Follow.{is_met}
use Rattle.cbpf_machine.proofs.SoundLemmas.{sound_few, sound_known}
use Rattle.cbpf_dbg.proofs.watching.watch.Goals as goal

pub set-requires-clause-few : goal.set-requires-clause-few
set-requires-clause-few g c = omega (
  arith,
  c.scan-test.true,
  c.len-i-end.ensures.value,
  c.scan.auto.i-end,
  sound_few c.args.p.now c.len-i-end.ensures.sound,
)

pub set-requires-clause-known : goal.set-requires-clause-known
set-requires-clause-known g c =
    sound_known c.args.p.now c.scan.i _ c.len-i-end.ensures.sound c.at_index.ensures.value

pub scan-preserved : goal.scan-preserved
scan-preserved g c =
    record {
      watches = λ bytes wire s before.
          elim (cases_lt s.pc c.scan.i) [
            | inl seen ↦
                let other : s.pc ≢ c.scan.i = λ e. omega (arith, e, seen) in
                ap (λ w. is_met w s) (c.set.ensures.others s.pc other).watch ∙ c.scan.invariant.watches bytes wire s seen
            | inr last ↦
                let here : s.pc ≡ c.scan.i = omega (arith, before, last) in
                ap (λ w. is_met w s) (rw here c.set.ensures.here) ∙ c.watch_of.ensures.holds bytes wire s here
          ];
      knows = λ i insn before at.
          elim (cases_lt i c.scan.i) [
            | inl seen ↦
                let other : i ≢ c.scan.i = λ e. omega (arith, e, seen) in
                rw ((c.set.ensures.others i other).code, (c.set.ensures.others i other).first) (c.scan.invariant.knows i insn seen at)
            | inr last ↦
                let here : i ≡ c.scan.i = omega (arith, before, last) in
                let there : slice_get c.args.p.now c.scan.i ≡ Some insn = rw (← here) at in
                let same : c.at_index.result ≡ insn = cc (c.at_index.ensures.value, there) in
                rw (here, ← same) c.set.ensures.knows
          ];
      room = c.set.ensures.room ∙ c.scan.invariant.room;
    }

pub returns-clause-watches : goal.returns-clause-watches
returns-clause-watches g c =
    record {
      hits_are = λ bytes wire s inside. c.scan.invariant.watches bytes wire s
          (omega (arith, inside, c.scan-test.false, c.len-i-end.ensures.value));
      knows = λ i insn at.
          let within = slice_get_within c.args.p.now i insn at in
          c.scan.invariant.knows i insn (omega (arith, within, c.scan-test.false, c.len-i-end.ensures.value)) at;
    }
