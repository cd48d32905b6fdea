use Rattle.std.proofs.Common.{◌≡◌, ◌≢◌, arith, inl, inr, Some}
use Rattle.std.proofs.lemmas.Bool.{cases_lt}
use Rattle.std.proofs.lemmas.Option.{slice_get_within}
use Rattle.std.specs.Prelude.{slice_get}
use Rattle.cbpf_machine.proofs.SoundLemmas.{sound_few, sound_known}
use Rattle.session_tests.proofs.machine_trail.only.Goals as goal

pub set-requires-clause-few : goal.set-requires-clause-few
set-requires-clause-few c = omega (arith, c.all-test.true, c.all.auto.i-end, c.len-i-end.ensures.value, sound_few c.args.p.now c.len-i-end.ensures.sound)

pub set-requires-clause-known : goal.set-requires-clause-known
set-requires-clause-known c = sound_known c.args.p.now c.all.i _ c.at_index.ensures.sound c.at_index.ensures.value

pub all-preserved : goal.all-preserved
all-preserved c =
    record {
      knows = λ i insn before at.
          elim (cases_lt i c.all.i) [
            | inl seen ↦
                let other : i ≢ c.all.i = λ e. omega (arith, e, seen) in
                rw ((c.set.ensures.others i other).code, (c.set.ensures.others i other).first) (c.all.invariant.knows i insn seen at)
            | inr last ↦
                let here : i ≡ c.all.i = omega (arith, before, last) in
                let there : slice_get c.args.p.now c.all.i ≡ Some insn = rw (← here) at in
                let same : c.at_index.result ≡ insn = cc (c.at_index.ensures.value, there) in
                rw (here, ← same) c.set.ensures.knows
          ];
    }

pub returns : goal.returns
returns c =
    record {
      knows = λ i insn at.
          let within = slice_get_within c.args.p.now i insn at in
          c.all.invariant.knows i insn (omega (arith, within, c.all-test.false, c.len-i-end.ensures.value)) at;
    }
