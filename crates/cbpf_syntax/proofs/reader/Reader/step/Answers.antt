use Rattle.std.proofs.Common.{ℕ, ◌∙◌, sym, ap, subst, map, arith, List}
use Rattle.std.proofs.lemmas.Result.{err_from_is_err_and}
use Rattle.std.proofs.lemmas.List.{length-map}
use Rattle.cbpf_syntax.specs.Tokens.{IsLexFault}
use Rattle.cbpf_syntax.specs.Ahead.{Ahead, HasTaken, IsStepOf}
use Rattle.cbpf_syntax.specs.Views.{lexeme_of}
use Rattle.cbpf_syntax.proofs.Taking.{step_more, step_all}
use Rattle.cbpf_syntax.proofs.reader.Reader.step.Goals.{then-self-via-then-self}
use Rattle.cbpf_syntax.proofs.reader.Reader.step.Goals.{then-self-via-else-self+then-step_len-ahead}
use Rattle.cbpf_syntax.proofs.reader.Reader.step.Goals as goal

pub returns-in_err-fill-clause-fault : goal.returns-in_err-fill-clause-fault
returns-in_err-fill-clause-fault g c =
    let p = err_from_is_err_and c.from_residual.result c.from_residual.ensures.1 in
    let inv = c.loop-self.invariant in
    rw (p.1, p.2) (subst (λ (t : List ℕ). IsLexFault t c.in_err-fill.field-0.0) inv.text c.in_err-fill.ensures.fault)

pub returns-in_err-fill-clause-reads_on : goal.returns-in_err-fill-clause-reads_on
returns-in_err-fill-clause-reads_on g c =
    let p = err_from_is_err_and c.from_residual.result c.from_residual.ensures.1 in
    let inv = c.loop-self.invariant in
    rw p.1 (λ n r. subst (λ (a : Ahead). HasTaken n a) (sym c.in_err-fill.ensures.same) (inv.reading n r))

pub loop-self-preserved : goal.loop-self-preserved
loop-self-preserved g c =
    let inv = c.loop-self.invariant in
    record {
      text = c.in_ok-fill.ensures.text ∙ inv.text;
      reading = λ n r. c.in_ok-fill.ensures.reading n (inv.reading n r);
      left = omega (arith, inv.left, c.in_ok-fill.ensures.left);
    }

pub returns-then-self-clause-step : goal.returns-then-self-clause-step
returns-then-self-clause-step g c ts may =
    let step : IsStepOf (map lexeme_of c.loop-self.self.tokens) c.step_at-step.result =
    rw c.ahead.ensures at c.step_at-step.ensures.step in
    rw may.1 (elim c.then-self.branch [
      | then-self-via-then-self w ↦ step_all (map lexeme_of c.loop-self.self.tokens) may.0 c.step_at-step.result step
          (may.2 (sym (ap (λ (a : Ahead). a.ended) c.self.view_is) ∙ w.if-self.true))
      | then-self-via-else-self+then-step_len-ahead w ↦
          step_more (map lexeme_of c.loop-self.self.tokens) may.0 c.step_at-step.result step
          (let l = rw (w.step_len.ensures, w.ahead-else-self.ensures) at w.if-step_len-ahead.true in
          omega (arith, l, length-map c.loop-self.self.tokens lexeme_of))
    ])

pub returns-then-self-clause-within : goal.returns-then-self-clause-within
returns-then-self-clause-within g c = rw c.ahead.ensures at c.step_at-step.ensures.within

pub returns-then-self-clause-none : goal.returns-then-self-clause-none
returns-then-self-clause-none g c = rw c.ahead.ensures at c.step_at-step.ensures.none

pub returns-then-self-clause-some : goal.returns-then-self-clause-some
returns-then-self-clause-some g c = rw c.ahead.ensures at c.step_at-step.ensures.some

pub returns-then-self-clause-word : goal.returns-then-self-clause-word
returns-then-self-clause-word g c = rw c.ahead.ensures at c.step_at-step.ensures.word
