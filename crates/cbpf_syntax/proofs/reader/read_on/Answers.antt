use Rattle.std.specs.Prelude.{IfNone}
use Rattle.std.proofs.Common.{◌≡◌, Option, Some, None, ◌∙◌, ◌++◌, ◌∷◌, [], refl}
use Rattle.std.proofs.lemmas.Result.{err_from_is_err_and}
use Rattle.cbpf_syntax.specs.TokenReading.{IsNextToken, HasNoMore}
use Rattle.cbpf_syntax.proofs.reader.read_on.Goals as goal

pub returns-in_err-_token-clause-fault : goal.returns-in_err-_token-clause-fault
returns-in_err-_token-clause-fault c =
    let p = err_from_is_err_and c.from_residual.result c.from_residual.ensures.1 in
    let inv = c.loop-token.invariant in
    rw (p.1, p.2) (rw inv.text at c.in_err-_token.ensures.fault)

pub loop-token-preserved : goal.loop-token-preserved
loop-token-preserved c =
    let inv = c.loop-token.invariant in
    let next : IsNextToken c.args.lexer.now.text c.loop-token.lexer.at c.next_token.new.self.at c.in-Some._token =
    rw (inv.text, c.in-Some.is) at c.in_ok-_token.ensures.token in
    record {
      text = c.in_ok-_token.ensures.text ∙ inv.text;
      within = next.within;
      read = λ ts lexed. let us = inv.read ts lexed in (us.0 ++ c.in-Some._token ∷ [], next.more us.0 us.1);
    }

if_none : {A : Type 0} (o : Option A) (P : Type 0) → ((x : A) → o ≡ Some x → ⊥) → IfNone o P → P
if_none None P h p = p
if_none (Some x) P h p = absurd (h x refl)

pub returns-clause-lexed : goal.returns-clause-lexed
returns-clause-lexed c ts lexed =
    let inv = c.loop-token.invariant in
    let us = inv.read ts lexed in (
      us.0,
      (if_none _ (HasNoMore c.args.lexer.now.text c.loop-token.lexer.at) c.in_default.not-Some
          (rw inv.text at c.in_ok-_token.ensures.end)) us.0 us.1,
    )
