use Rattle.std.proofs.Common.{rules}
use Rattle.std.proofs.lemmas.Result.{err_from_is_err_and}
use Rattle.cbpf_syntax.proofs.lexer.tokens.Goals as goal

pub returns-in_err-token-clause-fault : goal.returns-in_err-token-clause-fault
returns-in_err-token-clause-fault g c =
    let p = err_from_is_err_and c.from_residual.result c.from_residual.ensures.1 in
    let inv = c.loop-found.invariant in
    rw (p.1, p.2) (rw inv.text at c.in_err-token.ensures.fault)

pub returns-clause-lexed : goal.returns-clause-lexed
returns-clause-lexed g c = search rules
