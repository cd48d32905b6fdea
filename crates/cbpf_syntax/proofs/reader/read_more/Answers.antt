use Rattle.std.proofs.Common.{rules, length-append}
use Rattle.std.proofs.lemmas.List.{map-append, take-append-le}
use Rattle.std.proofs.lemmas.Result.{err_from_is_err_and}
use Rattle.cbpf_syntax.proofs.Taking.{ahead_more, ahead_end}
use Rattle.cbpf_syntax.proofs.reader.read_more.Goals as goal

pub returns-in_err-next_token-clause-fault : goal.returns-in_err-next_token-clause-fault
returns-in_err-next_token-clause-fault g c =
    let p = err_from_is_err_and c.from_residual.result c.from_residual.ensures.1 in
    let inv = c.loop-i.invariant in
    rw (p.1, p.2) (rw inv.text at c.in_err-next_token.ensures.fault)

pub returns-in-None-clause-read : goal.returns-in-None-clause-read
returns-in-None-clause-read g c taken a =
    let inv = c.loop-i.invariant in
    let none = rw (inv.text, c.in-None.is) at c.in_ok-next_token.ensures.end in
    let end = rw (inv.text, c.in-None.is) at c.in_ok-next_token.ensures.finished in
    rw end (ahead_end c.args.text.now c.loop-i.here.at _ none (inv.read taken a))

pub loop-i-preserved : goal.loop-i-preserved
loop-i-preserved g c = search (rules, map-append, ahead_more, length-append, take-append-le)
