use Rattle.std.proofs.Common.{rules, ◌<◌, ◌∙◌, ◌+◌, ap, length, drop, arith}
use Rattle.std.proofs.lemmas.List.{drop_all}
use Rattle.std.specs.Option.{option_or}
use Rattle.cbpf_text.specs.Refusals.{uses_fault, uses_from}
use Rattle.cbpf_text.proofs.Forms.{refused_before}
use Rattle.cbpf_text.proofs.Encoding.{fault_next, insns_next, statements_size, statement_at, some_item}
use Rattle.cbpf_text.proofs.encode.encode_all.Goals as goal

pub returns-in-Err-clause-refused : goal.returns-in-Err-clause-refused
returns-in-Err-clause-refused g c ls is h f r =
    let l : c.loop-i.i < length is = omega (arith, c.loop-i-test.true, statements_size c.args.statements.now is h) in
    let e = (c.loop-i.invariant ls is h f r).0 ∙ fault_next ls is c.loop-i.i some_item l in
    rw e (refused_before _ _ (c.in-Err.kind, c.in-Err.at) (c.in-Err.ensures ls _
    (statement_at c.args.statements.now is c.loop-i.i _ some_item h c.loop-i-test.true) (f c.loop-i.i some_item l) r))

pub loop-i-preserved : goal.loop-i-preserved
loop-i-preserved g c ls is h f r =
    let l : c.loop-i.i < length is = omega (arith, c.loop-i-test.true, statements_size c.args.statements.now is h) in
    let inv = c.loop-i.invariant ls is h f r in
    let e = c.in-Ok.ensures ls _ (statement_at c.args.statements.now is c.loop-i.i _ some_item h
    c.loop-i-test.true) (f c.loop-i.i some_item l) r in
    let rest = uses_fault ls (uses_from (c.loop-i.i + 1) (drop (c.loop-i.i + 1) is)) in (
      inv.0 ∙ (fault_next ls is c.loop-i.i some_item l ∙ ap (λ o. option_or o rest) e.0),
      rw c.in_ok-push-in-Ok.ensures.items
          (insns_next ls is c.loop-i.i some_item c.loop-i.insns.items c.in-Ok.insn l inv.1 e.1),
    )

pub returns-clause-encoded : goal.returns-clause-encoded
returns-clause-encoded g c ls is h f r = search (rules, drop_all, statements_size)
