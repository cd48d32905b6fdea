use Rattle.std.proofs.lemmas.Result.{err_from_is_err_and}
use Rattle.std.proofs.Common.{◌≡◌}
use Rattle.cbpf_syntax.specs.declared.table.Fields.TheVariants.{Constant, Goto, Branch, Swapped}
use Rattle.cbpf_text.proofs.Forms.{constant_insn, goto_insn, swapped_insn, one_branch_insn, two_branch_insn}
use Rattle.cbpf_text.proofs.Forms.{first_refused, second_refused}
use Rattle.cbpf_text.proofs.encode.encode.Goals as goal

pub returns-in_err-offset-in-Goto : goal.returns-in_err-offset-in-Goto
returns-in_err-offset-in-Goto g c ls item h form r =
    let p = err_from_is_err_and c.from_residual.result c.from_residual.ensures.1 in
    rw (p.1, p.2) (first_refused ls c.args.index item c.args.statement.now h form Goto _ c.in-Goto.is
    (λ z. let k : Goto ≡ Constant = z in cc) (c.in_err-offset-in-Goto.ensures.answer ls r))

pub returns-in_err-offset-in-Branch : goal.returns-in_err-offset-in-Branch
returns-in_err-offset-in-Branch g c ls item h form r =
    let p = err_from_is_err_and c.from_residual-in_err-offset-in-Branch.result
    c.from_residual-in_err-offset-in-Branch.ensures.1 in
    rw (p.1, p.2) (first_refused ls c.args.index item c.args.statement.now h form Branch _ c.in-Branch.is
    (λ z. let k : Branch ≡ Constant = z in cc) (c.in_err-offset-in-Branch.ensures.answer ls r))

pub returns-in_err-offset-in-Branch-2 : goal.returns-in_err-offset-in-Branch-2
returns-in_err-offset-in-Branch-2 g c ls item h form r =
    let p = err_from_is_err_and c.from_residual-in_err-offset-in-Branch-2.result
    c.from_residual-in_err-offset-in-Branch-2.ensures.1 in
    rw (p.1, p.2) (second_refused ls c.args.index item c.args.statement.now h form _ _ c.in-Branch.is
    c.if-statement-eq2.true (c.in_ok-offset-in-Branch.ensures.answer ls r)
    (c.in_err-offset-in-Branch-2.ensures.answer ls r))

pub returns-in_err-offset-in-Swapped : goal.returns-in_err-offset-in-Swapped
returns-in_err-offset-in-Swapped g c ls item h form r =
    let p = err_from_is_err_and c.from_residual-in_err-offset-in-Swapped.result
    c.from_residual-in_err-offset-in-Swapped.ensures.1 in
    rw (p.1, p.2) (first_refused ls c.args.index item c.args.statement.now h form Swapped _ c.in-Swapped.is
    (λ z. let k : Swapped ≡ Constant = z in cc) (c.in_err-offset-in-Swapped.ensures.answer ls r))

pub returns-in-Constant : goal.returns-in-Constant
returns-in-Constant g c ls item h form r =
    constant_insn ls c.args.index item c.args.statement.now h form c.in-Constant.is

pub returns-in_ok-offset-in-Goto : goal.returns-in_ok-offset-in-Goto
returns-in_ok-offset-in-Goto g c ls item h form r = goto_insn ls c.args.index item c.args.statement.now h form _
    c.in-Goto.is (c.in_ok-offset-in-Goto.ensures.answer ls r)

pub returns-in_ok-offset-in-Branch-2 : goal.returns-in_ok-offset-in-Branch-2
returns-in_ok-offset-in-Branch-2 g c ls item h form r = two_branch_insn ls c.args.index item c.args.statement.now h
    form _ _ c.in-Branch.is c.if-statement-eq2.true (c.in_ok-offset-in-Branch.ensures.answer ls r)
    (c.in_ok-offset-in-Branch-2.ensures.answer ls r)

pub returns-else-statement-eq2 : goal.returns-else-statement-eq2
returns-else-statement-eq2 g c ls item h form r = one_branch_insn ls c.args.index item c.args.statement.now h form _
    c.in-Branch.is c.if-statement-eq2.false (c.in_ok-offset-in-Branch.ensures.answer ls r)

pub returns-in_ok-offset-in-Swapped : goal.returns-in_ok-offset-in-Swapped
returns-in_ok-offset-in-Swapped g c ls item h form r = swapped_insn ls c.args.index item c.args.statement.now h form _
    c.in-Swapped.is (c.in_ok-offset-in-Swapped.ensures.answer ls r)
