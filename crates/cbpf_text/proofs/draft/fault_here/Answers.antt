use Rattle.std.proofs.Common.{◌++◌}
use Rattle.cbpf_text.proofs.FaultParts.{lex_refused, grammar_refused}
use Rattle.cbpf_text.proofs.draft.fault_here.Goals as goal

pub returns-in-Ok : goal.returns-in-Ok
returns-in-Ok g c taken r stuck =
    let rest = c.in-Ok.ensures.lexed taken r in
    let first = c.fault-refused.ensures taken rest.0 r rest.1 (stuck rest.0 rest.2) in
    grammar_refused c.args.reader.now.text (taken ++ rest.0) first.0 first.1 c.syntax_fault.result rest.2 first.3
    (c.syntax_fault.ensures first.0 first.1 first.2)

pub returns-in-Err : goal.returns-in-Err
returns-in-Err g c taken r stuck =
    lex_refused c.args.reader.now.text c.lex_fault.result (c.lex_fault.ensures c.args.reader.now.text
    c.in-Err.ensures.fault)
