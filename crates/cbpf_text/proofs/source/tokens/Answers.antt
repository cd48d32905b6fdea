use Rattle.cbpf_text.proofs.FaultParts.{lexed_on_line}
use Rattle.cbpf_text.proofs.source.tokens.Goals as goal

pub returns-in-Err-clause-refused : goal.returns-in-Err-clause-refused
returns-in-Err-clause-refused g c =
    rw c.on_line.ensures (lexed_on_line c.args.text.now c.lex_fault.result (c.lex_fault.ensures c.args.text.now
    c.in-Err.ensures.fault))
