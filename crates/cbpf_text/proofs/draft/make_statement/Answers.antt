use Rattle.std.proofs.Common.{rules}
use Rattle.cbpf_text.proofs.Operands.{literal_begin, names_begin, literal_put, literal_kept, name_put, other_put}
use Rattle.cbpf_text.proofs.Operands.{literal_past, names_past}
use Rattle.cbpf_text.proofs.draft.make_statement.Goals as goal

pub loop-i-init : goal.loop-i-init
loop-i-init c = search (rules, literal_past, names_past)

pub loop-i-preserved-in-Name : goal.loop-i-preserved-in-Name
loop-i-preserved-in-Name c = search (rules, literal_kept, name_put)

pub loop-i-preserved-in-Mark : goal.loop-i-preserved-in-Mark
loop-i-preserved-in-Mark c = search (rules, literal_kept, other_put)

pub loop-i-preserved : goal.loop-i-preserved
loop-i-preserved c = search (rules, literal_put, other_put)

pub returns : goal.returns
returns c labels = search (rules, literal_begin, names_begin)
