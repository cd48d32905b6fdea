use Rattle.cbpf_syntax.specs.Table.{mnemonics}
use Rattle.std.proofs.Common.{rules}
use Rattle.cbpf_syntax.proofs.table.mnemonics_from.Goals as goal

pub returns-in-106 : goal.returns-in-106
unfolding mnemonics
returns-in-106 c = search rules
