use Rattle.cbpf_why.proofs.ColumnLemmas.{blanks_taken}
use Rattle.cbpf_why.proofs.columns.prepend_blanks.Goals as goal

pub returns-clause-text : goal.returns-clause-text
returns-clause-text c = rw (← blanks_taken c.args.n 77 c.requires.few) c.prepend.ensures.text
