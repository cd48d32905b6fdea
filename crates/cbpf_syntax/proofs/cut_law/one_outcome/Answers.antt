use Rattle.cbpf_syntax.proofs.Outcomes as laws
use Rattle.cbpf_syntax.proofs.EachLexed as answered
use Rattle.cbpf_syntax.proofs.cut_law.one_outcome.Goals as goal

pub returns-clause-list : goal.returns-clause-list
returns-clause-list c = laws.one_list

pub returns-clause-fault : goal.returns-clause-fault
returns-clause-fault c = laws.one_fault

pub returns-clause-never_both : goal.returns-clause-never_both
returns-clause-never_both c = laws.never_both

pub returns-clause-answered : goal.returns-clause-answered
returns-clause-answered c = answered.each_lexed
