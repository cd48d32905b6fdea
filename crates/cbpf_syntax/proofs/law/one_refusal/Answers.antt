use Rattle.cbpf_syntax.proofs.FirstRefusal as refusals
use Rattle.cbpf_syntax.proofs.law.one_refusal.Goals as goal

pub returns-clause-fault : goal.returns-clause-fault
returns-clause-fault c = refusals.one_refusal

pub returns-clause-answered : goal.returns-clause-answered
returns-clause-answered c = refusals.each_parsed
