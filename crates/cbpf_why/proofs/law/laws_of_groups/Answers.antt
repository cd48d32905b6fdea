use Rattle.cbpf_why.proofs.GroupLawLemmas as laws
use Rattle.cbpf_why.proofs.law.laws_of_groups.Goals as goal

pub returns-clause-once : goal.returns-clause-once
returns-clause-once c = laws.each_in_one

pub returns-clause-sums : goal.returns-clause-sums
returns-clause-sums c = laws.groups_sum

pub returns-clause-alike : goal.returns-clause-alike
returns-clause-alike c = laws.groups_alike
