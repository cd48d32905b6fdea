use Rattle.cbpf_why.proofs.LawLemmas as laws
use Rattle.cbpf_why.proofs.law.totals_of_outcomes.Goals as goal

pub returns-clause-verdict : goal.returns-clause-verdict
returns-clause-verdict c = laws.verdict_is_outcome

pub returns-clause-totals : goal.returns-clause-totals
returns-clause-totals c = laws.totals_count_outcomes
