use Rattle.cbpf_why.proofs.EdgeLemmas as laws
use Rattle.cbpf_why.proofs.law.laws_of_graphs.Goals as goal

pub returns-clause-sums : goal.returns-clause-sums
returns-clause-sums c = laws.blocks_sum

pub returns-clause-leads : goal.returns-clause-leads
returns-clause-leads c = laws.edges_lead
