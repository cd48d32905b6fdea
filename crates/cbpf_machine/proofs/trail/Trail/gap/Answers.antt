use Rattle.cbpf_machine.proofs.KeptLemmas.{ignores_none}
use Rattle.cbpf_machine.proofs.trail.Trail.gap.Goals as goal

pub returns-clause-ignores : goal.returns-clause-ignores
returns-clause-ignores g c = ignores_none _ _
