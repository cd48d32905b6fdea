use Rattle.cbpf_tool.proofs.OutputLaws as laws
use Rattle.cbpf_tool.proofs.law.one_output.Goals as goal

pub returns-clause-output : goal.returns-clause-output
returns-clause-output c = laws.one_output

pub returns-clause-some_output : goal.returns-clause-some_output
returns-clause-some_output c = laws.has_output

pub returns-clause-is_output : goal.returns-clause-is_output
returns-clause-is_output c = laws.own_is_output

pub returns-clause-no_other : goal.returns-clause-no_other
returns-clause-no_other c = laws.no_other
