use Rattle.std.proofs.Common.{rules}
use Rattle.cbpf_code.proofs.AnswerLaws as laws
use Rattle.cbpf_code.proofs.law.each_has_answer.Goals as goal

pub returns-clause-text : goal.returns-clause-text
returns-clause-text c = laws.each_text_is_read

pub returns-clause-list : goal.returns-clause-list
returns-clause-list c = laws.each_list_is_checked

pub returns-clause-limits : goal.returns-clause-limits
returns-clause-limits c = search rules
