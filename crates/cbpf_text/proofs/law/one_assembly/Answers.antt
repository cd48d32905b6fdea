use Rattle.std.proofs.Common.{rules}
use Rattle.cbpf_text.proofs.OneAnswer as one
use Rattle.cbpf_text.proofs.Answered as answered
use Rattle.cbpf_text.proofs.law.one_assembly.Goals as goal

pub returns-clause-list : goal.returns-clause-list
returns-clause-list c = one.one_assembly

pub returns-clause-never_both : goal.returns-clause-never_both
returns-clause-never_both c = one.never_both

pub returns-clause-place : goal.returns-clause-place
returns-clause-place c = one.one_place

pub returns-clause-refusal : goal.returns-clause-refusal
returns-clause-refusal c = one.one_refusal

pub returns-clause-answered : goal.returns-clause-answered
returns-clause-answered c = answered.each_answered

pub returns-clause-farthest : goal.returns-clause-farthest
returns-clause-farthest c = search rules
