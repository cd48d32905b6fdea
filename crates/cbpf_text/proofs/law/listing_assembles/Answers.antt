use Rattle.cbpf_text.proofs.ListedLaw as listed
use Rattle.cbpf_text.proofs.law.listing_assembles.Goals as goal

pub returns-clause-list : goal.returns-clause-list
returns-clause-list c = listed.listing_assembles

pub returns-clause-answer : goal.returns-clause-answer
returns-clause-answer c = listed.listing_answers
