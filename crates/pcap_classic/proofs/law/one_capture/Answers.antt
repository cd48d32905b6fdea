use Rattle.pcap_classic.proofs.SavefileLemmas as lemmas
use Rattle.pcap_classic.proofs.law.one_capture.Goals as goal

pub returns-clause-capture : goal.returns-clause-capture
returns-clause-capture c = lemmas.one_capture

pub returns-clause-refusal : goal.returns-clause-refusal
returns-clause-refusal c = lemmas.one_refusal

pub returns-clause-memory : goal.returns-clause-memory
returns-clause-memory c = lemmas.only_memory

pub returns-clause-answer : goal.returns-clause-answer
returns-clause-answer c = lemmas.has_answer
