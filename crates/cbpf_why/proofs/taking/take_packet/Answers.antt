use Rattle.cbpf_code.proofs.WrittenLemmas.{appended-nil}
use Rattle.cbpf_why.proofs.taking.take_packet.Goals as goal

pub returns-in-Summary-clause-wrote : goal.returns-in-Summary-clause-wrote
returns-in-Summary-clause-wrote g c = rw c.in-Summary.is (appended-nil _)

pub returns-in-Coverage-clause-wrote : goal.returns-in-Coverage-clause-wrote
returns-in-Coverage-clause-wrote g c = rw c.in-Coverage.is (appended-nil _)

pub returns-in-Graph-clause-wrote : goal.returns-in-Graph-clause-wrote
returns-in-Graph-clause-wrote g c = rw c.in-Graph.is (appended-nil _)

pub write_trace-requires : goal.write_trace-requires
write_trace-requires g c = c.requires.1.longest
