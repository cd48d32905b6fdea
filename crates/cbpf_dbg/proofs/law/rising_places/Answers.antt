use Rattle.cbpf_dbg.proofs.RisingLemmas as rising
use Rattle.cbpf_dbg.proofs.law.rising_places.Goals as goal

pub returns-clause-entries : goal.returns-clause-entries
returns-clause-entries c = rising.entries_rise

pub returns-clause-hits : goal.returns-clause-hits
returns-clause-hits c = rising.stops_rise

pub returns-clause-rest : goal.returns-clause-rest
returns-clause-rest c = rising.rest_rises
