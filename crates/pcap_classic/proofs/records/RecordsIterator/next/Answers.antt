use Rattle.std.proofs.Common.{sym, rules}
use Rattle.pcap_classic.proofs.WalkLemmas.{nothing_left}
use Rattle.pcap_classic.proofs.records.RecordsIterator.next.Goals as goal

pub returns-in_err-record-clause-steps : goal.returns-in_err-record-clause-steps
returns-in_err-record-clause-steps c =
    let none = nothing_left _ (sym c.in_err-record.ensures) in
    rw c.from_residual.ensures (none, none)

pub returns-clause-steps : goal.returns-clause-steps
returns-clause-steps c = search rules
