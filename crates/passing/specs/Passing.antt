-- Which packets pass a program, by the definition of how a packet ends.
use Rattle.std.specs.Prelude.{ℕ, Bool, List, map, filter}
use Rattle.cbpf_machine.specs.Machine.{Machine}
use Rattle.cbpf_machine.specs.Outcomes.{is_pass}
use Rattle.cbpf_machine.specs.Trace.{outcome}
use Rattle.pcap_classic.specs.Records.{Record}

-- whether a packet passes
abbrev pub passes : Machine → Record → Bool
passes m r = is_pass (outcome m r.bytes r.wire)

-- the numbers of the records that pass, in the order of the records
abbrev pub passing : Machine → List Record → List ℕ
passing m records = map (λ r. r.number) (filter (passes m) records)
