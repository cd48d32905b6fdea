-- How often instructions ran, and how often the comparison of a jump held (this project's own).
use Rattle.std.specs.Prelude.{ℕ, List, sum_by}
use Rattle.cbpf_machine.specs.Machine.{Machine}
use Rattle.cbpf_machine.specs.Trace.{trace}
use Rattle.cbpf_machine.specs.Choices.{executed_in, taken_in}
use Rattle.pcap_classic.specs.Records.{Record}

-- how often an instruction ran over some packets
abbrev pub executed : Machine → List Record → ℕ → ℕ
executed m records i = sum_by (λ r. executed_in (trace m r.bytes r.wire) i) records

-- how often it was a conditional jump whose comparison held
abbrev pub taken : Machine → List Record → ℕ → ℕ
taken m records i = sum_by (λ r. taken_in m.list (trace m r.bytes r.wire) i) records
