-- What is counted of a program over records, of which a graph is made (this project's own). No public clause names it.
use Rattle.std.specs.Prelude.{◌≡◌, ◌<◌, ◌*◌, ℕ, false, List, length, slice_index_or}
use Rattle.cbpf_machine.specs.Machine.{Machine}
use Rattle.cbpf_machine.specs.Choices.{runs_at}
use Rattle.pcap_classic.specs.Records.{Record}
use Rattle.cbpf_why.specs.declared.ended.Verdict.{Verdict}
use Rattle.cbpf_why.specs.declared.graph.CountedProgram.{CountedProgram}
use Rattle.cbpf_why.specs.Ends.{only_ended_of}
use Rattle.cbpf_why.specs.Graph.{begins_block}
use Rattle.cbpf_why.specs.Groups.{KeepsAll, by_verdict}
use Rattle.cbpf_why.specs.Runs.{executed, taken}

-- each instruction has its counts, its groups, and says whether it begins a block
pub record HasAllCounts {A P : Type 0} (c : CountedProgram A P) : Type 0 where
  pub runs : length c.runs.now ≡ length c.program.now
  pub begins : length c.begins.now ≡ length c.program.now
  pub groups : (v : Verdict) → length (by_verdict c.groups.now v) ≡ 2 * length c.program.now

-- what is counted of a program over some records: how many they are, the blocks are those of its list, each instruction
-- ran so often, and the groups are those of the records
pub record IsCounted {A P : Type 0} (c : CountedProgram A P) (m : Machine) (records : List Record) : Type 0 where
  pub list : m.list ≡ c.program.now
  pub packets : c.packets ≡ length records
  pub begins : (i : ℕ) → i < length m.list → slice_index_or c.begins.now i false ≡ begins_block m.list i
  pub runs : (i : ℕ) → runs_at c.runs.now i ≡ record { executed = executed m records i; taken = taken m records i }
  pub groups : KeepsAll c.groups.now (length m.list) (only_ended_of m records)
