use Rattle.std.proofs.Common.{◌≡◌, ◌+◌, ◌≤◌, ℕ, List}
use Rattle.cbpf_code.specs.Writing.{Appended}
use Rattle.cbpf_machine.specs.Machine.{Machine}
use Rattle.cbpf_reply.specs.Packet.{texts_from}
use Rattle.pcap_classic.specs.Records.{Record}
use Rattle.cbpf_why.specs.CountedProgram.{IsCounted}
use Rattle.cbpf_why.specs.Ends.{only_ended_of}
use Rattle.cbpf_why.specs.Graph.{block_of, end_part, facts_at}
use Rattle.cbpf_why.proofs.graph.write_ends.Given as goal

abbrev pub invariant-loop-i : goal.invariant-loop-i
invariant-loop-i g l = record {
  inside : l.block ≤ l.i;
  block : (m : Machine) (records : List Record) → IsCounted l.counted m records
      → (j : ℕ) → l.i ≡ j + 1 → l.block ≡ block_of m.list j;
  written : (m : Machine) (records : List Record) → IsCounted l.counted m records
      → Appended (g.W.Write.contents l.fn.w) (g.W.Write.contents l.w)
      (texts_from (λ i. end_part (block_of m.list i) (facts_at m records (only_ended_of m records) i)) 0 l.i);
}
