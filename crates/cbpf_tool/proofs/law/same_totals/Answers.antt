use Rattle.std.proofs.Common.{◌≡◌, ℕ, ◌+◌, ◌-◌, ◌∙◌, List, [], ◌∷◌, refl, sym, ap, count_by, length, nat_eq, take, arith, take_all}
use Rattle.std.specs.Prelude.{if◌then◌else◌}
use Rattle.std.proofs.lemmas.List.Sums.{sum_by-append, sum_by-cons}
use Rattle.pcap_classic.specs.Records.{Record}
use Rattle.cbpf_dbg.specs.Joined.{Entry, counts, entries_from, joined, joined_from, packet_entries}
use Rattle.cbpf_dbg.specs.Machine.{Machine}
use Rattle.cbpf_dbg.specs.Registers.{Registers}
use Rattle.cbpf_dbg.specs.Trace.{trace}
use Rattle.cbpf_dbg.specs.Turn.{turn}
use Rattle.cbpf_why.proofs.LawLemmas.{totals_count_outcomes}
use Rattle.cbpf_reply.specs.Counts.{counts_of, outcomes_of}
use Rattle.cbpf_why.specs.Runs.{executed}
use Rattle.cbpf_tool.specs.Totals.{RunsCountEntries, SameTotals}
use Rattle.cbpf_tool.proofs.law.same_totals.Goals as goal

same : SameTotals
unfolding counts
same m capture =
    let many : length capture + 1 - 1 ≡ length capture = omega arith in
    let all : take (length capture + 1 - 1) capture ≡ capture = rw many (take_all (length capture) capture (omega arith)) in
    totals_count_outcomes m capture ∙ ap (λ l. counts_of (outcomes_of m l)) (sym all)

in_packet : (m : Machine) (r : Record) (packet step i : ℕ) (xs : List Registers)
    → count_by (λ (s : Registers). nat_eq s.pc i) xs ≡ count_by (λ (e : Entry). nat_eq e.state.pc i) (entries_from m r packet step xs)
in_packet m r packet step i [] = refl
in_packet m r packet step i (x ∷ xs) =
    let first : Entry = record { place = record { packet = packet; step = step }; state = x; turn = turn m r.bytes r.wire x } in
    sum_by-cons (λ (s : Registers). if nat_eq s.pc i then 1 else 0) x xs
    ∙ ap (λ (n : ℕ). (if nat_eq x.pc i then 1 else 0) + n) (in_packet m r packet (step + 1) i xs)
    ∙ sym (sum_by-cons (λ (e : Entry). if nat_eq e.state.pc i then 1 else 0) first (entries_from m r packet (step + 1) xs))

in_packets : (m : Machine) (packet i : ℕ) (records : List Record)
    → executed m records i ≡ count_by (λ (e : Entry). nat_eq e.state.pc i) (joined_from m packet records)
in_packets m packet i [] = refl
in_packets m packet i (r ∷ rest) =
    sum_by-cons (λ (q : Record). count_by (λ (s : Registers). nat_eq s.pc i) (trace m q.bytes q.wire)) r rest
    ∙ ap (λ (n : ℕ). n + executed m rest i) (in_packet m r packet 1 i (trace m r.bytes r.wire))
    ∙ ap (λ (n : ℕ). count_by (λ (e : Entry). nat_eq e.state.pc i) (packet_entries m r packet) + n)
    (in_packets m (packet + 1) i rest)
    ∙ sym (sum_by-append (λ (e : Entry). if nat_eq e.state.pc i then 1 else 0) (packet_entries m r packet)
    (joined_from m (packet + 1) rest))

entries : RunsCountEntries
unfolding joined
entries m capture i = in_packets m 1 i capture

pub returns : goal.returns
returns c = record { totals = same; runs = entries }
