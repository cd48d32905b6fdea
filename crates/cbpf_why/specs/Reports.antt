-- What is reported of a program on a capture (this project's own).
use Rattle.std.specs.Prelude.{◌≡◌, ◌≤◌, ℕ, nat_lt, Bool, ◌⊎◌, false, if◌then◌else◌, List, [], ◌++◌, length, drop, take}
use Rattle.std.specs.Prelude.{Option, Some, None, Result, Ok, Err}
use Rattle.std.specs.List.{flat_map, list_any}
use Rattle.cbpf_code.specs.Writing.{Appended, AppendedPart}
use Rattle.std.specs.Option.{option_map_or}
use Rattle.pcap_classic.specs.declared.ending.Ending.{Ending}
use Rattle.cbpf_machine.specs.Machine.{Machine}
use Rattle.cbpf_reply.specs.Counts.{finished_text}
use Rattle.cbpf_reply.specs.Loads.{cut_text}
use Rattle.pcap_classic.specs.Reading.{NeedsRoom, Reading}
use Rattle.pcap_classic.specs.Records.{Record}
use Rattle.pcap_classic.specs.Savefile.{Savefile}
use Rattle.cbpf_why.specs.declared.chosen.PacketRange.{PacketRange}
use Rattle.cbpf_why.specs.declared.reporting.CaptureEnd.{CaptureEnd}
use Rattle.cbpf_why.specs.declared.reporting.WhyFault.{WhyFault}
use Rattle.cbpf_why.specs.declared.reporting.WhyFault.TheVariants.{Read, Write, Memory}
use Rattle.cbpf_why.specs.declared.report.Report.{Report}
use Rattle.cbpf_why.specs.declared.report.Report.TheVariants.{Summary, Traces, Packets, Coverage, Graph}
use Rattle.cbpf_why.specs.Chosen.{chosen}
use Rattle.cbpf_why.specs.Coverage.{coverage_text}
use Rattle.cbpf_why.specs.Ends.{decided, decided_of, ends_of, only_ended_of}
use Rattle.cbpf_why.specs.Graph.{graph_text}
use Rattle.cbpf_why.specs.Groups.{groups_text, totals}
use Rattle.cbpf_why.specs.Packets.{packet_line}
use Rattle.cbpf_why.specs.Traces.{trace_text}

-- what is written of each packet as it comes
abbrev pub packet_text : Report → Machine → Record → List ℕ
packet_text Traces m r = trace_text m r
packet_text Packets m r = packet_line (decided m r)
packet_text Summary m r = []
packet_text Coverage m r = []
packet_text Graph m r = []

-- where a capture is cut, if it is
abbrev pub cut_line : CaptureEnd → List ℕ
cut_line e = cut_text e.count e.ending

-- what is written of all packets, after the last one; the summary also says where the capture is cut, if its end was
-- read and it is cut
abbrev pub closing_text : Report → Machine → List Record → Option CaptureEnd → List ℕ
closing_text Summary m records end =
    groups_text m.list (decided_of m records)
    ++ (finished_text (totals (ends_of m records)) ++ option_map_or cut_line end [])
closing_text Coverage m records end = coverage_text m records
closing_text Graph m records end = graph_text m records (only_ended_of m records)
closing_text Traces m records end = []
closing_text Packets m records end = []

-- what is written of some records
abbrev pub packets_text : Report → Machine → List Record → List ℕ
packets_text report m records = flat_map (packet_text report m) records

-- how many packets a capture has, and how it ends
abbrev pub end_after : ℕ → Ending → CaptureEnd
end_after count ending = record { count = count; ending = ending }

-- how a capture ends
abbrev pub capture_end : Savefile → CaptureEnd
capture_end c = end_after (length c.records) c.ending

-- a range ends beyond so many packets
abbrev pub ends_beyond : ℕ → PacketRange → Bool
ends_beyond count range = nat_lt count range.last

-- a capture of so many packets is read to its end where a range ends beyond its last packet
abbrev pub goes_to_end : List PacketRange → ℕ → Bool
goes_to_end ranges count = list_any (ends_beyond count) ranges

-- how the capture ends, where it is read to its end
abbrev pub end_read : List PacketRange → Savefile → Option CaptureEnd
end_read ranges c = if goes_to_end ranges (length c.records) then Some (capture_end c) else None

-- the whole text: of the packets that are looked at one by one, and of all of them
unfoldable pub report_text : Report → List PacketRange → Machine → Savefile → List ℕ
report_text report ranges m c =
    let records = chosen ranges c.records in
    packets_text report m records ++ closing_text report m records (end_read ranges c)

-- so many packets were read: no more than up to a number by which all ranges end
abbrev pub ReadsWithin : List PacketRange → ℕ → Type 0
ReadsWithin ranges count = (n : ℕ) → goes_to_end ranges n ≡ false → count ≤ n

-- what is left of a capture is what follows the packets that were read
abbrev pub IsLeft : Savefile → Reading → Type 0
IsLeft c new = new.left ≡ Some (record c { records = drop new.count c.records })

-- a failed read, or out of memory, after so many packets: the texts of those that are looked at were written, and no
-- closing text
pub record WroteFront (report : Report) (ranges : List PacketRange) (m : Machine) (c : Savefile) (count : ℕ)
    (old new : Option (List ℕ)) : Type 0 where
  pub few : count ≤ length c.records
  pub wrote : Appended old new (packets_text report m (chosen ranges (take count c.records)))

-- memory runs out where no packet was read, where the next record needs room, or for a graph
abbrev pub RunsOut : Report → Savefile → ℕ → Type 0
RunsOut report c count = ((count ≡ 0) ⊎ NeedsRoom (drop count c.records) c.ending) ⊎ (report ≡ Graph)

-- What a report on a capture leaves in its writer. How many packets were read, which is `count`, matters only after a
-- read that failed and out of memory.
abbrev pub Reported : Report → List PacketRange → Machine → Savefile → ℕ → Option (List ℕ) → Option (List ℕ)
    → Result (Option CaptureEnd) WhyFault → Type 0
Reported report ranges m c count old new (Ok end) =
    (end ≡ end_read ranges c) × Appended old new (report_text report ranges m c)
Reported report ranges m c count old new (Err Write) = AppendedPart old new (report_text report ranges m c)
Reported report ranges m c count old new (Err Read) = WroteFront report ranges m c count old new
Reported report ranges m c count old new (Err Memory) =
    WroteFront report ranges m c count old new × RunsOut report c count
