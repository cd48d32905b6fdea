-- What is said of a report on standard error: which packets the capture lacks of those that were asked for, and where it
-- is cut (this project's own; the words for a cut are those of the command `load pcap`).
use Rattle.std.specs.Prelude.{◌≡◌, ℕ, ◌-◌, ◌^◌, ◌%◌, ◌==◌, nat_le, Bool, true, false, ◌&&◌, if◌then◌else◌, List, []}
use Rattle.std.specs.Prelude.{◌∷◌, ◌++◌, codes, decimal, Option, Some, None, is_some, string_bytes}
use Rattle.std.specs.List.{flat_map, list_any}
use Rattle.std.specs.Option.{option_map, option_map_or}
use Rattle.cbpf_code.specs.Text.{concat, with_number}
use Rattle.cbpf_reply.specs.Loads.{cut_text}
use Rattle.pcap_classic.specs.declared.ending.Ending.{Ending}
use Rattle.pcap_classic.specs.declared.ending.Ending.TheVariants.{Whole, CutHeader, CutData}
use Rattle.cbpf_why.specs.Chosen.{beyond}
use Rattle.cbpf_why.specs.declared.chosen.PacketRange.{PacketRange}
use Rattle.cbpf_why.specs.declared.reporting.CaptureEnd.{CaptureEnd}
use Rattle.cbpf_why.specs.declared.report.Report.{Report}
use Rattle.cbpf_why.specs.declared.report.Report.TheVariants.{Summary, Traces, Packets, Coverage, Graph}
use Rattle.cbpf_tool.specs.declared.remarks.Remarks.{Remarks}
use Rattle.cbpf_tool.specs.declared.report_asked.ReportAsked.{ReportAsked}

-- whether a report is the summary
abbrev pub is_summary : Report → Bool
is_summary Summary = true
is_summary Traces = false
is_summary Packets = false
is_summary Coverage = false
is_summary Graph = false

-- the summary says where the capture is cut
abbrev pub report_says_ending : Remarks → Bool
report_says_ending r = is_summary r.asked.report

-- what is to be said of a report on the capture of this name and link type, which was read to this end, or wasn't
pub record AreRemarks (asked : ReportAsked) (name : Option (List ℕ)) (link : ℕ) (end : Option CaptureEnd) (r : Remarks)
    : Type 0 where
  pub capture : option_map (λ n. string_bytes n) r.capture ≡ name
  pub link_type : r.link ≡ link
  pub asks : r.asked ≡ asked
  pub ending : r.end ≡ end

-- ---- what a capture lacks

-- this last number stands for the end of the capture
abbrev pub to_end : ℕ
to_end = 2 ^ 64 - 1

-- what a capture of so many packets lacks of a range. One to the end of the capture asks for its first packet, if it is
-- one, and for those after it that are there
abbrev pub lacking : ℕ → PacketRange → Option PacketRange
lacking count range = if range.last == to_end && nat_le range.first count then None else beyond count range

-- ---- the lines

-- a line begins with the program's name, and with that of the capture where it is a file
abbrev pub line_start : Option (List ℕ) → List ℕ
line_start None = codes "cbpf: "
line_start (Some name) = concat (codes "cbpf: " ∷ name ∷ codes ": " ∷ [])

-- the last number of a range, which isn't said where it stands for the end
abbrev pub last_text : ℕ → List ℕ
last_text last = if last == to_end then [] else decimal last

-- a link type that is not Ethernet's
unfoldable pub link_text : ℕ → List ℕ
link_text link = with_number (codes "link type ") link (codes ", not Ethernet\n")

-- the line that says so
abbrev pub other_link_line : Option (List ℕ) → ℕ → List ℕ
other_link_line name link = line_start name ++ link_text link

-- the same where it isn't, which is 1; the link type is in the lower 16 bits of a number in the file (pcap-savefile(5))
abbrev pub link_line : Option (List ℕ) → ℕ → List ℕ
link_line name link = if link % 2 ^ 16 == 1 then [] else other_link_line name (link % 2 ^ 16)

-- a number that the capture lacks, or the first and the last one
abbrev pub lacking_text : PacketRange → List ℕ
lacking_text range =
    if range.first == range.last then with_number (codes "no packet ") range.first (codes "\n")
    else concat (codes "no packets " ∷ decimal range.first ∷ codes "-" ∷ last_text range.last ∷ codes "\n" ∷ [])

-- the line of packets that the capture lacks, where it lacks some
abbrev pub lacking_line : Option (List ℕ) → Option PacketRange → List ℕ
lacking_line name None = []
lacking_line name (Some range) = line_start name ++ lacking_text range

-- where the capture is cut, if it is
abbrev pub ending_line : Option (List ℕ) → ℕ → Ending → List ℕ
ending_line name count Whole = []
ending_line name count (CutHeader offset) = line_start name ++ cut_text count (CutHeader offset)
ending_line name count (CutData offset) = line_start name ++ cut_text count (CutData offset)

-- the bytes of the capture's name, where it has one
abbrev pub name_in : Remarks → Option (List ℕ)
name_in r = option_map (λ n. string_bytes n) r.capture

-- a line for each range of which the capture lacks something, and then one where it is cut and the report doesn't say so
abbrev pub end_lines : Remarks → CaptureEnd → List ℕ
end_lines r end =
    flat_map (λ range. lacking_line (name_in r) (lacking end.count range)) r.asked.packets.items
    ++ (if report_says_ending r then [] else ending_line (name_in r) end.count end.ending)

-- the line of the link type, and those of the end where it was read
unfoldable pub remarks_text : Remarks → List ℕ
remarks_text r = link_line (name_in r) r.link ++ option_map_or (end_lines r) r.end []

-- a capture of so many packets lacks one of some ranges
abbrev pub lacks_any : List PacketRange → ℕ → Bool
lacks_any ranges count = list_any (λ range. is_some (lacking count range)) ranges

-- the capture lacks a packet that was asked for
abbrev pub lacks_packets : Remarks → Bool
lacks_packets r = option_map_or (λ (end : CaptureEnd). lacks_any r.asked.packets.items end.count) r.end false
