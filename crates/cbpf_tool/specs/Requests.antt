-- What a command line asks for, with `why`: which packets, which values and which report (this project's own).
use Rattle.std.specs.Prelude.{◌≡◌, ℕ, ◌+◌, ◌-◌, ◌^◌, ◌==◌, nat_le, nat_lt, Bool, true, false, if◌then◌else◌, List, [], ◌∷◌}
use Rattle.std.specs.Prelude.{◌++◌, fold}
use Rattle.std.specs.Prelude.{length, take, drop, position, find, bytes_eq, codes, string_bytes, IsPermutation}
use Rattle.std.specs.Prelude.{Option, Some, None, is_none, option_map, option_and_then, unwrap_or}
use Rattle.std.specs.Prelude.{Result, Ok, Err, is_err}
use Rattle.std.specs.List.{filter_map}
use Rattle.cbpf_code.specs.Extension.{ext_named}
use Rattle.cbpf_code.specs.declared.extension.Ext.{Ext}
use Rattle.cbpf_command_line.specs.CommandLine.{meaning, asked_for}
use Rattle.cbpf_command_line.specs.RequestLine.{Requested, job, why, WhyAsked, requested_for, request_faults, Kinds}
use Rattle.cbpf_command_line.specs.RequestLine.{or_else, word_faults}
use Rattle.cbpf_command_line.specs.declared.request.Detail.{Detail}
use Rattle.cbpf_command_line.specs.declared.request.Detail.TheVariants as detail
use Rattle.cbpf_dbg.specs.Values.{Values, no_values, with_value, takes_value}
use Rattle.cbpf_why.specs.declared.chosen.PacketRange.{PacketRange}
use Rattle.cbpf_why.specs.declared.chosen.TheConstants.{ALL_PACKETS}
use Rattle.cbpf_why.specs.declared.report.Report.{Report}
use Rattle.cbpf_why.specs.declared.report.Report.TheVariants as report
use Rattle.cbpf_tool.specs.Numbers.{number_up_to, numeral_value}
use Rattle.cbpf_tool.specs.Remarks.{to_end}
use Rattle.cbpf_tool.specs.declared.request.NamesFault.{NamesFault}
use Rattle.cbpf_tool.specs.declared.request.NamesFault.TheVariants as names
use Rattle.cbpf_tool.specs.declared.request.ValueFault.{ValueFault}
use Rattle.cbpf_tool.specs.declared.request.ValueFault.TheVariants as fault
use Rattle.cbpf_tool.specs.declared.request.WhyJob.{WhyJob}
use Rattle.cbpf_tool.specs.declared.request.Request.{Request}
use Rattle.cbpf_tool.specs.declared.request.Request.TheVariants as request

-- what stands before and after the first byte of a kind
abbrev pub split_once : ℕ → List ℕ → Option (List ℕ × List ℕ)
split_once sign word = option_map (λ i. (take i word, drop (i + 1) word)) (position (λ b. b == sign) word)

-- ---- packets

-- packets are counted from 1
abbrev pub positive : ℕ → Option ℕ
positive n = if n == 0 then None else Some n

-- a number of 64 bits, from 1 on
abbrev pub number_of_packet : List ℕ → Option ℕ
number_of_packet word = option_and_then positive (number_up_to (2 ^ 64 - 1) word)

-- the first packet is not above the last
abbrev pub range_between : ℕ → ℕ → Option PacketRange
range_between first last = if nat_le first last then Some (record { first = first; last = last }) else None

-- the last number of a range; where nothing is given, it is the one that stands for the end of the capture
abbrev pub last_number : List ℕ → Option ℕ
last_number [] = Some to_end
last_number (b ∷ bs) = number_of_packet (b ∷ bs)

-- the range that a word spells, given what stands before and after its `-`, if it has one
abbrev pub range_by : Option (List ℕ × List ℕ) → List ℕ → Option PacketRange
range_by None word = option_map (λ n. record { first = n; last = n }) (number_of_packet word)
range_by (Some ends) word =
    option_and_then (λ first. option_and_then (range_between first) (last_number ends.1)) (number_of_packet ends.0)

-- a number, or a first and a last one with `-` between, of which the last may be missing
abbrev pub packet_range : List ℕ → Option PacketRange
packet_range word = range_by (split_once 45 word) word

-- all packets, where no range is given
abbrev pub or_all : List PacketRange → List PacketRange
or_all [] = ALL_PACKETS ∷ []
or_all (range ∷ ranges) = range ∷ ranges

-- ---- values

-- a name and a number, with `=` between; without a `=` there is no number
abbrev pub name_and_number : List ℕ → List ℕ × List ℕ
name_and_number word = unwrap_or (split_once 61 word) (word, [])

-- a number of 32 bits, decimal or hexadecimal
abbrev pub number_by : Option ℕ → Result ℕ ValueFault
number_by None = Err fault.NumberExpected
number_by (Some n) = if nat_lt n (2 ^ 32) then Ok n else Err fault.NumberOutOfRange

-- the value of an extension, where it takes one
abbrev pub value_for : Ext → Result ℕ ValueFault → Result (Ext × ℕ) ValueFault
value_for e (Err fault) = Err fault
value_for e (Ok n) = if takes_value e then Ok (e, n) else Err fault.TakesNoValue

-- the value of the extension of this name, where it is one
abbrev pub named_value : Option Ext → List ℕ → Result (Ext × ℕ) ValueFault
named_value None number = Err fault.UnknownExtension
named_value (Some e) number = value_for e (number_by (numeral_value number))

-- an extension that takes a value, and its value
abbrev pub value_in : List ℕ → Result (Ext × ℕ) ValueFault
value_in word = named_value (ext_named (name_and_number word).0) (name_and_number word).1

-- values with one that was given
abbrev pub with_given : Values → Result (Ext × ℕ) ValueFault → Values
with_given values (Err fault) = values
with_given values (Ok v) = with_value values v.0 v.1

-- values before and after a word was read that gives this one; they stay as they are where it gives none
abbrev pub Sets : Values → Values → Result (Unit {0}) ValueFault → Result (Ext × ℕ) ValueFault → Type 0
Sets old new (Ok done) given = (is_err given ≡ false) × (new ≡ with_given old given)
Sets old new (Err fault) given = (given ≡ Err fault) × (new ≡ old)

-- the values that words give; a later one replaces an earlier one of the same extension
abbrev pub values_by : List (List ℕ) → Values
values_by words = fold (λ values word. with_given values (value_in word)) no_values words

-- ---- refusals

-- the first word that gives no value
abbrev pub no_value : List (List ℕ) → Option (List ℕ)
no_value words = find (λ word. is_err (value_in word)) words

-- the first word that names no packets
abbrev pub no_packets : List (List ℕ) → Option (List ℕ)
no_packets words = find (λ word. is_none (packet_range word)) words

-- why words don't name packets
abbrev pub IsNamesFault : List (List ℕ) → NamesFault → Type 0
IsNamesFault words (names.Refused word) = no_packets words ≡ Some word.now
IsNamesFault words names.Memory = Unit {0}

-- why a word gives no value
abbrev pub value_reason : ValueFault → List ℕ
value_reason fault.UnknownExtension = codes "unknown extension"
value_reason fault.TakesNoValue = codes "this extension takes no value"
value_reason fault.NumberExpected = codes "number expected"
value_reason fault.NumberOutOfRange = codes "number out of range"

-- the refusal of a word that was given for an argument, with the reason
abbrev pub refusal_text : List ℕ → List ℕ → List ℕ → List ℕ
refusal_text word argument reason =
    codes "invalid value '" ++ (word ++ (codes "' for '" ++ (argument ++ (codes "': " ++ reason))))

-- the refusal of a word that gives no value, and that of one that names no packets
abbrev pub value_refusal : List ℕ → ValueFault → List ℕ
value_refusal word fault = refusal_text word (codes "-v <EXT=N>") (value_reason fault)

abbrev pub packets_refusal : List ℕ → List ℕ
packets_refusal word = refusal_text word (codes "[PACKET]...") (codes "N, N-M or N- expected, counted from 1")

-- the fault of a word, where one is refused
abbrev pub refused_by : Option (List ℕ) → Kinds
refused_by None = []
refused_by (Some word) = word_faults

-- the fault of the first word that gives no value; where there is none, that of the first word that names no packets
abbrev pub why_faults : WhyAsked → Kinds
why_faults asked = or_else (refused_by (no_value asked.values)) (refused_by (no_packets asked.packets))

-- the faults of a job's words
abbrev pub faults_by : Requested → Kinds
faults_by (job asked) = []
faults_by (why asked) = why_faults asked

-- the kinds of faults that a command line may have: those of `request_faults`; where there are none, that of what its
-- words spell. Only a line without a fault is taken
unfoldable pub line_faults : List (List ℕ) → Kinds
line_faults words = or_else (request_faults words) (faults_by (requested_for words))

-- ---- requests

-- without a flag it is the trace of each packet, where packets are named
abbrev pub report_by : Option Detail → Bool → Report
report_by (Some detail.Packets) has_packets = report.Packets
report_by (Some detail.Listing) has_packets = report.Coverage
report_by (Some detail.Graph) has_packets = report.Graph
report_by None true = report.Traces
report_by None false = report.Summary

-- the name of the capture's file; there is none for `-`, which is the standard input
abbrev pub file_name : Option (List ℕ) → Option (List ℕ)
file_name name = option_and_then (λ n. if bytes_eq n (codes "-") then None else Some n) name

-- this job is what the words of `why` ask for
pub record IsWhyJob (asked : WhyAsked) (j : WhyJob) : Type 0 where
  pub report : j.asked.report ≡ report_by asked.detail (nat_lt 0 (length asked.packets))
  pub values : j.asked.values ≡ values_by asked.values
  pub filter : string_bytes j.filter ≡ asked.filter
  pub capture : option_map (λ name. string_bytes name) j.capture ≡ file_name asked.capture
  pub packets : IsPermutation (or_all (filter_map packet_range asked.packets)) j.asked.packets.items

-- a request is what the words ask for
abbrev pub IsRequest : Requested → Request → Type 0
IsRequest (job asked) (request.Job j) = meaning j ≡ asked
IsRequest (why asked) (request.Why j) = IsWhyJob asked j
IsRequest _ _ = ⊥

-- a request for the job that the words ask of the program without `why`
abbrev pub IsJobRequest : List (List ℕ) → Request → Type 0
IsJobRequest words (request.Job j) = meaning j ≡ asked_for words
IsJobRequest words (request.Why j) = ⊥
