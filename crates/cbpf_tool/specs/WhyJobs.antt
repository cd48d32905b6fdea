-- What `why` does on a host: what is opened, read and printed, in which order, and which fault ends it (this
-- project's own).
use Rattle.std.specs.Prelude.{◌≡◌, ◌≢◌, ◌⊎◌, ℕ, List, [], ◌∷◌, Option, Some, None, Result, Ok, Err}
use Rattle.std.specs.Prelude.{MatchResult, string_bytes}
use Rattle.std.specs.Option.{option_map}
use Rattle.std.specs.FinMap as map
use Rattle.cbpf_code.specs.declared.insn.Insn.{Insn}
use Rattle.cbpf_dbg.specs.Machine.{machine_of}
use Rattle.pcap_classic.specs.Savefile.{Savefile, IsSavefile, IsHeaderRefusal}
use Rattle.pcap_classic.specs.declared.header.HeaderFault.{HeaderFault}
use Rattle.pcap_classic.specs.declared.reading.OpenFault.{OpenFault}
use Rattle.pcap_classic.specs.declared.reading.OpenFault.TheVariants as open_fault
use Rattle.pcap_classic.specs.declared.reading.ReadFault.TheVariants as read_fault
use Rattle.cbpf_why.specs.Filters.{IsFilter, IsNoFilter}
use Rattle.cbpf_why.specs.Reports.{ReadsWithin, Reported}
use Rattle.cbpf_why.specs.declared.filter.FilterFault.TheVariants as filter_fault
use Rattle.cbpf_why.specs.declared.reporting.CaptureEnd.{CaptureEnd}
use Rattle.cbpf_why.specs.declared.reporting.WhyFault.{WhyFault}
use Rattle.cbpf_why.specs.declared.reporting.WhyFault.TheVariants as why_fault
use Rattle.cbpf_tool.specs.Hints.{filter_hint}
use Rattle.cbpf_tool.specs.Hosted.{Hosted, and_then, without_input, without_output, opened, not_opened, printed}
use Rattle.cbpf_tool.specs.declared.failure.Failure.TheVariants.{Tool, CannotOpen}
use Rattle.cbpf_tool.specs.declared.fault.ToolFault.{ToolFault}
use Rattle.cbpf_tool.specs.declared.fault.ToolFault.TheVariants.{Read, Write, Memory}
use Rattle.cbpf_tool.specs.Remarks.{AreRemarks}
use Rattle.cbpf_tool.specs.declared.remarks.Remarks.{Remarks}
use Rattle.cbpf_tool.specs.declared.report_asked.ReportAsked.{ReportAsked}
use Rattle.cbpf_tool.specs.declared.request.WhyJob.{WhyJob}
use Rattle.cbpf_tool.specs.declared.why_failure.WhyFailure.{WhyFailure}
use Rattle.cbpf_tool.specs.declared.why_failure.WhyFailure.TheVariants as failure

-- the fault of a tool
abbrev pub failed : ToolFault → WhyFailure
failed fault = failure.Job (Tool fault)

-- a read failed of the file of this name, or of the standard input
abbrev pub IsReadFailure : Option (List ℕ) → WhyFailure → Type 0
IsReadFailure (Some name) (failure.Read n) = string_bytes n ≡ name
IsReadFailure None (failure.Job fault) = fault ≡ Tool Read
IsReadFailure _ _ = ⊥

-- why a report on the capture of this name ended
abbrev pub IsReportFailure : Option (List ℕ) → WhyFault → WhyFailure → Type 0
IsReportFailure name why_fault.Read e = IsReadFailure name e
IsReportFailure name why_fault.Write e = e ≡ failed Write
IsReportFailure name why_fault.Memory e = e ≡ failed Memory

-- the result of a report on the capture of this name and link type, as the result of the job: its remarks, or the
-- failure for its fault
abbrev pub IsReported : ReportAsked → Option (List ℕ) → ℕ → Result (Option CaptureEnd) WhyFault
    → Result Remarks WhyFailure → Type 0
IsReported asked name link (Ok end) (Ok remarks) = AreRemarks asked name link end remarks
IsReported asked name link (Err fault) (Err e) = IsReportFailure name fault e
IsReported asked name link _ _ = ⊥

-- the failure is that the capture of this name could not be opened
abbrev pub IsUnopened : List ℕ → WhyFailure → Type 0
IsUnopened name (failure.Job (CannotOpen n)) = string_bytes n ≡ name
IsUnopened name _ = ⊥

-- the failure is that the filter of this name could not be opened
abbrev pub IsNoFile : List ℕ → WhyFailure → Type 0
IsNoFile name (failure.NoFilter n) = string_bytes n ≡ name
IsNoFile name _ = ⊥

-- ---- the filter

-- a filter's text is this program; or it is none, and the failure has the name of its file and the fault; or the text
-- or the program could not be read or held
abbrev pub IsProgram : List ℕ → List ℕ → Result (List Insn) WhyFailure → Type 0
IsProgram name text (Ok p) = IsFilter text p
IsProgram name text (Err (failure.Filter n fault hint)) =
    (string_bytes n ≡ name) × IsNoFilter text fault × (fault ≢ filter_fault.Memory) × (hint ≡ filter_hint text fault)
IsProgram name text (Err (failure.Read n)) = string_bytes n ≡ name
IsProgram name text (Err (failure.Job (Tool Memory))) = Unit {0}
IsProgram name text (Err _) = ⊥

-- the file of this name could not be opened: what `EndsWithoutFile` says of one, for the failures of `why`
pub record NotOpened {X : Type 0} (Names : List ℕ → WhyFailure → Type 0) (old new : Hosted) (name : List ℕ)
    (r : Result X WhyFailure) : Type 0 where
  pub failure : WhyFailure
  pub is_err : r ≡ Err failure
  pub names : Names name failure
  pub event : new ≡ and_then old (not_opened name ∷ [])

-- the file of the filter could not be opened; or it was opened, and `IsProgram` says what came of its text
abbrev pub OpensFilter : Hosted → Hosted → List ℕ → Result (List Insn) WhyFailure → Type 0
OpensFilter old new name r = NotOpened IsNoFile old new name r
    ⊎ ((text : List ℕ) × (map.get old.files name ≡ Some text) × (new ≡ and_then old (opened name ∷ []))
    × IsProgram name text r)

-- ---- the report

-- what is asked of this program, as `Reported` of cbpf_why says it
abbrev pub IsReportOf : List Insn → ReportAsked → Savefile → ℕ → Option (List ℕ) → Option (List ℕ)
    → Result (Option CaptureEnd) WhyFault → Type 0
IsReportOf p asked c count old new done =
    Reported asked.report asked.packets.items (machine_of p asked.values) c count old new done

-- a report on a capture is the one text that was printed, and its result is the job's; or there was no room for a
-- buffer, and nothing was printed
pub data PrintsReport (old new : Hosted) (p : List Insn) (asked : ReportAsked) (name : Option (List ℕ)) (c : Savefile)
    (r : Result Remarks WhyFailure) : Type 0 where
  no_room : new ≡ without_output old → r ≡ Err (failed Memory) → PrintsReport old new p asked name c r
  prints : (text : List ℕ) (count : ℕ) (done : Result (Option CaptureEnd) WhyFault)
      → new ≡ and_then (without_output old) (printed text ∷ []) → ReadsWithin asked.packets.items count
      → IsReportOf p asked c count (Some []) (Some text) done
      → IsReported asked name c.link done r → PrintsReport old new p asked name c r

-- the fault of a header, with the capture's name where it is a file
abbrev pub IsHeaderFailure : Option (List ℕ) → HeaderFault → WhyFailure → Type 0
IsHeaderFailure None fault (failure.Input f) = f ≡ fault
IsHeaderFailure (Some name) fault (failure.Capture n f) = (string_bytes n ≡ name) × (f ≡ fault)
IsHeaderFailure _ fault _ = ⊥

-- a header that was not taken
abbrev pub IsOpenFailure : Option (List ℕ) → OpenFault → WhyFailure → Type 0
IsOpenFailure name (open_fault.Header fault) e = IsHeaderFailure name fault e
IsOpenFailure name (open_fault.Read (read_fault.Read x)) e = IsReadFailure name e
IsOpenFailure name (open_fault.Read read_fault.Memory) e = e ≡ failed Memory

-- a report on the capture that has these bytes. Where their header is refused or could not be read, or there was no memory
-- for it, nothing was printed, and the standard output was not asked for
pub data ReportsOn (old new : Hosted) (p : List Insn) (asked : ReportAsked) (name : Option (List ℕ)) (bytes : List ℕ)
    (r : Result Remarks WhyFailure) : Type 0 where
  unread : (e : WhyFailure) → new ≡ old → IsReadFailure name e ⊎ (e ≡ failed Memory) → r ≡ Err e
      → ReportsOn old new p asked name bytes r
  no_capture : (fault : HeaderFault) (e : WhyFailure) → new ≡ old → IsHeaderRefusal fault bytes
      → IsHeaderFailure name fault e → r ≡ Err e → ReportsOn old new p asked name bytes r
  a_capture : (c : Savefile) → IsSavefile bytes c → PrintsReport old new p asked name c r
      → ReportsOn old new p asked name bytes r

-- a report on the standard input, or on the file of this name, which is opened first
abbrev pub ReportsBy : Hosted → Hosted → List Insn → ReportAsked → Option (List ℕ) → Result Remarks WhyFailure → Type 0
ReportsBy old new p asked None r = ReportsOn (without_input old) new p asked None old.input r
ReportsBy old new p asked (Some name) r = NotOpened IsUnopened old new name r
    ⊎ ((bytes : List ℕ) × (map.get old.files name ≡ Some bytes)
    × ReportsOn (and_then old (opened name ∷ [])) new p asked (Some name) bytes r)

-- ---- the job

-- `why`: the file of the filter is opened first; where it gives no program, that is all, and else the capture is reported
-- on
pub record WhyDone (old new : Hosted) (job : WhyJob) (r : Result Remarks WhyFailure) : Type 0 where
  pub mid : Hosted
  pub filter : Result (List Insn) WhyFailure
  pub opens : OpensFilter old mid (string_bytes job.filter) filter
  pub goes : MatchResult filter
      (λ p. ReportsBy mid new p job.asked (option_map (λ n. string_bytes n) job.capture) r)
      (λ e. (new ≡ mid) × (r ≡ Err e))
