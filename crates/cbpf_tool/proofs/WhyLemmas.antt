-- What `why` did on its machine.
use Rattle.std.proofs.Common.{◌≡◌, ℕ, List, [], ◌∷◌, Option, Some, None, Result, Ok, Err, inl, inr, refl, ap}
use Rattle.std.specs.Prelude.{IsSomeAnd}
use Rattle.std.specs.FinMap as map
use Rattle.cbpf_code.specs.declared.insn.Insn.{Insn}
use Rattle.pcap_classic.specs.Reading.{IsOpenFault}
use Rattle.pcap_classic.specs.Savefile.{Savefile}
use Rattle.pcap_classic.specs.declared.reading.OpenFault.{OpenFault}
use Rattle.pcap_classic.specs.declared.reading.OpenFault.TheVariants.{Header, Read as ReadAt}
use Rattle.pcap_classic.specs.declared.reading.ReadFault.TheVariants as read_fault
use Rattle.cbpf_why.specs.Filters.{text_after, IsNoFilter}
use Rattle.cbpf_why.specs.declared.filter.FilterFault.{FilterFault}
use Rattle.cbpf_why.specs.declared.filter.FilterFault.TheVariants as filter
use Rattle.cbpf_why.specs.declared.reporting.CaptureEnd.{CaptureEnd}
use Rattle.cbpf_why.specs.declared.reporting.WhyFault.{WhyFault}
use Rattle.cbpf_why.specs.declared.reporting.WhyFault.TheVariants.{Read, Write, Memory}
use Rattle.cbpf_why.specs.Reports.{ReadsWithin}
use Rattle.cbpf_tool.specs.Hints.{filter_hint}
use Rattle.cbpf_tool.specs.Hosted.{Hosted, IsReady, and_then, without_output, opened, printed}
use Rattle.cbpf_tool.specs.WhyJobs.{IsReportOf, PrintsReport, prints, IsReported, ReportsOn, unread, no_capture}
use Rattle.cbpf_tool.specs.WhyJobs.{IsOpenFailure, OpensFilter}
use Rattle.cbpf_tool.specs.declared.remarks.Remarks.{Remarks}
use Rattle.cbpf_tool.specs.declared.report_asked.ReportAsked.{ReportAsked}
use Rattle.cbpf_tool.specs.declared.why_failure.WhyFailure.{WhyFailure}
use Rattle.cbpf_tool.proofs.HostLemmas.{appended-some, part-some}

-- what is said below a filter that is refused goes by its text, which stays where it is a source
pub hinted : (old new : List ℕ) (fault : FilterFault) → IsNoFilter old fault → new ≡ text_after old
    → filter_hint new fault ≡ filter_hint old fault
hinted old new (filter.Source f at) h k = ap (λ text. filter_hint text (filter.Source f at)) (rw h.0 at k)
hinted old new (filter.Words f) h k = refl
hinted old new (filter.Check f) h k = refl
hinted old new filter.Memory h k = refl

-- a report leaves a text in a writer that was empty
reported-some : (p : List Insn) (asked : ReportAsked) (c : Savefile) (count : ℕ) (new : Option (List ℕ))
    (end : Result (Option CaptureEnd) WhyFault)
    → IsReportOf p asked c count (Some []) new end → (text : List ℕ) × (new ≡ Some text)
reported-some p asked c count new (Ok x) h = appended-some [] new _ h.1
reported-some p asked c count new (Err Read) h = appended-some [] new _ h.wrote
reported-some p asked c count new (Err Memory) h = appended-some [] new _ h.0.wrote
reported-some p asked c count new (Err Write) h = part-some [] new _ h

pub report-printed : (h mid new : Hosted) (l : List Insn) (asked : ReportAsked) (name : Option (List ℕ)) (c : Savefile)
    (count : ℕ) (old w : Option (List ℕ)) (end : Result (Option CaptureEnd) WhyFault) (r : Result Remarks WhyFailure)
    → mid ≡ without_output h → old ≡ Some [] → IsReportOf l asked c count old w end → ReadsWithin asked.packets.items count
    → ((text : List ℕ) → w ≡ Some text → new ≡ and_then mid (printed text ∷ []))
    → IsReported asked name c.link end r → PrintsReport h new l asked name c r
report-printed h mid new l asked name c count old w end r m o d within p e =
    let b : IsReportOf l asked c count (Some []) w end = rw o at d in
    let some = reported-some l asked c count w end b in
    prints some.0 count end (rw m at (p some.0 some.1)) within (rw some.1 at b) e

pub some-and : {X : Type 0} (o : Option X) (P : X → Type 0) → IsSomeAnd o P → (x : X) × (o ≡ Some x) × P x
some-and None P h = absurd h
some-and (Some x) P h = (x, refl, h)

-- a header that was not taken
pub open-refused : (h : Hosted) (p : List Insn) (asked : ReportAsked) (name : Option (List ℕ)) (bytes : List ℕ)
    (fault : OpenFault) (e : WhyFailure)
    → IsOpenFault bytes fault → IsOpenFailure name fault e → ReportsOn h h p asked name bytes (Err e)
open-refused h p asked name bytes (Header fault) e refusal fails = no_capture fault e refl refusal fails refl
open-refused h p asked name bytes (ReadAt (read_fault.Read x)) e refusal fails = unread e refl (inl fails) refl
open-refused h p asked name bytes (ReadAt read_fault.Memory) e refusal fails = unread e refl (inr fails) refl

-- a report on a file that was opened
pub report-opened : (h mid new : Hosted) (name at bytes : List ℕ) (p : List Insn) (asked : ReportAsked)
    (r : Result Remarks WhyFailure) → at ≡ name → map.get h.files at ≡ Some bytes → mid ≡ and_then h (opened at ∷ [])
    → ReportsOn mid new p asked (Some name) bytes r → (x : List ℕ) × (map.get h.files name ≡ Some x)
    × ReportsOn (and_then h (opened name ∷ [])) new p asked (Some name) x r
report-opened h mid new name at bytes p asked r e g m d = (bytes, rw e at g, rw (m, e) at d)

-- after a filter was opened the machine can still print
pub ready-after : (old mid : Hosted) (name : List ℕ) (r : Result (List Insn) WhyFailure) → OpensFilter old mid name r
    → IsReady old → IsReady mid
ready-after old mid name r (inl h) ready = rw h.event ready
ready-after old mid name r (inr h) ready = rw h.2 ready
