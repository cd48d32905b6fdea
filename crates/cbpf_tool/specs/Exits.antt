-- What the program does with the words of its command line, what it says on standard error, and the status with which it
-- ends (this project's own).
use Rattle.std.specs.Prelude.{◌≡◌, ◌⊎◌, ◌++◌, ℕ, List, [], ◌∷◌, Option, Some, None, Result, Ok, Err, codes}
use Rattle.std.specs.Prelude.{string_bytes}
use Rattle.cbpf_code.specs.Text.{concat}
use Rattle.cbpf_code.specs.Writing.{Appended, AppendedPart}
use Rattle.cbpf_command_line.specs.CommandLine.{IsFaultOf}
use Rattle.cbpf_command_line.specs.RequestLine.{requested_for}
use Rattle.cbpf_command_line.specs.declared.job.LineFault.{LineFault}
use Rattle.cbpf_command_line.specs.declared.job.LineFault.TheVariants as line
use Rattle.cbpf_why.specs.Messages.{filter_message}
use Rattle.pcap_classic.specs.Messages.{header_message}
use Rattle.pcap_classic.specs.declared.header.HeaderFault.{HeaderFault}
use Rattle.cbpf_tool.specs.Hints.{no_filter_hint, capture_hint}
use Rattle.cbpf_tool.specs.Hosted.{Hosted, and_then, without_output, printed}
use Rattle.cbpf_tool.specs.Messages.{failure_message, tool_message}
use Rattle.cbpf_tool.specs.Remarks.{remarks_text}
use Rattle.cbpf_tool.specs.Requests.{IsRequest, line_faults}
use Rattle.cbpf_tool.specs.RunJob.{RequestDone, request_status}
use Rattle.cbpf_tool.specs.WhyJobs.{failed}
use Rattle.cbpf_tool.specs.declared.exit.Exit.{Exit}
use Rattle.cbpf_tool.specs.declared.exit.Exit.TheVariants.{Request, Refused, NotUtf8}
use Rattle.cbpf_tool.specs.declared.failure.Failure.TheVariants as job
use Rattle.cbpf_tool.specs.declared.failure.Failure.{Failure}
use Rattle.cbpf_tool.specs.declared.fault.ToolFault.{ToolFault}
use Rattle.cbpf_tool.specs.declared.fault.ToolFault.TheVariants.{Read, Write, Memory}
use Rattle.cbpf_tool.specs.declared.request.Request.{Request as ARequest}
use Rattle.cbpf_tool.specs.declared.why_failure.WhyFailure.{WhyFailure}
use Rattle.cbpf_tool.specs.declared.why_failure.WhyFailure.TheVariants as failure

-- the line below that of a job's failure: the line of a source that is refused
abbrev pub job_hint : Failure → List ℕ
job_hint (job.Tool fault) = []
job_hint (job.Source fault hint) = hint
job_hint (job.CannotOpen name) = []

-- a message as the end of a line
abbrev pub with_newline : List ℕ → List ℕ
with_newline message = message ++ codes "\n"

-- a file of this name can't be opened
abbrev pub unopened_line : List ℕ → List ℕ
unopened_line name = with_newline (codes "cannot open " ++ name)

-- the name of a file, before what is wrong with it
abbrev pub named : List ℕ → List ℕ
named name = name ++ codes ": "

-- why a job failed, with the line below
abbrev pub job_lines : Failure → List ℕ
job_lines f = with_newline (failure_message f) ++ job_hint f

-- why a header is refused, with the line below
abbrev pub header_lines : HeaderFault → List ℕ
header_lines fault = with_newline (header_message fault) ++ capture_hint fault

-- why a request failed, after the name of the file at fault; below stands the line of a source, or what to do
abbrev pub failure_lines : WhyFailure → List ℕ
failure_lines (failure.Job f) = job_lines f
failure_lines (failure.Read name) = named (string_bytes name) ++ with_newline (tool_message Read)
failure_lines (failure.NoFilter name) = concat (codes "cannot open " ∷ string_bytes name ∷ no_filter_hint ∷ [])
failure_lines (failure.Filter name fault hint) =
    named (string_bytes name) ++ (with_newline (filter_message fault) ++ hint)
failure_lines (failure.Capture name fault) = named (string_bytes name) ++ header_lines fault
failure_lines (failure.Input fault) = header_lines fault

-- what a line begins with
unfoldable pub start : List ℕ
start = codes "cbpf: "

-- what is said on standard error
abbrev pub exit_text : Exit → List ℕ
exit_text (Request (Ok None)) = []
exit_text (Request (Ok (Some remarks))) = remarks_text remarks
exit_text (Request (Err f)) = start ++ failure_lines f
exit_text (Refused text) = string_bytes text
exit_text NotUtf8 = codes "cbpf: an argument is not UTF-8\n"

-- the program had no memory
abbrev pub out_of_memory : Exit
out_of_memory = Request (Err (failed Memory))

-- a text of help was written, or a beginning of it where a write failed
abbrev pub Helped : Option (List ℕ) → Option (List ℕ) → List ℕ → Result (Unit {0}) ToolFault → Type 0
Helped old new text (Ok x) = Appended old new text
Helped old new text (Err fault) = AppendedPart old new text × (fault ≡ Write)

-- how the program ends after that
abbrev pub after_help : Result (Unit {0}) ToolFault → Exit
after_help (Ok x) = Request (Ok None)
after_help (Err fault) = Request (Err (failed fault))

-- the exit status: that of the request, and 2 where there is none
abbrev pub status_of : Exit → ℕ
status_of (Request done) = request_status done
status_of (Refused text) = 2
status_of NotUtf8 = 2

-- what the words ask for, or why they ask for nothing
abbrev pub IsLine : List (List ℕ) → Result ARequest LineFault → Type 0
IsLine words (Ok request) = IsRequest (requested_for words) request × (line_faults words ≡ [])
IsLine words (Err fault) = IsFaultOf (line_faults words) fault

-- a text of help went to the standard output, or there was no room for a buffer
abbrev pub Explained : Hosted → Hosted → List ℕ → Exit → Type 0
Explained old new text exit = ((new ≡ without_output old) × (exit ≡ out_of_memory))
    ⊎ ((part : List ℕ) × (new ≡ and_then (without_output old) (printed part ∷ []))
    × (done : Result (Unit {0}) ToolFault) × Helped (Some []) (Some part) text done × (exit ≡ after_help done))

-- a request was done, help was given, or nothing was
abbrev pub Does : Hosted → Hosted → Result ARequest LineFault → Exit → Type 0
Does old new (Ok request) exit = (done : _) × RequestDone old new request done × (exit ≡ Request done)
Does old new (Err (line.Help text)) exit = Explained old new (string_bytes text) exit
Does old new (Err (line.Refused text)) exit = (new ≡ old) × (exit ≡ Refused text)
Does old new (Err line.Memory) exit = (new ≡ old) × (exit ≡ out_of_memory)

-- what the words of a command line ask for was done
pub record WordsDone (old new : Hosted) (words : List (List ℕ)) (exit : Exit) : Type 0 where
  pub line : Result ARequest LineFault
  pub read : IsLine words line
  pub does : Does old new line exit
