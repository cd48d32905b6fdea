-- What is said of a job that failed, after `cbpf: ` (the texts are this project's own).
use Rattle.std.specs.Prelude.{ℕ, List, ◌++◌, codes, string_bytes}
use Rattle.cbpf_text.specs.Messages.{fault_text}
use Rattle.cbpf_why.specs.Messages.{filter_message, why_message}
use Rattle.cbpf_why.specs.declared.reporting.WhyFault.TheVariants as why
use Rattle.pcap_classic.specs.Messages.{header_message}
use Rattle.cbpf_tool.specs.declared.failure.Failure.{Failure, TheVariants.Tool, TheVariants.Source, TheVariants.CannotOpen}
use Rattle.cbpf_tool.specs.declared.fault.ToolFault.{ToolFault}
use Rattle.cbpf_tool.specs.declared.fault.ToolFault.TheVariants as tool
use Rattle.cbpf_tool.specs.declared.host.CreateFault.{CreateFault}
use Rattle.cbpf_tool.specs.declared.host.CreateFault.TheVariants as create
use Rattle.cbpf_tool.specs.declared.why_failure.WhyFailure.{WhyFailure}
use Rattle.cbpf_tool.specs.declared.why_failure.WhyFailure.TheVariants as failure

-- why a tool ended before its end
abbrev pub tool_message : ToolFault → List ℕ
tool_message (tool.Source fault) = fault_text fault
tool_message tool.Read = why_message why.Read
tool_message tool.Write = why_message why.Write
tool_message tool.Memory = why_message why.Memory

-- why there is no output to a file
abbrev pub create_message : CreateFault → List ℕ
create_message create.NotCreated = codes "cannot open"
create_message create.Memory = codes "out of memory"

-- why a job failed; a file that can't be opened is named
abbrev pub failure_message : Failure → List ℕ
failure_message (Tool fault) = tool_message fault
failure_message (Source fault hint) = fault_text fault
failure_message (CannotOpen name) = create_message create.NotCreated ++ (codes " " ++ string_bytes name)

-- why a request failed; the file whose read, filter or capture is at fault stands before
abbrev pub why_failure_message : WhyFailure → List ℕ
why_failure_message (failure.Job f) = failure_message f
why_failure_message (failure.Read name) = string_bytes name ++ (codes ": " ++ tool_message tool.Read)
why_failure_message (failure.NoFilter name) = failure_message (CannotOpen name)
why_failure_message (failure.Filter name fault hint) = string_bytes name ++ (codes ": " ++ filter_message fault)
why_failure_message (failure.Capture name fault) = string_bytes name ++ (codes ": " ++ header_message fault)
why_failure_message (failure.Input fault) = header_message fault
