-- What a job or a request of the command line does on a host, and the status with which the program ends
-- (this project's own).
use Rattle.std.specs.Prelude.{◌≡◌, ℕ, Bool, true, false, not, if◌then◌else◌, Option, Some, None, Result, Ok, Err, string_bytes}
use Rattle.std.specs.Option.{option_map}
use Rattle.cbpf_command_line.specs.declared.job.Job.{Job}
use Rattle.cbpf_command_line.specs.declared.job.Job.TheVariants.{Asm, Dbg}
use Rattle.cbpf_tool.specs.Hosted.{Hosted}
use Rattle.cbpf_tool.specs.Jobs.{AsmDone, DbgDone}
use Rattle.cbpf_tool.specs.Remarks.{lacks_packets}
use Rattle.cbpf_tool.specs.WhyJobs.{WhyDone}
use Rattle.cbpf_tool.specs.declared.failure.Failure.{Failure}
use Rattle.cbpf_tool.specs.declared.remarks.Remarks.{Remarks}
use Rattle.cbpf_tool.specs.declared.request.Request.{Request}
use Rattle.cbpf_tool.specs.declared.request.Request.TheVariants.{Job as AJob, Why}
use Rattle.cbpf_tool.specs.declared.why_failure.WhyFailure.{WhyFailure}
use Rattle.cbpf_tool.specs.declared.why_failure.WhyFailure.TheVariants as why_failure

-- a job was done, with the names that it has
abbrev pub JobDone : Hosted → Hosted → Job → Result (Unit {0}) Failure → Type 0
JobDone old new (Asm form file) r = AsmDone old new form (option_map (λ n. string_bytes n) file) r
JobDone old new (Dbg input output) r =
    DbgDone old new (option_map (λ n. string_bytes n) input) (option_map (λ n. string_bytes n) output) r

-- the result of `asm` or `dbg` as that of a request
abbrev pub as_request : Result (Unit {0}) Failure → Result (Option Remarks) WhyFailure
as_request (Ok x) = Ok None
as_request (Err e) = Err (why_failure.Job e)

-- the result of `why` as that of a request
abbrev pub why_request : Result Remarks WhyFailure → Result (Option Remarks) WhyFailure
why_request (Ok remarks) = Ok (Some remarks)
why_request (Err e) = Err e

-- a request was done: one of the two jobs, or `why`
abbrev pub RequestDone : Hosted → Hosted → Request → Result (Option Remarks) WhyFailure → Type 0
RequestDone old new (AJob job) r = (done : Result (Unit {0}) Failure) × JobDone old new job done × (r ≡ as_request done)
RequestDone old new (Why job) r = (done : Result Remarks WhyFailure) × WhyDone old new job done × (r ≡ why_request done)

-- a request succeeded, and the capture has each packet that was asked for
abbrev pub is_done : Result (Option Remarks) WhyFailure → Bool
is_done (Ok None) = true
is_done (Ok (Some remarks)) = not (lacks_packets remarks)
is_done (Err e) = false

-- the exit status after a request, which is also 1 where the capture lacks a packet
abbrev pub request_status : Result (Option Remarks) WhyFailure → ℕ
request_status r = if is_done r then 0 else 1
