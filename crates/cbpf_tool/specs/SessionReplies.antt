-- The replies to the commands of a session, and the view of the session after them
-- (kernel documentation, networking/filter, on `bpf_dbg`, of commands that it has; the rest is this project's own).
use Rattle.std.specs.Prelude.{ℕ, ◌<◌, [], length, List, Option, Some, None, Result, Ok, Err}
use Rattle.cbpf_code.specs.declared.insn.Insn.{Insn}
use Rattle.cbpf_code.specs.Listing.{listing}
use Rattle.cbpf_dbg.specs.Commands as session
use Rattle.cbpf_dbg.specs.Commands.{Answer, without_breakpoints}
use Rattle.cbpf_dbg.specs.View.{View}
use Rattle.cbpf_reply.specs.declared.reply.SessionFault.{SessionFault}
use Rattle.cbpf_reply.specs.Breakpoints.{breakpoints_text, set_in}
use Rattle.cbpf_reply.specs.CDump.{c_dump_text}
use Rattle.cbpf_reply.specs.Counts.{at_text, place_text}
use Rattle.cbpf_reply.specs.Errors.{session_fault_text, no_program_text}
use Rattle.cbpf_reply.specs.Stops.{stops_text}
use Rattle.cbpf_reply.specs.Values.{value_text}
use Rattle.cbpf_tool.specs.RunText.{run_text}
use Rattle.cbpf_tool.specs.declared.command.SessionCommand.{SessionCommand}
use Rattle.cbpf_tool.specs.declared.command.SessionCommand.TheVariants.{Run, Disassemble, Dump, Breakpoint}
use Rattle.cbpf_tool.specs.declared.command.SessionCommand.TheVariants.{Breakpoints, ResetBreakpoints, Delete, Step}
use Rattle.cbpf_tool.specs.declared.command.SessionCommand.TheVariants.{Select, Mark, Resume, Stops, Value}

-- the text of an answer and the view after it; a refusal leaves the view
unfoldable pub reply_and_view : {R : Type 0} → (R → View → List ℕ) → View → Answer R → List ℕ × View
reply_and_view text m (Ok a) = (text a.0 a.1, a.1)
reply_and_view text m (Err e) = (session_fault_text e, m)

-- the text alone, for a command that only asks and so leaves the view
unfoldable pub reply_text : {R : Type 0} → (R → List ℕ) → Result R SessionFault → List ℕ
reply_text text (Ok r) = text r
reply_text text (Err e) = session_fault_text e

-- an instruction of a program that is loaded
abbrev pub HasInstruction : Option (List Insn) → ℕ → Type 0
HasInstruction None n = ⊥
HasInstruction (Some list) n = n < length list

-- `disassemble`, of the program that is loaded
abbrev pub listing_text : Option (List Insn) → List ℕ
listing_text None = no_program_text
listing_text (Some list) = listing list

-- the reply to a command in a view, and the view after it
abbrev pub reply_to : SessionCommand → View → List ℕ × View
reply_to (Run limit) m = reply_and_view run_text m (session.run m limit)
reply_to Disassemble m = (listing_text m.program, m)
reply_to Dump m = (c_dump_text m.program, m)
reply_to (Breakpoint n when) m = reply_and_view (λ u v. set_in v.program n when) m (session.breakpoint_when m n when)
reply_to Breakpoints m = (breakpoints_text m.breakpoints, m)
reply_to ResetBreakpoints m = (breakpoints_text [], without_breakpoints m)
reply_to (Delete n) m = reply_and_view (λ was v. breakpoints_text v.breakpoints) m (session.delete m n)
reply_to (Step n) m = reply_and_view run_text m (session.step m n)
reply_to (Select n) m = reply_and_view (λ u v. at_text (record { packet = n; step = 0 })) m (session.select m n)
reply_to Mark m = (reply_text place_text (session.mark m), m)
reply_to (Resume place) m = reply_and_view (λ u v. at_text place) m (session.resume m place)
reply_to Stops m = (reply_text stops_text (session.stops m), m)
reply_to (Value e n) m = reply_and_view (λ u v. value_text e n) m (session.set_value m e n)
