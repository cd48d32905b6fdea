-- Before which commands a script's replies go out: those that may take long (this project's own). No public clause
-- names it.
use Rattle.std.specs.Prelude.{Bool, true, false, nat_le, unsigned_abs, Option, Some, None, Result, Ok, Err}
use Rattle.cbpf_reply.specs.declared.errors.CommandFault.{CommandFault}
use Rattle.cbpf_tool.specs.declared.command.Command.{Command}
use Rattle.cbpf_tool.specs.declared.command.Command.TheVariants.{LoadWords, LoadCapture, Session, Quit}
use Rattle.cbpf_tool.specs.declared.command.SessionCommand.{SessionCommand}
use Rattle.cbpf_tool.specs.declared.command.SessionCommand.TheVariants.{Run, Disassemble, Dump, Breakpoint}
use Rattle.cbpf_tool.specs.declared.command.SessionCommand.TheVariants.{Breakpoints, ResetBreakpoints, Delete, Step}
use Rattle.cbpf_tool.specs.declared.command.SessionCommand.TheVariants.{Select, Mark, Resume, Stops, Value}
use Rattle.cbpf_tool.specs.declared.flushing.TheConstants.{LONG_STEP}

-- whether a command of the session may make many turns; without `_`, so that each new command gets an answer
abbrev pub makes_many_turns : SessionCommand → Bool
makes_many_turns (Run limit) = true
makes_many_turns (Resume place) = true
makes_many_turns Stops = true
makes_many_turns (Step n) = nat_le LONG_STEP (unsigned_abs n)
makes_many_turns Disassemble = false
makes_many_turns Dump = false
makes_many_turns (Breakpoint n when) = false
makes_many_turns Breakpoints = false
makes_many_turns ResetBreakpoints = false
makes_many_turns (Delete n) = false
makes_many_turns (Select n) = false
makes_many_turns Mark = false
makes_many_turns (Value ext n) = false

-- whether a line's command may take long: it may make many turns, or loads a capture
abbrev pub may_take_long : Result (Option Command) CommandFault → Bool
may_take_long (Ok (Some (LoadCapture name))) = true
may_take_long (Ok (Some (Session c))) = makes_many_turns c
may_take_long (Ok (Some (LoadWords text))) = false
may_take_long (Ok (Some Quit)) = false
may_take_long (Ok None) = false
may_take_long (Err fault) = false
