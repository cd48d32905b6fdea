-- What a line of a script replies, and the view of the session after it.
use Rattle.std.specs.Prelude.{◌≡◌, ◌≤◌, ◌<◌, ◌⊎◌, ◌-◌, ◌^◌, IsTrue, ℕ, List, [], length, Option, Some, None}
use Rattle.std.specs.Prelude.{◌≢◌, Result, Ok, Err, IsOk, nat_eq}
use Rattle.std.specs.FinMap as map
use Rattle.std.specs.Map.{lookup}
use Rattle.cbpf_code.specs.WordText.{Spells, Refused}
use Rattle.cbpf_code.specs.Sound.{IsSound}
use Rattle.cbpf_code.specs.Faults.{FirstFault}
use Rattle.cbpf_code.specs.declared.insn.Insn.{Insn}
use Rattle.cbpf_code.specs.declared.words.WordFault.{WordFault}
use Rattle.cbpf_code.specs.declared.words.WordFault.TheVariants.{Memory}
use Rattle.cbpf_code.specs.declared.checker.CheckFault.{CheckFault}
use Rattle.cbpf_tool.specs.declared.command.Command.{Command}
use Rattle.cbpf_tool.specs.declared.command.Command.TheVariants.{LoadWords, LoadCapture, Session, Quit}
use Rattle.cbpf_tool.specs.declared.command.SessionCommand.{SessionCommand}
use Rattle.cbpf_tool.specs.declared.command.SessionCommand.TheVariants.{Breakpoint}
use Rattle.cbpf_reply.specs.declared.errors.CommandFault.{CommandFault}
use Rattle.cbpf_reply.specs.declared.errors.LoadFault.TheVariants.{Absent, Device}
use Rattle.pcap_classic.specs.Savefile.{Savefile, IsSavefile, IsRefusal}
use Rattle.pcap_classic.specs.declared.header.CaptureFault.{CaptureFault}
use Rattle.pcap_classic.specs.declared.header.CaptureFault.TheVariants as refusal
use Rattle.cbpf_tool.specs.FileMap.{Held}
use Rattle.cbpf_tool.specs.Loads.{with_failure}
use Rattle.cbpf_dbg.specs.View.{View}
use Rattle.cbpf_dbg.specs.Commands.{with_program_loaded, with_capture_loaded, breakpoint_when}
use Rattle.cbpf_tool.specs.SessionReplies.{reply_to}
use Rattle.cbpf_reply.specs.Errors.{command_fault_text, load_fault_text, memory_text}
use Rattle.cbpf_reply.specs.Errors.{word_fault_text, check_fault_text, capture_fault_text}
use Rattle.cbpf_reply.specs.Loads.{program_text, capture_text}

-- a reply: its text, and the view after it
abbrev pub Reply : Type 0
Reply = List ℕ × View

-- `load bpf`: the word text's refusal, else the checker's, else the program is held
pub data LoadsWords (m : View) (text : List ℕ) (reply : Reply) : Type 0 where
  unreadable : (fault : WordFault) → Refused text fault → fault ≢ Memory → reply ≡ (word_fault_text fault, m)
      → LoadsWords m text reply
  unsound : (list : List Insn) (fault : CheckFault) → Spells text list → FirstFault list fault
      → reply ≡ (check_fault_text fault, m) → LoadsWords m text reply
  accepted : (list : List Insn) → Spells text list → IsSound list
      → reply ≡ (program_text (length list), with_program_loaded m list) → LoadsWords m text reply

-- `load pcap` of a file with these bytes: why they are no capture, else the capture is held
pub data ReadsCapture (m : View) (bytes : List ℕ) (reply : Reply) : Type 0 where
  no_capture : (fault : CaptureFault) → IsRefusal fault bytes → fault ≢ refusal.Memory
      → reply ≡ (capture_fault_text fault, m) → ReadsCapture m bytes reply
  a_capture : (capture : Savefile) → IsSavefile bytes capture
      → reply ≡ (capture_text capture, with_capture_loaded m capture) → ReadsCapture m bytes reply

-- the replies to a capture's bytes, or where there is no such file
abbrev pub LoadsCapture : View → Option (List ℕ) → Reply → Type 0
LoadsCapture m None reply = reply ≡ (load_fault_text Absent, m)
LoadsCapture m (Some bytes) reply = ReadsCapture m bytes reply

-- a line's own reply, by what the line says; `quit` has none
abbrev pub OwnReply : Held → View → Result (Option Command) CommandFault → Reply → Type 0
OwnReply files m (Ok None) reply = reply ≡ ([], m)
OwnReply files m (Ok (Some (LoadWords text))) reply = LoadsWords m text reply
OwnReply files m (Ok (Some (LoadCapture name))) reply = LoadsCapture m (map.get files.by_name name) reply
OwnReply files m (Ok (Some (Session c))) reply = reply ≡ reply_to c m
OwnReply files m (Ok (Some Quit)) reply = ⊥
OwnReply files m (Err e) reply = reply ≡ (command_fault_text e, m)

-- a command of the session that can run out of memory: a breakpoint that is not refused, and whose number is not
-- set yet
abbrev pub CanRunOut : View → SessionCommand → Type 0
CanRunOut m (Breakpoint k when) = IsOk (breakpoint_when m k when) × (lookup (nat_eq k) m.breakpoints ≡ None)
CanRunOut m _ = ⊥

-- a line to which the reply can be `error: out of memory`, but need not be
abbrev pub CanBeUnheld : View → Result (Option Command) CommandFault → Type 0
CanBeUnheld m (Ok (Some (LoadWords text))) = Unit {0}
CanBeUnheld m (Ok (Some (LoadCapture name))) = Unit {0}
CanBeUnheld m (Ok (Some (Session c))) = CanRunOut m c
CanBeUnheld m _ = ⊥

-- a line to which the reply can be F2, the text of `Device`, but need not be
abbrev pub CanBeUnread : Result (Option Command) CommandFault → Type 0
CanBeUnread (Ok (Some (LoadCapture name))) = Unit {0}
CanBeUnread _ = ⊥

-- a failure was counted, or the count was at its greatest value before; one failure, where they are counted exactly
abbrev pub CountsFailure : Held → ℕ → ℕ → Type 0
CountsFailure files f g = (f ≤ g) × ((f < g) ⊎ (f ≡ 2 ^ 64 - 1))
    × (IsTrue files.counts_exactly → g ≡ with_failure f)

-- no failure was counted, where they are counted exactly
abbrev pub CountsNone : Held → ℕ → ℕ → Type 0
CountsNone files f g = (f ≤ g) × (IsTrue files.counts_exactly → g ≡ f)

-- a line's reply, while the count of failures goes from f to g: its own, or in its place `error: out of memory`
-- or F2. The source counts the loads that ended in F2; one that doesn't count exactly may raise its count elsewhere too
pub data LineReplies (files : Held) (m : View) (f g : ℕ) (said : Result (Option Command) CommandFault)
    (reply : Reply) : Type 0 where
  own : CountsNone files f g → OwnReply files m said reply → LineReplies files m f g said reply
  unheld : CountsNone files f g → CanBeUnheld m said → reply ≡ (memory_text, m) → LineReplies files m f g said reply
  unread : CountsFailure files f g → CanBeUnread said → reply ≡ (load_fault_text Device, m)
      → LineReplies files m f g said reply
