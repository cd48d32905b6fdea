-- The lines `error: ..`: refusals by their numbers, and out of memory (this project's own).
use Rattle.std.specs.Prelude.{ℕ, List, [], ◌∷◌, codes}
use Rattle.cbpf_code.specs.declared.words.WordFault.{WordFault}
use Rattle.cbpf_code.specs.declared.checker.CheckFault.{CheckFault}
use Rattle.pcap_classic.specs.declared.header.CaptureFault.{CaptureFault}
use Rattle.cbpf_code.specs.Messages.{check_message, out_of_memory, word_message}
use Rattle.cbpf_code.specs.Text.{concat, with_number}
use Rattle.pcap_classic.specs.Messages.{capture_message}
use Rattle.cbpf_reply.specs.declared.errors.CommandFault.{CommandFault}
use Rattle.cbpf_reply.specs.declared.errors.CommandFault.TheVariants as command
use Rattle.cbpf_reply.specs.declared.errors.LoadFault.{LoadFault}
use Rattle.cbpf_reply.specs.declared.errors.LoadFault.TheVariants as load
use Rattle.cbpf_reply.specs.declared.reply.SessionFault.{SessionFault}
use Rattle.cbpf_reply.specs.declared.reply.SessionFault.TheVariants.{NoProgram, NoCapture, NoPackets, NoInstruction}
use Rattle.cbpf_reply.specs.declared.reply.SessionFault.TheVariants.{NoPacket, NoStep, TooFarBack, ZeroCount}
use Rattle.cbpf_reply.specs.declared.reply.SessionFault.TheVariants.{TakesNoValue, Memory}

-- ---- what faults say

-- what S1 says
abbrev pub no_program : List ℕ
no_program = codes "S1 no program"

-- what the refusal of a line that is no command says
abbrev pub command_message : CommandFault → List ℕ
command_message command.UnknownCommand = codes "Q1 unknown command"
command_message command.WrongArguments = codes "Q2 wrong arguments"

-- what the refusal of a file says
abbrev pub load_message : LoadFault → List ℕ
load_message load.Absent = codes "F1 no such file"
load_message load.Device = codes "F2 file could not be read"
load_message load.Memory = out_of_memory

-- what the refusal of a session's command says
abbrev pub session_message : SessionFault → List ℕ
session_message NoProgram = no_program
session_message NoCapture = codes "S2 no capture"
session_message NoPackets = codes "S3 capture has no packets"
session_message NoInstruction = codes "S4 no such instruction"
session_message NoPacket = codes "S5 no such packet"
session_message (NoStep n) = with_number (codes "S6 packet has ") n (codes " steps")
session_message (TooFarBack n) = with_number (codes "S7 at most ") n (codes " back")
session_message ZeroCount = codes "S8 count is zero"
session_message TakesNoValue = codes "S9 no value for this extension"
session_message Memory = out_of_memory

-- ---- the lines of a message

-- what a fault says, at the end of a line that begins so
abbrev pub message_line : List ℕ → List ℕ → List ℕ
message_line start message = concat (start ∷ message ∷ codes "\n" ∷ [])

-- what a fault says, as a line of the debugger
abbrev pub error_line : List ℕ → List ℕ
error_line message = message_line (codes "error: ") message

-- the line of a growth that was refused
abbrev pub memory_text : List ℕ
memory_text = error_line out_of_memory

-- the line of S1
abbrev pub no_program_text : List ℕ
no_program_text = error_line no_program

-- the line of a line that is no command
abbrev pub command_fault_text : CommandFault → List ℕ
command_fault_text fault = error_line (command_message fault)

-- the line of a file that was not loaded
abbrev pub load_fault_text : LoadFault → List ℕ
load_fault_text fault = error_line (load_message fault)

-- the line of a word text that is refused
abbrev pub word_fault_text : WordFault → List ℕ
word_fault_text fault = error_line (word_message fault)

-- the line of a list that the checker refuses
abbrev pub check_fault_text : CheckFault → List ℕ
check_fault_text fault = error_line (check_message fault)

-- the line of a capture that is refused
abbrev pub capture_fault_text : CaptureFault → List ℕ
capture_fault_text fault = error_line (capture_message fault)

-- the line of a session's refusal
abbrev pub session_fault_text : SessionFault → List ℕ
session_fault_text fault = error_line (session_message fault)
