-- The debugger's commands, and how lines spell them (kernel documentation, networking/filter, on `bpf_dbg`, of commands
-- that it has; the rest is this project's own).
use Rattle.std.specs.Prelude.{ℕ, ◌-◌, ◌^◌, pos, if◌then◌else◌, List, [], ◌∷◌, Option, Some, None, option_map}
use Rattle.std.specs.Prelude.{option_and_then, Result, Ok, Err, codes, bytes_eq}
use Rattle.std.specs.Map.{lookup}
use Rattle.std.specs.Str.{is_utf8}
use Rattle.cbpf_code.specs.Extension.{ext_named}
use Rattle.cbpf_reply.specs.Breakpoints.{When, Always, A, X}
use Rattle.cbpf_tool.specs.LineWords.{words_of, after_words, trimmed}
use Rattle.cbpf_tool.specs.Numbers.{number_up_to, signed_number}
use Rattle.cbpf_reply.specs.declared.errors.CommandFault.{CommandFault}
use Rattle.cbpf_reply.specs.declared.errors.CommandFault.TheVariants.{UnknownCommand, WrongArguments}
use Rattle.cbpf_tool.specs.declared.command.Command.{Command}
use Rattle.cbpf_tool.specs.declared.command.Command.TheVariants.{LoadWords, LoadCapture, Session, Quit}
use Rattle.cbpf_tool.specs.declared.command.SessionCommand.TheVariants.{Run, Disassemble, Dump, Breakpoint}
use Rattle.cbpf_tool.specs.declared.command.SessionCommand.TheVariants.{Breakpoints, ResetBreakpoints, Delete, Step}
use Rattle.cbpf_tool.specs.declared.command.SessionCommand.TheVariants.{Select, Mark, Resume, Stops, Value}

-- a command without arguments
abbrev pub alone : Command → List (List ℕ) → Option Command
alone c [] = Some c
alone c (w ∷ ws) = None

-- one number of 64 bits, and no more
abbrev pub sole_number : List (List ℕ) → Option ℕ
sole_number (w ∷ []) = number_up_to (2 ^ 64 - 1) w
sole_number _ = None

-- by two values, where both are
abbrev pub by_both : {X Y Z : Type 0} → (X → Y → Z) → Option X → Option Y → Option Z
by_both f (Some x) (Some y) = Some (f x y)
by_both f (Some x) None = None
by_both f None y = None

-- how many packets at most; without a number there is no limit
abbrev pub run_by : List (List ℕ) → Option Command
run_by [] = Some (Session (Run None))
run_by (w ∷ []) = option_map (λ n. Session (Run (Some n))) (number_up_to (2 ^ 64 - 1) w)
run_by _ = None

-- by the name of a register: a is the accumulator, x the index register
abbrev pub condition : List ℕ → ℕ → Option When
condition r v = if bytes_eq r (codes "a") then Some (A v) else (if bytes_eq r (codes "x") then Some (X v) else None)

-- an instruction's number of 64 bits, and a register's value of 32
abbrev pub breakpoint_by : List (List ℕ) → Option Command
breakpoint_by [] = Some (Session Breakpoints)
breakpoint_by (w ∷ []) =
    if bytes_eq w (codes "reset") then Some (Session ResetBreakpoints)
    else option_map (λ n. Session (Breakpoint n Always)) (number_up_to (2 ^ 64 - 1) w)
breakpoint_by (n ∷ r ∷ v ∷ []) = by_both (λ i when. Session (Breakpoint i when)) (number_up_to (2 ^ 64 - 1) n)
    (option_and_then (condition r) (number_up_to (2 ^ 32 - 1) v))
breakpoint_by _ = None

-- `delete` with its argument
abbrev pub delete_by : List (List ℕ) → Option Command
delete_by ws = option_map (λ n. Session (Delete n)) (sole_number ws)

-- how many instructions, forward or back; without a number it is one
abbrev pub step_by : List (List ℕ) → Option Command
step_by [] = Some (Session (Step (pos 1)))
step_by (w ∷ []) = option_map (λ n. Session (Step n)) (signed_number (2 ^ 63 - 1) w)
step_by _ = None

-- `select` with its argument
abbrev pub select_by : List (List ℕ) → Option Command
select_by ws = option_map (λ n. Session (Select n)) (sole_number ws)

-- a packet's number of 64 bits, and a step of 32
abbrev pub resume_by : List (List ℕ) → Option Command
resume_by (p ∷ s ∷ []) = by_both (λ packet n. Session (Resume (record { packet = packet; step = n })))
    (number_up_to (2 ^ 64 - 1) p) (number_up_to (2 ^ 32 - 1) s)
resume_by _ = None

-- an extension's name, and a number of 32 bits
abbrev pub value_by : List (List ℕ) → Option Command
value_by (name ∷ n ∷ []) = by_both (λ e v. Session (Value e v)) (ext_named name) (number_up_to (2 ^ 32 - 1) n)
value_by _ = None

-- `load bpf`: a word text is not empty
abbrev pub load_words_by : List ℕ → Option Command
load_words_by [] = None
load_words_by (b ∷ bs) = Some (LoadWords (b ∷ bs))

-- `load pcap`: a name is not empty, and UTF-8
abbrev pub load_capture_by : List ℕ → Option Command
load_capture_by [] = None
load_capture_by (b ∷ bs) = if is_utf8 (b ∷ bs) then Some (LoadCapture (b ∷ bs)) else None

-- by the word after `load`, and the text after that word
abbrev pub load_by : List (List ℕ) → List ℕ → Option Command
load_by [] text = None
load_by (w ∷ ws) text =
    if bytes_eq w (codes "bpf") then load_words_by text
    else (if bytes_eq w (codes "pcap") then load_capture_by text else None)

-- how a command reads the words after its name, and the text after the first of them
abbrev pub ReadsArguments : Type 0
ReadsArguments = List (List ℕ) → List ℕ → Option Command

-- the commands by their names
abbrev pub command_table : List (List ℕ × ReadsArguments)
command_table =
    (codes "load", load_by)
    ∷ (codes "disassemble", λ ws text. alone (Session Disassemble) ws)
    ∷ (codes "dump", λ ws text. alone (Session Dump) ws)
    ∷ (codes "breakpoint", λ ws text. breakpoint_by ws)
    ∷ (codes "delete", λ ws text. delete_by ws)
    ∷ (codes "run", λ ws text. run_by ws)
    ∷ (codes "step", λ ws text. step_by ws)
    ∷ (codes "select", λ ws text. select_by ws)
    ∷ (codes "mark", λ ws text. alone (Session Mark) ws)
    ∷ (codes "resume", λ ws text. resume_by ws)
    ∷ (codes "stops", λ ws text. alone (Session Stops) ws)
    ∷ (codes "value", λ ws text. value_by ws)
    ∷ (codes "quit", λ ws text. alone Quit ws)
    ∷ []

-- a command, or wrong arguments where there is none
abbrev pub or_wrong : Option Command → Result (Option Command) CommandFault
or_wrong None = Err WrongArguments
or_wrong (Some c) = Ok (Some c)

-- the command of a row that was found, or else an unknown one
abbrev pub by_reading : Option ReadsArguments → List (List ℕ) → List ℕ → Result (Option Command) CommandFault
by_reading None ws text = Err UnknownCommand
by_reading (Some read) ws text = or_wrong (read ws text)

-- by the first word, the words after it, and what stands after the first of these, without the blanks around it
abbrev pub by_name : List ℕ → List (List ℕ) → List ℕ → Result (Option Command) CommandFault
by_name w ws text = by_reading (lookup (bytes_eq w) command_table) ws text

-- the command of a line's words; a line without words is none
abbrev pub by_words : List (List ℕ) → List ℕ → Result (Option Command) CommandFault
by_words [] text = Ok None
by_words (w ∷ ws) text = by_name w ws text

-- what a line says: no command where it has no words
abbrev pub command_of : List ℕ → Result (Option Command) CommandFault
command_of line = by_words (words_of line) (trimmed (after_words 2 line))
