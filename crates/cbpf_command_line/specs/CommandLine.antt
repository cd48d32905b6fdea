-- The command line as the call `command_line` reads it, and what its words ask for: this project's own, by `clap`'s
-- meaning of a command line. That call is for callers who have only the jobs `asm` and `dbg`, and refuses `why`. The
-- program itself reads the command line of RequestLine.antt.
use Rattle.std.specs.Prelude.{◌≡◌, ◌≢◌, ◌⊎◌, ℕ, if◌then◌else◌, Bool, true, false, [], List, Option, Some, None, option_map, codes}
use Rattle.std.specs.Prelude.{bytes_eq, string_bytes, String}
use Rattle.std.specs.Option.{option_map_or}
use Rattle.clap.specs.Words.{App, Rule, Row, Text, new_app, new_rule, with_rule, with_subcommand, first_of}
use Rattle.clap.specs.Words.{subcommand_of, fault_of}
use Rattle.clap.specs.Kinds.{IsAmong, Kinds}
use Rattle.clap.specs.declared.builder.action.ArgAction.TheVariants.{SetTrue}
use Rattle.clap.specs.declared.error.kind.ErrorKind.{ErrorKind}
use Rattle.clap.specs.declared.error.kind.ErrorKind.TheVariants.{DisplayHelp, DisplayVersion}
use Rattle.cbpf_code.specs.declared.form.Form.{Form}
use Rattle.cbpf_code.specs.declared.form.Form.TheVariants.{Decimal, C}
use Rattle.cbpf_command_line.specs.declared.job.Job.{Job}
use Rattle.cbpf_command_line.specs.declared.job.Job.TheVariants as job
use Rattle.cbpf_command_line.specs.declared.job.LineFault.{LineFault}
use Rattle.cbpf_command_line.specs.declared.job.LineFault.TheVariants.{Help, Refused, Memory}

-- a flag of one letter
abbrev pub flag_rule : Text → ℕ → Rule
flag_rule id letter = record (new_rule id) { short = Some letter; action = Some SetTrue }

-- a file's name: a new rule has no flag, takes one value, and may be left out; `value_names` is for the help, and limits
-- nothing here
abbrev pub file_rule : Text → Rule
file_rule id = record (new_rule id) { value_names = 1 }

-- `-c`
abbrev pub form_rule : Rule
form_rule = flag_rule (codes "c") 99

-- `asm [-c] [file]`
abbrev pub asm_app : App
asm_app = with_rule (with_rule (new_app (codes "asm")) form_rule) (file_rule (codes "file"))

-- `dbg [input [output]]`
abbrev pub dbg_app : App
dbg_app = with_rule (with_rule (new_app (codes "dbg")) (file_rule (codes "input"))) (file_rule (codes "output"))

-- `cbpf [--version]`
abbrev pub bare_app : App
bare_app = record { top = record (new_app (codes "cbpf")).top { has_version = true }; subs = [] }

-- `cbpf` without `why`: with its two other subcommands
abbrev pub app_without_why : App
app_without_why = with_subcommand (with_subcommand bare_app asm_app.top) dbg_app.top

-- what the program without `why` is asked to do, with the names that are given
pub data Asked : Type 0 where
  asm : (form : Form) (file : Option Text) → Asked
  dbg : (input output : Option Text) → Asked

-- a flag is set, by what was found for the arguments
abbrev pub is_set : Text → List Row → Bool
is_set id rows = option_map_or (λ set. bytes_eq set (codes "true")) (first_of id rows) false

-- the C form where the flag is set
abbrev pub form_in : List Row → Form
form_in rows = if is_set (codes "c") rows then C else Decimal

-- by what was found for the arguments of `asm`
abbrev pub asm_asked : List Row → Asked
asm_asked rows = asm (form_in rows) (first_of (codes "file") rows)

-- by what was found for the arguments of `dbg`
abbrev pub dbg_asked : List Row → Asked
dbg_asked rows = dbg (first_of (codes "input") rows) (first_of (codes "output") rows)

-- by the subcommand; without one it is `dbg`
abbrev pub asked_by : Option (Text × List Row) → Asked
asked_by None = dbg None None
asked_by (Some sub) = if bytes_eq sub.0 (codes "asm") then asm_asked sub.1 else dbg_asked sub.1

-- what the words ask of the program without `why`; the first word is the program's own name
unfoldable pub asked_for : List Text → Asked
asked_for words = asked_by (subcommand_of app_without_why words)

-- the kinds of faults that the words may have for the program without `why`; only words without a fault are taken
unfoldable pub faults_in : List Text → Kinds
faults_in words = fault_of app_without_why words

-- the bytes of a string
abbrev pub text_of : {Z : Type 0} → String Z → Text
text_of s = s.bytes.items

-- what a `Job` stands for
abbrev pub meaning : Job → Asked
meaning (job.Asm form file) = asm form (option_map text_of file)
meaning (job.Dbg input output) = dbg (option_map text_of input) (option_map text_of output)

-- it is neither help nor the version
abbrev pub IsRefusalKind : ErrorKind → Type 0
IsRefusalKind kind = (kind ≢ DisplayHelp) × (kind ≢ DisplayVersion)

-- help or the version where it is asked for, a refusal for every other kind of fault; which text it has isn't said
-- here. `Memory` says nothing of the words
abbrev pub IsFaultOf : Kinds → LineFault → Type 0
IsFaultOf kinds (Help text) = IsAmong DisplayHelp kinds ⊎ IsAmong DisplayVersion kinds
IsFaultOf kinds (Refused text) =
    (kind : ErrorKind) × IsRefusalKind kind × IsAmong kind kinds
IsFaultOf kinds Memory = Unit {0}

-- both are `Help` or both are `Refused`, with the same text; or both are `Memory`
abbrev pub IsSameFault : LineFault → LineFault → Type 0
IsSameFault (Help a) (Help b) = text_of a ≡ text_of b
IsSameFault (Refused a) (Refused b) = text_of a ≡ text_of b
IsSameFault Memory Memory = Unit {0}
IsSameFault _ _ = ⊥

-- what is said of a command line that asks for no job: the text of the help or of the refusal
abbrev pub line_message : LineFault → List ℕ
line_message (Help text) = string_bytes text
line_message (Refused text) = string_bytes text
line_message Memory = codes "out of memory"
