-- What the jobs do on a host: what they open, create and write, in which order, and which fault ends a job (this
-- project's own). Files that the commands of a script load aren't among these: what they gave stands in the replies.
use Rattle.std.specs.Prelude.{◌≡◌, ◌⊎◌, ℕ, List, [], ◌∷◌, Option, Some, None, Result, Ok, Err, string_bytes}
use Rattle.std.specs.FinMap as map
use Rattle.cbpf_code.specs.Writing.{Appended}
use Rattle.cbpf_code.specs.declared.form.Form.{Form}
use Rattle.cbpf_text.specs.Refusals.{IsPlacedFault, on_line}
use Rattle.cbpf_text.specs.declared.placed.PlacedFault.{PlacedFault}
use Rattle.cbpf_text.specs.declared.placed.PlacedFault.TheVariants as placed
use Rattle.cbpf_tool.specs.Assembling.{Assembled}
use Rattle.cbpf_tool.specs.Debugged.{Debugged}
use Rattle.cbpf_tool.specs.FileMap.{FileSource, known_source}
use Rattle.cbpf_tool.specs.declared.fault.ToolFault.{ToolFault}
use Rattle.cbpf_tool.specs.declared.fault.ToolFault.TheVariants as tool
use Rattle.cbpf_tool.specs.declared.fault.ToolFault.TheVariants.{Memory}
use Rattle.cbpf_tool.specs.Hints.{source_hint}
use Rattle.cbpf_tool.specs.Hosted.{Hosted, Event, and_then, without_input, without_output}
use Rattle.cbpf_tool.specs.Hosted.{opened, not_opened, created, not_created, wrote, printed}
use Rattle.cbpf_tool.specs.declared.failure.Failure.{Failure}
use Rattle.cbpf_tool.specs.declared.failure.Failure.TheVariants.{Tool, Source, CannotOpen}

-- the result of a tool as that of a job
abbrev pub tooled : Result (Unit {0}) ToolFault → Result (Unit {0}) Failure
tooled (Ok x) = Ok x
tooled (Err e) = Err (Tool e)

-- the fault of a source as the failure of a job, which shows its line
abbrev pub source_failure : List ℕ → PlacedFault → Failure
source_failure source placed.Memory = Tool Memory
source_failure source (placed.At kind at) =
    let fault = on_line source (placed.At kind at) in Source fault (source_hint source fault at)

-- the name of the file that could not be opened or created
abbrev pub unopened : Result (Unit {0}) Failure → Option (List ℕ)
unopened (Ok x) = None
unopened (Err (Tool e)) = None
unopened (Err (Source fault hint)) = None
unopened (Err (CannotOpen n)) = Some (string_bytes n)

-- there was no room for a buffer, and nothing was done; or the tool left a text, of which `Done` says what it is, and
-- `event` of it is the one event
abbrev pub RanOnce : Hosted → Hosted → (List ℕ → Event) → (List ℕ → Result (Unit {0}) ToolFault → Type 0)
    → Result (Unit {0}) ToolFault → Type 0
RanOnce old new event Done t =
    ((new ≡ old) × (t ≡ Err Memory)) ⊎ ((text : List ℕ) × (new ≡ and_then old (event text ∷ [])) × Done text t)

-- a tool ran whose result is the job's
abbrev pub RunsTool : Hosted → Hosted → (List ℕ → Event) → (List ℕ → Result (Unit {0}) ToolFault → Type 0)
    → Result (Unit {0}) Failure → Type 0
RunsTool old new event Done r = (t : Result (Unit {0}) ToolFault) × (r ≡ tooled t) × RanOnce old new event Done t

-- the same of a tool that writes to the standard output
abbrev pub Prints : Hosted → Hosted → (List ℕ → Result (Unit {0}) ToolFault → Type 0) → Result (Unit {0}) Failure
    → Type 0
Prints old new Done r = RunsTool (without_output old) new printed Done r

-- the one event is that a file of this name could not be opened or created, which ends the job
abbrev pub EndsWithoutFile : Hosted → Hosted → List ℕ → Event → Result (Unit {0}) Failure → Type 0
EndsWithoutFile old new name event r = (unopened r ≡ Some name) × (new ≡ and_then old (event ∷ []))

-- a script was run over the host's files; of `left`, which its reader has left, and of `g`, which is the source of files
-- afterwards, nothing more is said
abbrev pub DebuggedTo : Hosted → List ℕ → List ℕ → Result (Unit {0}) ToolFault → Type 0
DebuggedTo h script text t =
    (left : Option (List ℕ)) × (g : FileSource)
    × Debugged script left (Some []) (Some text) (known_source h.files 0) g t

-- the result is no refusal of the source
abbrev pub IsNoRefusal : Result (Unit {0}) ToolFault → Type 0
IsNoRefusal (Err (tool.Source fault)) = ⊥
IsNoRefusal _ = Unit {0}

-- an answer of the assembler over a source, as that of a job: where the source is refused, or no memory was left over it,
-- nothing was written; else the answer is that of the tool
pub data IsAssembled (source : List ℕ) (form : Form) (old new : Option (List ℕ)) (r : Result (Unit {0}) Failure)
    : Type 0 where
  refuses : (fault : PlacedFault) → IsPlacedFault source fault → r ≡ Err (source_failure source fault)
      → Appended old new [] → IsAssembled source form old new r
  answers : (t : Result (Unit {0}) ToolFault) → IsNoRefusal t → r ≡ tooled t → Assembled source form old new t
      → IsAssembled source form old new r

-- a source was assembled to the standard output, or there was no room for a buffer
abbrev pub AssemblesTo : Hosted → Hosted → List ℕ → Form → Result (Unit {0}) Failure → Type 0
AssemblesTo old new source form r = ((new ≡ without_output old) × (r ≡ Err (Tool Memory)))
    ⊎ ((text : List ℕ) × (new ≡ and_then (without_output old) (printed text ∷ []))
    × IsAssembled source form (Some []) (Some text) r)

-- `asm`: the source is the standard input, or the file, which is opened first
abbrev pub AsmDone : Hosted → Hosted → Form → Option (List ℕ) → Result (Unit {0}) Failure → Type 0
AsmDone old new form None r = AssemblesTo (without_input old) new old.input form r
AsmDone old new form (Some name) r = EndsWithoutFile old new name (not_opened name) r
    ⊎ ((bytes : List ℕ) × (map.get old.files name ≡ Some bytes)
    × AssemblesTo (and_then old (opened name ∷ [])) new bytes form r)

-- the replies go to the standard output, or to the file, which is created
abbrev pub RepliesTo : Hosted → Hosted → List ℕ → Option (List ℕ) → Result (Unit {0}) Failure → Type 0
RepliesTo old new script None r = Prints old new (DebuggedTo old script) r
RepliesTo old new script (Some name) r = EndsWithoutFile old new name (not_created name) r
    ⊎ RunsTool (and_then old (created name ∷ [])) new (wrote name) (DebuggedTo old script) r

-- `dbg`: the script is the standard input, or the file, which is opened before the other is created
abbrev pub DbgDone : Hosted → Hosted → Option (List ℕ) → Option (List ℕ) → Result (Unit {0}) Failure → Type 0
DbgDone old new None output r = RepliesTo (without_input old) new old.input output r
DbgDone old new (Some name) output r = EndsWithoutFile old new name (not_opened name) r
    ⊎ ((bytes : List ℕ) × (map.get old.files name ≡ Some bytes)
    × RepliesTo (and_then old (opened name ∷ [])) new bytes output r)
