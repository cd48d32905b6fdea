-- What a host on which a job runs holds, and what was done with it (this project's own). The files are those
-- that can be read: what is created or written doesn't change them.
use Rattle.std.specs.Prelude.{◌≡◌, ℕ, Bool, false, IsTrue, List, [], ◌∷◌, ◌++◌, Option, Some, Result, Ok, Err}
use Rattle.std.specs.FinMap as map
use Rattle.cbpf_tool.specs.FileMap.{FileMap}
use Rattle.cbpf_tool.specs.declared.host.CreateFault.{CreateFault}
use Rattle.cbpf_tool.specs.declared.host.CreateFault.TheVariants.{NotCreated, Memory}

-- what is done with a host: a file is opened or created, or couldn't be; a file is written; or a text goes to the
-- standard output. A file that a command of a script loads is no event.
pub data Event : Type 0 where
  opened : (name : List ℕ) → Event
  not_opened : (name : List ℕ) → Event
  created : (name : List ℕ) → Event
  not_created : (name : List ℕ) → Event
  wrote : (name text : List ℕ) → Event
  printed : (text : List ℕ) → Event

-- whether it is known what the host holds, the files that can be read, what is left of the standard input, whether the
-- standard output can still be given, and the events so far
pub record Hosted : Type 0 where
  pub is_known : Bool
  pub files : FileMap
  pub input : List ℕ
  pub has_output : Bool
  pub events : List Event

-- a host of which it is not known what it holds, as that of the program itself
abbrev pub unknown : Hosted
unknown = record { is_known = false; files = map.empty; input = []; has_output = false; events = [] }

-- the host after these events too
abbrev pub and_then : Hosted → List Event → Hosted
and_then h es = record h { events = h.events ++ es }

-- the standard input was given to a reader, so that another call finds it empty; how much that reader took isn't said here
abbrev pub without_input : Hosted → Hosted
without_input h = record h { input = [] }

-- the standard output was given to be written
abbrev pub without_output : Hosted → Hosted
without_output h = record h { has_output = false }

-- it is known what the host holds, and its standard output was not given away
abbrev pub IsReady : Hosted → Type 0
IsReady h = IsTrue h.is_known × IsTrue h.has_output

-- a file was opened, and all its bytes are still to be read; or it could not be opened
abbrev pub Opens : {V E : Type 0} → (V → Option (List ℕ)) → Hosted → Hosted → List ℕ → Result V E → Type 0
Opens remaining old new name (Ok v) = (bytes : List ℕ) × (map.get old.files name ≡ Some bytes)
    × (remaining v ≡ Some bytes) × (new ≡ and_then old (opened name ∷ []))
Opens remaining old new name (Err e) = new ≡ and_then old (not_opened name ∷ [])

-- a file was created, and is empty; it could not be created; or it was created, and there was no memory for a buffer
abbrev pub Creates : {V : Type 0} → (V → Option (List ℕ)) → Hosted → Hosted → List ℕ → Result V CreateFault → Type 0
Creates contents old new name (Ok v) = (contents v ≡ Some []) × (new ≡ and_then old (created name ∷ []))
Creates contents old new name (Err NotCreated) = new ≡ and_then old (not_created name ∷ [])
Creates contents old new name (Err Memory) = new ≡ and_then old (created name ∷ [])
