-- The one output of a script in which each line has its own reply, and none has `error: out of memory` or F2 in its place.
use Rattle.std.specs.Prelude.{◌≡◌, ℕ, List, ◌++◌, Option, Result}
use Rattle.cbpf_tool.specs.declared.command.Command.{Command}
use Rattle.cbpf_dbg.specs.View.{View}
use Rattle.cbpf_tool.specs.FileMap.{Held}
use Rattle.cbpf_tool.specs.Output.{Output}
use Rattle.cbpf_tool.specs.Replies.{Reply, LineReplies, OwnReply}
use Rattle.cbpf_reply.specs.Errors.{memory_text, load_fault_text}
use Rattle.cbpf_reply.specs.declared.errors.CommandFault.{CommandFault}
use Rattle.cbpf_reply.specs.declared.errors.LoadFault.TheVariants.{Device}

-- a line has its own reply, by which no failure is counted
abbrev pub HasOwnReply : Held → View → ℕ → ℕ → Result (Option Command) CommandFault → Reply → Type 0
HasOwnReply files m f g said reply = (g ≡ f) × OwnReply files m said reply

-- the output of some lines, each with its own reply, whatever failures were counted before
abbrev pub OwnOutput : Held → View → List (List ℕ) → List ℕ → Type 0
OwnOutput files m ls t = (f : ℕ) → Output (HasOwnReply files) m f ls t f

-- a reply stands in a text
abbrev pub IsPartOf : List ℕ → List ℕ → Type 0
IsPartOf reply text = (before after : List ℕ) × (text ≡ before ++ (reply ++ after))

-- whatever the lines, they have at most one output in which each has its own reply
abbrev pub OneOwnOutput : Type 0
OneOwnOutput = (files : Held) (m : View) (ls : List (List ℕ)) (t u : List ℕ) → OwnOutput files m ls t
    → OwnOutput files m ls u → u ≡ t

-- whatever the lines, they have an output in which each has its own reply
abbrev pub HasOwnOutput : Type 0
HasOwnOutput = (files : Held) (m : View) (ls : List (List ℕ)) → (t : List ℕ) × OwnOutput files m ls t

-- an own output is an output also where other replies are allowed
abbrev pub OwnIsOutput : Type 0
OwnIsOutput = (files : Held) (m : View) (f : ℕ) (ls : List (List ℕ)) (t : List ℕ) → OwnOutput files m ls t
    → Output (LineReplies files) m f ls t f

-- an output in which neither of the two other replies stands is an own output
abbrev pub NoOther : Type 0
NoOther = (files : Held) (m : View) (f g : ℕ) (ls : List (List ℕ)) (t : List ℕ)
    → Output (LineReplies files) m f ls t g → ¬ IsPartOf memory_text t → ¬ IsPartOf (load_fault_text Device) t
    → OwnOutput files m ls t
