-- What a line of a script did that was run. No public clause names it.
use Rattle.std.specs.Prelude.{◌≡◌, ◌⊎◌, ℕ, IsTrue, List, [], Option, Some, Result, Ok, Err}
use Rattle.cbpf_code.specs.Writing.{Appended, AppendedPart}
use Rattle.cbpf_code.specs.declared.writing.WriteFault.{WriteFault}
use Rattle.cbpf_tool.specs.declared.command.Command.{Command}
use Rattle.cbpf_tool.specs.declared.command.Command.TheVariants as command
use Rattle.cbpf_reply.specs.declared.errors.CommandFault.{CommandFault}
use Rattle.cbpf_tool.specs.FileMap.{Held, FileSource}
use Rattle.cbpf_dbg.specs.View.{View}
use Rattle.cbpf_tool.specs.Replies.{Reply, LineReplies, CanRunOut}
use Rattle.cbpf_tool.specs.SessionReplies.{reply_to}
use Rattle.cbpf_tool.specs.declared.command.SessionCommand.{SessionCommand}
use Rattle.cbpf_reply.specs.Errors.{memory_text}
use Rattle.cbpf_tool.specs.declared.debugger.AfterLine.{AfterLine}
use Rattle.cbpf_tool.specs.declared.debugger.AfterLine.TheVariants.{NextLine, Quit}

-- the files were left as they are
pub record Kept (f g : FileSource) : Type 0 where
  pub files : g.held ≡ f.held
  pub is_known : g.is_known ≡ f.is_known

-- a line has a reply whose text is written as `Written` says, and after which the view is n
abbrev pub Answers : Held → View → View → ℕ → ℕ → Result (Option Command) CommandFault → (List ℕ → Type 0) → Type 0
Answers files m n f g said Written = (text : List ℕ) × LineReplies files m f g said (text, n) × Written text

-- a line other than `quit` was run, where it is known what the files hold
abbrev pub Replied : FileSource → FileSource → View → View → Result (Option Command) CommandFault → (List ℕ → Type 0)
    → Type 0
Replied f g m n said Written =
    Kept f g × (IsTrue f.is_known → Answers f.held m n f.failures g.failures said Written)

-- the same of a command that opens no file
abbrev pub Answered : View → View → Command → (List ℕ → Type 0) → Type 0
Answered m n c Written = (files : Held) (f : ℕ) → Answers files m n f f (Ok (Some c)) Written

-- a reply's text is written, as `Written` says, and the view after it is n
unfoldable pub Writes : Reply → View → (List ℕ → Type 0) → Type 0
Writes reply n Written = (n ≡ reply.1) × Written reply.0

-- the reply to a command of the session: its own, or `error: out of memory`
unfoldable pub Replies : View → View → SessionCommand → (List ℕ → Type 0) → Type 0
Replies m n c Written = Writes (reply_to c m) n Written ⊎ (CanRunOut m c × Writes (memory_text, m) n Written)

-- what a line wrote that was run, by what comes after it
abbrev pub LineResult : Held → View → View → ℕ → ℕ → Result (Option Command) CommandFault → Option (List ℕ)
    → Option (List ℕ) → Result AfterLine WriteFault → Type 0
LineResult files m n f g said old new (Ok NextLine) = Answers files m n f g said (λ t. Appended old new t)
LineResult files m n f g said old new (Ok Quit) = (said ≡ Ok (Some command.Quit)) × (f ≡ g) × Appended old new []
LineResult files m n f g said old new (Err e) = Answers files m n f g said (λ t. AppendedPart old new t)

-- a line was run, where it is known what the files hold
abbrev pub LineRan : FileSource → FileSource → View → View → Result (Option Command) CommandFault → Option (List ℕ)
    → Option (List ℕ) → Result AfterLine WriteFault → Type 0
LineRan f g m n said old new r =
    Kept f g × (IsTrue f.is_known → LineResult f.held m n f.failures g.failures said old new r)
