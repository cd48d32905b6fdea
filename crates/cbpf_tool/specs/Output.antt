-- The output of a script: the replies to its lines up to `quit`.
use Rattle.std.specs.Prelude.{◌≡◌, ◌⊎◌, ℕ, List, [], ◌∷◌, ◌++◌, Option, Some, Result, Ok}
use Rattle.cbpf_tool.specs.Commands.{command_of}
use Rattle.cbpf_tool.specs.declared.command.Command.{Command}
use Rattle.cbpf_tool.specs.declared.command.Command.TheVariants.{Quit}
use Rattle.cbpf_reply.specs.declared.errors.CommandFault.{CommandFault}
use Rattle.cbpf_dbg.specs.View.{View}
use Rattle.cbpf_tool.specs.Replies.{Reply}

-- the text of the replies to some lines, from the view of the session before them, while the count of failures goes from
-- one number to another; `CanReply` says which replies a line can have
pub data Output (CanReply : View → ℕ → ℕ → Result (Option Command) CommandFault → Reply → Type 0)
    : View → ℕ → List (List ℕ) → List ℕ → ℕ → Type 0 where
  at_end : {m : View} {f : ℕ} → Output CanReply m f [] [] f
  at_quit : {m : View} {f : ℕ} (l : List ℕ) (ls : List (List ℕ)) → command_of l ≡ Ok (Some Quit)
      → Output CanReply m f (l ∷ ls) [] f
  at_line : {m : View} {f g h : ℕ} {rest : List ℕ} {ls : List (List ℕ)} (l : List ℕ) (reply : Reply)
      → CanReply m f g (command_of l) reply → Output CanReply reply.1 g ls rest h
      → Output CanReply m f (l ∷ ls) (reply.0 ++ rest) h

-- one of the lines is `quit`
abbrev pub HasQuit : List (List ℕ) → Type 0
HasQuit [] = ⊥
HasQuit (l ∷ ls) = (command_of l ≡ Ok (Some Quit)) ⊎ HasQuit ls
