-- What a run of the debugger leaves in its writer.
use Rattle.std.specs.Prelude.{◌≡◌, ◌≢◌, ◌⊎◌, ℕ, false, List, [], ◌++◌, Option, Some, Result, MatchResult}
use Rattle.cbpf_code.specs.Writing.{Appended, AppendedPart}
use Rattle.cbpf_tool.specs.FileMap.{FileSource}
use Rattle.cbpf_tool.specs.Lines.{lines, unlines, has_newline}
use Rattle.cbpf_dbg.specs.View.{empty_view}
use Rattle.cbpf_tool.specs.Output.{Output, HasQuit}
use Rattle.cbpf_tool.specs.Replies.{LineReplies}
use Rattle.cbpf_tool.specs.declared.fault.ToolFault.{ToolFault}
use Rattle.cbpf_tool.specs.declared.fault.ToolFault.TheVariants.{Source as RefusedSource, Read, Write, Memory}

-- the first lines of a script, those after them, and the output of the first ones, from a debugger that has loaded
-- nothing; `before` and `after` are the source of files before and after these lines, of which the second says only how
-- many failures were counted
pub record Printed (script : List ℕ) (before after : FileSource) : Type 0 where
  pub ls : List (List ℕ)
  pub more : List (List ℕ)
  pub text : List ℕ
  pub split : lines script ≡ ls ++ more
  pub output : Output (LineReplies before.held) empty_view before.failures ls text after.failures

-- after a read that failed: `left` is what the reader has left, and `old` and `new` are what the writer held and holds
pub record ReadFailed (script : List ℕ) (left old new : Option (List ℕ)) (before after : FileSource) : Type 0 where
  -- the lines whose newline was read
  pub printed : Printed script before after
  pub no_quit : ¬ HasQuit printed.ls
  -- what was read of the line after them, and what was not read
  pub part : List ℕ
  pub rest : List ℕ
  pub split : script ≡ unlines printed.ls ++ (part ++ rest)
  pub plain : has_newline part ≡ false
  pub kept : left ≡ Some rest
  pub wrote : Appended old new printed.text

-- out of memory: `printed` has the lines before the one that could not be held
pub record LineUnheld (script : List ℕ) (old new : Option (List ℕ)) (before after : FileSource) : Type 0 where
  pub printed : Printed script before after
  pub no_quit : ¬ HasQuit printed.ls
  pub goes_on : printed.more ≢ []
  pub wrote : Appended old new printed.text

-- after a fault; after a write that failed, a beginning of the output of the first lines was written
abbrev pub Faulted : List ℕ → Option (List ℕ) → Option (List ℕ) → Option (List ℕ) → FileSource → FileSource
    → ToolFault → Type 0
Faulted script left old new before after Read = ReadFailed script left old new before after
Faulted script left old new before after Write = (p : Printed script before after) × AppendedPart old new p.text
Faulted script left old new before after Memory = LineUnheld script old new before after
Faulted script left old new before after (RefusedSource e) = ⊥

-- after `Ok`: the output of all lines
pub record Finished (script : List ℕ) (left old new : Option (List ℕ)) (before after : FileSource) : Type 0 where
  pub printed : Printed script before after
  pub whole : printed.more ≡ []
  -- one of the lines is `quit`, or the reader has nothing left
  pub ended : HasQuit printed.ls ⊎ (left ≡ Some [])
  pub wrote : Appended old new printed.text

-- What was written of a script, and how many failures were counted by then, after `Ok` or a fault. It also says what the
-- reader has left, after a failed read and after `Ok` without `quit`.
pub record Debugged {X : Type 0} (script : List ℕ) (left old new : Option (List ℕ)) (before after : FileSource)
    (r : Result X ToolFault) : Type 0 where
  pub outcome : MatchResult r (λ _. Finished script left old new before after)
      (λ e. Faulted script left old new before after e)
