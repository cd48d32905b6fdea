-- What taking one line from a reader leaves, where its bytes are known. No public clause names it.
use Rattle.std.specs.Prelude.{◌≡◌, ℕ, false, List, [], ◌∷◌, ◌++◌, slice_range, Bool, true, Option, Some, None, Result, Ok}
use Rattle.std.specs.Prelude.{Err, ◌≢◌, ◌+◌, ◌-◌, ◌*◌}
use Rattle.std.specs.Option.{option_map}
use Rattle.cbpf_tool.specs.Lines.{has_newline}
use Rattle.cbpf_tool.specs.declared.fault.ToolFault.{ToolFault}
use Rattle.cbpf_tool.specs.declared.fault.ToolFault.TheVariants.{Source, Read, Write, Memory}
use Rattle.cbpf_tool.specs.declared.TheConstants.{READ_SIZE}
use Rattle.cbpf_tool.specs.declared.line_reader.LineEnd.{LineEnd}
use Rattle.cbpf_tool.specs.declared.line_reader.LineEnd.TheVariants.{Newline, Input}

-- the bytes of a chunk that were read and not yet taken
abbrev pub pending_in : List ℕ → ℕ → ℕ → List ℕ
pending_in chunk start end = slice_range chunk start end

-- The measure of a reader that may still make so many reads. It falls with each byte that is taken. It falls with each
-- read too, which is made only where no byte is pending, and gives READ_SIZE bytes at most.
abbrev pub steps_left : ℕ → ℕ → ℕ → ℕ
steps_left reads start end = (READ_SIZE + 1) * reads + (end - start)

-- the bytes that were read and not yet taken, and those that the reader has left
unfoldable pub unread : List ℕ → Option (List ℕ) → Option (List ℕ)
unread pending left = option_map (λ r. pending ++ r) left

-- `taken` was taken from the bytes, and the others are still unread
pub record Took (bytes pending : List ℕ) (left : Option (List ℕ)) (taken : List ℕ) : Type 0 where
  pub rest : List ℕ
  pub split : bytes ≡ taken ++ rest
  pub known : unread pending left ≡ Some rest

-- `Ok true`: all of the bytes are still unread. `Ok false`: there is none, and the reader is at its end. `Err`: none could be
-- read, and all are still unread.
abbrev pub Fills : List ℕ → List ℕ → Option (List ℕ) → Result Bool ToolFault → Type 0
Fills bytes pending left (Ok true) = unread pending left ≡ Some bytes
Fills bytes pending left (Ok false) = (bytes ≡ []) × (left ≡ Some [])
Fills bytes pending left (Err e) = (unread pending left ≡ Some bytes) × (pending ≡ [])

-- a line got the pending bytes up to a newline, or all of them, of which none is a newline
abbrev pub TakesPart : List ℕ → List ℕ → List ℕ → List ℕ → Result Bool ToolFault → Type 0
TakesPart pending pending' line line' (Ok true) =
    (part : List ℕ) × (has_newline part ≡ false) × (pending ≡ part ++ 10 ∷ pending') × (line' ≡ line ++ part)
TakesPart pending pending' line line' (Ok false) =
    (has_newline pending ≡ false) × (pending' ≡ []) × (line' ≡ line ++ pending)
TakesPart pending pending' line line' (Err e) = e ≡ Memory

-- a line and its newline; all that was left, without a newline, and the reader is at its end; that nothing was left; a
-- part of a line after which a read failed; or there was no memory, and there is a line. No other fault comes
abbrev pub TakesLine : List ℕ → List ℕ → Option (List ℕ) → List ℕ → Result (Option LineEnd) ToolFault → Type 0
TakesLine bytes pending left line (Ok (Some Newline)) =
    (has_newline line ≡ false) × Took bytes pending left (line ++ 10 ∷ [])
TakesLine bytes pending left line (Ok (Some Input)) =
    (has_newline line ≡ false) × (bytes ≡ line) × (left ≡ Some []) × (line ≢ [])
TakesLine bytes pending left line (Ok None) = (bytes ≡ []) × (left ≡ Some [])
TakesLine bytes pending left line (Err Read) =
    (has_newline line ≡ false) × (pending ≡ []) × Took bytes pending left line
TakesLine bytes pending left line (Err Write) = ⊥
TakesLine bytes pending left line (Err Memory) = bytes ≢ []
TakesLine bytes pending left line (Err (Source f)) = ⊥
