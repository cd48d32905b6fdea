-- A source text whose items are taken one by one, with a few tokens read ahead: what stands next, by the forms of `Table`.
-- These are the kernel's (Documentation/networking/filter) and this project's own.
use Rattle.std.specs.Prelude.{◌≡◌, ◌<◌, ◌+◌, ◌-◌, ℕ, Bool, true, List, [], ◌++◌, length, map, Option, Some, None, Ok}
use Rattle.cbpf_syntax.specs.declared.lexeme.Lexeme as declared_lexeme
use Rattle.cbpf_syntax.specs.declared.reader.Step.{Step}
use Rattle.cbpf_syntax.specs.declared.reader.Step.TheVariants.{Label, Instruction, Stuck as stuck_step}
use Rattle.cbpf_syntax.specs.Refusals.{IsLargeNegative, IsPositionOf, symbol_at}
use Rattle.cbpf_syntax.specs.Lexemes.{Lexeme, AreLexemesTo}
use Rattle.cbpf_syntax.specs.Lexemes.Symbol.{word}
use Rattle.cbpf_syntax.specs.Steps.{IsFoundInstruction, Stuck, starts_with_label}
use Rattle.cbpf_syntax.specs.Views.{lexeme_of}

-- where the tokens up to one position are some taken ones and the old, those up to the other are the same taken ones and
-- the new
abbrev pub ReadsOn : List ℕ → ℕ → ℕ → List Lexeme → List Lexeme → Type 0
ReadsOn text at to old new =
    (taken : List Lexeme) → AreLexemesTo text at (taken ++ old) → AreLexemesTo text to (taken ++ new)

-- a text whose tokens were read to a position, with those that were not taken; whether its end was read; of those that were
-- taken, the position of the last one, and that of the first number too large after a `-`, if there is one
pub record Ahead : Type 0 where
  pub text : List ℕ
  pub to : ℕ
  pub tokens : List declared_lexeme.Lexeme
  pub ended : Bool
  pub last : ℕ
  pub large : Option ℕ

-- the number of bytes not read, and of tokens read and not taken: a step that succeeds doesn't raise it, and each
-- `take` lowers it, so that a caller's loop ends
abbrev pub left : Ahead → ℕ
left a = (length a.text - a.to) + length a.tokens

-- the first token is a word
abbrev pub StartsWithWord : List Lexeme → Type 0
StartsWithWord ts = (w : List ℕ) × (symbol_at ts 0 ≡ Some (word w))

-- what stands at the front of tokens
abbrev pub IsStepOf : List Lexeme → Option Step → Type 0
IsStepOf ts None = ts ≡ []
IsStepOf ts (Some Label) = starts_with_label ts ≡ true
IsStepOf ts (Some (Instruction row)) = IsFoundInstruction ts (Ok row)
IsStepOf ts (Some (stuck_step n)) = Stuck n ts

-- how many tokens a step is
abbrev pub step_len : Option Step → ℕ
step_len None = 0
step_len (Some Label) = 2
step_len (Some (Instruction row)) = 1 + length row.operand.now
step_len (Some (stuck_step n)) = n

-- the position in the text of the first number too large after a `-`
abbrev pub IsFirstLarge : List Lexeme → Option ℕ → Type 0
IsFirstLarge ts None = (k : ℕ) → IsLargeNegative ts k → ⊥
IsFirstLarge ts (Some at) =
    (i : ℕ) × IsLargeNegative ts i × ((k : ℕ) → k < i → IsLargeNegative ts k → ⊥) × IsPositionOf ts i at

-- these tokens were taken: they and those ahead are the text's, up to the position to which it was read
pub record HasTaken (taken : List Lexeme) (a : Ahead) : Type 0 where
  pub read : AreLexemesTo a.text a.to (taken ++ map lexeme_of a.tokens)
  pub end : a.ended ≡ true → a.to ≡ length a.text
  pub last : 0 < length taken → IsPositionOf taken (length taken - 1) a.last
  pub large : IsFirstLarge taken a.large

-- these tokens may be all that were not taken: those ahead, and others only where the text was not read to its end
abbrev pub MayRemain : Ahead → List Lexeme → Type 0
MayRemain a ts = (rest : List Lexeme) × (ts ≡ map lexeme_of a.tokens ++ rest) × (a.ended ≡ true → rest ≡ [])
