-- What the assembler keeps of the items that it has read, which have forms of the kernel's
-- Documentation/networking/filter and this project's own: what their instructions depend on. No public clause names
-- it.
use Rattle.std.specs.Prelude.{◌≡◌, ◌≤◌, ℕ, Bool, List, [], ◌∷◌, ◌++◌, length, Option, Some, None, bytes_eq}
use Rattle.std.specs.Prelude.{slice_get, option_map, Result, Ok, Err}
use Rattle.std.specs.List.{AllZip}
use Rattle.cbpf_code.specs.declared.checker.TheConstants.{MAX_INSTRUCTIONS}
use Rattle.cbpf_code.specs.Opcode.{code_of}
use Rattle.cbpf_syntax.specs.Lexemes.{Lexeme}
use Rattle.cbpf_syntax.specs.Items.{Item}
use Rattle.cbpf_text.specs.declared.draft.Statement.{Statement}
use Rattle.cbpf_text.specs.declared.draft.Target.{Target}
use Rattle.cbpf_text.specs.declared.name.Name.{Name}
use Rattle.cbpf_text.specs.declared.fault.AsmKind.{AsmKind}
use Rattle.cbpf_text.specs.Labels.{name_of, labels_of, labels_from, item_named, first_repeat}
use Rattle.cbpf_text.specs.Operands.{literal_in, targets_in}
use Rattle.cbpf_text.specs.Refusals.{mnemonic_at}

-- The label table: for each name the index of the item that sets it.

abbrev pub same_name : Name → Name → Bool
same_name a b = bytes_eq a.bytes.now b.bytes.now

-- the look-ups answer for which items the labels stand
abbrev pub Resolves : List (Lexeme × ℕ) → (Name → Option ℕ) → Type 0
Resolves labels look = (k : Name) → look k ≡ item_named labels k.bytes.now

-- What is kept of items.

-- the target is the label, by its name and its position
abbrev pub KeepsLabel : Target → Lexeme → Type 0
KeepsLabel t l = (t.name.bytes.now ≡ name_of l) × (t.at ≡ l.at)

-- the targets are the labels: the first two where there are more, and the count goes no higher
abbrev pub AreTargets : ℕ → Target → Target → List Lexeme → Type 0
AreTargets count first second [] = count ≡ 0
AreTargets count first second (l ∷ []) = (count ≡ 1) × KeepsLabel first l
AreTargets count first second (l ∷ m ∷ ls) = (count ≡ 2) × KeepsLabel first l × KeepsLabel second m

-- the statement is that of the item
pub record IsStatement (s : Statement) (item : Item) : Type 0 where
  pub code : s.code ≡ code_of item.row.op
  pub fields : s.fields ≡ item.row.fields
  pub literal : s.literal ≡ literal_in item
  pub targets : AreTargets s.targets s.first s.second (targets_in item)

-- the statements are those of the items, one for each
abbrev pub AreStatements : List Statement → List Item → Type 0
AreStatements statements items = AllZip IsStatement statements items

-- the look-ups answer for which items the labels stand, and no name is given twice; or the position is that of the first
-- label that is set a second time
abbrev pub AreSet : List (Lexeme × ℕ) → Option ℕ → (Name → Option ℕ) → Type 0
AreSet labels None look = Resolves labels look × (first_repeat labels ≡ None)
AreSet labels (Some at) look = first_repeat labels ≡ Some at

-- the statements and labels are those of the items, and of the words of labels after them that wait for their item
pub record IsKept (statements : List Statement) (repeat : Option ℕ) (look : Name → Option ℕ)
    (items : List Item) (waiting : List Lexeme) : Type 0 where
  pub same : AreStatements statements items
  pub set : AreSet (labels_from 0 items ++ labels_of (length items) waiting) repeat look
  pub most : length items ≤ MAX_INSTRUCTIONS

-- what is kept of items, where there are at most MAX_INSTRUCTIONS; where there are more, only the position of the mnemonic
-- of the first that is too many
abbrev pub IsDraft : Option ℕ → List Statement → Option ℕ → (Name → Option ℕ) → List Item → List Lexeme → Type 0
IsDraft None statements repeat look items waiting = IsKept statements repeat look items waiting
IsDraft (Some at) statements repeat look items waiting =
    option_map mnemonic_at (slice_get items MAX_INSTRUCTIONS) ≡ Some at

-- What is made of what is kept.

-- the answer is the value where there is no fault, and else the fault
abbrev pub IsAnswer : {X : Type 0} → Option (AsmKind × ℕ) → X → Result X (AsmKind × ℕ) → Type 0
IsAnswer fault value (Ok x) = (fault ≡ None) × (x ≡ value)
IsAnswer fault value (Err f) = fault ≡ Some f
