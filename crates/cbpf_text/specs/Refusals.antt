-- Why a source text is refused, and the position and the line: this project's own rules, as the kernel's
-- Documentation/networking/filter has no faults.
use Rattle.std.specs.Prelude.{◌≡◌, ℕ, ◌+◌, Bool, true, false, ◌&&◌, nat_le, nat_lt, List, [], ◌∷◌, ◌++◌, map}
use Rattle.std.specs.Prelude.{slice_get, Option, Some, None, option_map, if◌then◌else◌}
use Rattle.std.specs.Option.{option_or, option_map_or}
use Rattle.cbpf_code.specs.declared.checker.TheConstants.{MAX_INSTRUCTIONS}
use Rattle.cbpf_syntax.specs.declared.token.Token.{Token}
use Rattle.cbpf_syntax.specs.declared.token.BadPiece.{BadPiece}
use Rattle.cbpf_syntax.specs.declared.token.BadPiece.TheVariants as pieces
use Rattle.cbpf_syntax.specs.Tokens.{Lexes, IsFirstBad, line_of}
use Rattle.cbpf_syntax.specs.declared.table.Fields.{Fields}
use Rattle.cbpf_syntax.specs.declared.table.Fields.TheVariants.{Constant, Goto, Branch, Swapped}
use Rattle.cbpf_syntax.specs.Lexemes.{Lexeme, lexemes_of}
use Rattle.cbpf_syntax.specs.Items.{Item, Items}
use Rattle.cbpf_syntax.specs.Refusals.{ParseFault, IsAccepted, IsFirstRefusalAtPosition}
use Rattle.cbpf_text.specs.declared.encode.TheConstants.{FARTHEST}
use Rattle.cbpf_text.specs.declared.fault.AsmKind.{AsmKind}
use Rattle.cbpf_text.specs.declared.fault.AsmKind.TheVariants as kinds
use Rattle.cbpf_text.specs.declared.fault.AsmFault.{AsmFault}
use Rattle.cbpf_text.specs.declared.fault.AsmFault.TheVariants as faults
use Rattle.cbpf_text.specs.declared.placed.PlacedFault.{PlacedFault}
use Rattle.cbpf_text.specs.declared.placed.PlacedFault.TheVariants as placed
use Rattle.cbpf_text.specs.Labels.{name_of, labels_from, item_named, first_repeat}
use Rattle.cbpf_text.specs.Operands.{targets_in}

-- a bad piece, as it is reported
abbrev pub bad_piece_kind : BadPiece → AsmKind
bad_piece_kind pieces.NoToken = kinds.NoToken
bad_piece_kind pieces.OpenComment = kinds.OpenComment
bad_piece_kind pieces.LargeNumber = kinds.LargeNumber

-- a label in an operand, with the index of the item in whose operand it stands, and whether that item is a conditional
-- jump
pub record Use : Type 0 where
  pub index : ℕ
  pub target : Lexeme
  pub conditional : Bool

-- whether fields are those of a conditional jump
abbrev pub is_conditional : Fields → Bool
is_conditional Constant = false
is_conditional Goto = false
is_conditional Branch = true
is_conditional Swapped = true

-- the uses of the item at an index
abbrev pub uses_of : ℕ → Item → List Use
uses_of index item =
    map (λ t. record { index = index; target = t; conditional = is_conditional item.row.fields }) (targets_in item)

-- the uses of items, in text order; the first item's index is `index`
abbrev pub uses_from : ℕ → List Item → List Use
uses_from index [] = []
uses_from index (item ∷ items) = uses_of index item ++ uses_from (index + 1) items

-- why a use is refused, by the index of the item that its label stands for: none sets the label; it is not after the
-- jump; it is further than a conditional jump goes
abbrev pub target_fault : Use → Option ℕ → Option AsmKind
target_fault u None = Some kinds.LabelNotSet
target_fault u (Some item) =
    if nat_le item u.index then Some kinds.NotAfter
    else (if u.conditional && nat_lt (u.index + 1 + FARTHEST) item then Some kinds.TooFar
    else None)

-- the same among labels, with the position in the text that shows it
abbrev pub use_fault : List (Lexeme × ℕ) → Use → Option (AsmKind × ℕ)
use_fault labels u =
    option_map (λ kind. (kind, u.target.at)) (target_fault u (item_named labels (name_of u.target)))

-- the first of these that there is
abbrev pub uses_fault : List (Lexeme × ℕ) → List Use → Option (AsmKind × ℕ)
uses_fault labels [] = None
uses_fault labels (u ∷ us) = option_or (use_fault labels u) (uses_fault labels us)

-- the position in the text of an item's mnemonic
abbrev pub mnemonic_at : Item → ℕ
mnemonic_at item = option_map_or (λ (t : Lexeme). t.at) (slice_get item.body 0) 0

-- Why items are refused, and the position in the text that shows it. Where there is no item, it is 0. Where there are more
-- than MAX_INSTRUCTIONS, it is that of the mnemonic of the first that is too many. Where a label is set twice, it is that of
-- the label that repeats. Where a use is refused, it is that of the label in the operand.
abbrev pub items_fault : List Item → Option (AsmKind × ℕ)
items_fault [] = Some (kinds.NoInstruction, 0)
items_fault items =
    option_or (option_map (λ item. (kinds.TooMany, mnemonic_at item)) (slice_get items MAX_INSTRUCTIONS))
    (option_or (option_map (λ at. (kinds.LabelSetTwice, at)) (first_repeat (labels_from 0 items)))
    (uses_fault (labels_from 0 items) (uses_from 0 items)))

-- a refusal of the grammar, as it is reported
abbrev pub grammar_kind : ParseFault → AsmKind
grammar_kind ParseFault.Misplaced = kinds.Misplaced
grammar_kind ParseFault.LargeNegative = kinds.LargeNumber
grammar_kind ParseFault.Unfinished = kinds.Unfinished

-- why tokens are refused, and the position: the first refusal of the grammar, and where there is none that of the items
pub data IsTokensFault (ts : List Lexeme) : AsmKind → ℕ → Type 0 where
  of_grammar : (fault : ParseFault) (at : ℕ) → IsFirstRefusalAtPosition ts fault at
      → IsTokensFault ts (grammar_kind fault) at
  of_items : (items : List Item) (kind : AsmKind) (at : ℕ) → Items ts items → IsAccepted ts
      → items_fault items ≡ Some (kind, at) → IsTokensFault ts kind at

-- why a text is refused, and the position: its first bad piece, and where there is none the fault of its tokens
pub data IsTextFault (text : List ℕ) : AsmKind → ℕ → Type 0 where
  of_piece : (bad : BadPiece) (at : ℕ) → IsFirstBad text bad at → IsTextFault text (bad_piece_kind bad) at
  of_tokens : (tokens : List Token) (kind : AsmKind) (at : ℕ) → Lexes text tokens
      → IsTokensFault (lexemes_of text tokens) kind at → IsTextFault text kind at

-- the fault is that of the text, with its position; out of memory says nothing
abbrev pub IsPlacedFault : List ℕ → PlacedFault → Type 0
IsPlacedFault text placed.Memory = Unit {0}
IsPlacedFault text (placed.At kind at) = IsTextFault text kind at

-- the same with the line of its position
abbrev pub IsRefused : List ℕ → AsmFault → Type 0
IsRefused text faults.Memory = Unit {0}
IsRefused text (faults.At kind line) = (at : ℕ) × IsTextFault text kind at × (line ≡ line_of text at)

-- the fault is that of the text, on the line of this position
abbrev pub IsRefusedFrom : List ℕ → AsmFault → ℕ → Type 0
IsRefusedFrom text faults.Memory at = ⊥
IsRefusedFrom text (faults.At kind line) at = IsTextFault text kind at × (line ≡ line_of text at)

-- a fault with its position, as it is reported with its line
abbrev pub on_line : List ℕ → PlacedFault → AsmFault
on_line text placed.Memory = faults.Memory
on_line text (placed.At kind at) = faults.At kind (line_of text at)

-- why a text can't be cut into tokens, with the position; out of memory says nothing
abbrev pub IsPlacedPiece : List ℕ → PlacedFault → Type 0
IsPlacedPiece text placed.Memory = Unit {0}
IsPlacedPiece text (placed.At kind at) = (bad : BadPiece) × (kind ≡ bad_piece_kind bad) × IsFirstBad text bad at

-- the same with the line
abbrev pub IsLexRefused : List ℕ → AsmFault → Type 0
IsLexRefused text faults.Memory = Unit {0}
IsLexRefused text (faults.At kind line) =
    (bad : BadPiece) × (at : ℕ) × (kind ≡ bad_piece_kind bad) × IsFirstBad text bad at × (line ≡ line_of text at)

-- the fault is the one that there is; out of memory says nothing
abbrev pub AnswersFault : Option (AsmKind × ℕ) → PlacedFault → Type 0
AnswersFault fault placed.Memory = Unit {0}
AnswersFault fault (placed.At kind at) = fault ≡ Some (kind, at)
