-- Which instructions a source text stands for, by forms of the kernel's Documentation/networking/filter and this
-- project's own, as a relation between whole lists.
use Rattle.std.specs.Prelude.{◌≡◌, ℕ, ◌+◌, ◌-◌, List, [], ◌∷◌, slice_get, Option, Some, None}
use Rattle.std.specs.Option.{unwrap_or}
use Rattle.cbpf_syntax.specs.declared.token.Token.{Token}
use Rattle.cbpf_syntax.specs.Tokens.{Lexes}
use Rattle.cbpf_code.specs.declared.insn.Insn.{Insn}
use Rattle.cbpf_code.specs.Opcode.{code_of}
use Rattle.cbpf_syntax.specs.declared.table.Fields.{Fields}
use Rattle.cbpf_syntax.specs.declared.table.Fields.TheVariants.{Constant, Goto, Branch, Swapped}
use Rattle.cbpf_syntax.specs.Lexemes.{Lexeme, lexemes_of}
use Rattle.cbpf_syntax.specs.Items.{Item, Items}
use Rattle.cbpf_syntax.specs.Refusals.{IsLargeNegative}
use Rattle.cbpf_text.specs.Labels.{name_of, labels_from, item_named}
use Rattle.cbpf_text.specs.Operands.{literal_in, targets_in}
use Rattle.cbpf_text.specs.Refusals.{items_fault}

-- The number of items between the one at the index and a target's, and 0 where there is no target. It is 0 too where
-- the label isn't set or isn't after the jump, which `items_fault` refuses.
abbrev pub offset_of : List (Lexeme × ℕ) → ℕ → Option Lexeme → ℕ
offset_of labels index None = 0
offset_of labels index (Some target) = unwrap_or (item_named labels (name_of target)) 0 - (index + 1)

-- where the literal and the offsets of two targets stand
abbrev pub with_fields : Fields → ℕ → ℕ → ℕ → ℕ → Insn
with_fields Constant code k first second = record { code = code; jt = 0; jf = 0; k = k }
with_fields Goto code k first second = record { code = code; jt = 0; jf = 0; k = first }
with_fields Branch code k first second = record { code = code; jt = first; jf = second; k = k }
with_fields Swapped code k first second = record { code = code; jt = 0; jf = first; k = k }

-- the instruction of the item at the index
abbrev pub insn_of : List (Lexeme × ℕ) → ℕ → Item → Insn
insn_of labels index item = with_fields item.row.fields (code_of item.row.op) (literal_in item)
    (offset_of labels index (slice_get (targets_in item) 0)) (offset_of labels index (slice_get (targets_in item) 1))

-- the instructions of items; the first item's index is `index`
abbrev pub insns_from : List (Lexeme × ℕ) → ℕ → List Item → List Insn
insns_from labels index [] = []
insns_from labels index (item ∷ items) = insn_of labels index item ∷ insns_from labels (index + 1) items

-- the tokens are items, no literal is out of range, the items have no fault, and the instructions are theirs
pub record TokensAssemble (ts : List Lexeme) (insns : List Insn) : Type 0 where
  pub items : List Item
  pub parsed : Items ts items
  pub ranged : (i : ℕ) → IsLargeNegative ts i → ⊥
  pub no_fault : items_fault items ≡ None
  pub encoded : insns ≡ insns_from (labels_from 0 items) 0 items

-- the text assembles to the instructions: its tokens do
pub record Assembles (text : List ℕ) (insns : List Insn) : Type 0 where
  pub tokens : List Token
  pub lexed : Lexes text tokens
  pub assembled : TokensAssemble (lexemes_of text tokens) insns
