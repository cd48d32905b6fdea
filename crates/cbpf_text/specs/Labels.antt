-- Which labels a list of items sets, and for which item: labels as the kernel's Documentation/networking/filter has
-- them, each a name for the instruction after it.
use Rattle.std.specs.Prelude.{ℕ, ◌+◌, List, [], ◌∷◌, ◌++◌, map, bytes_eq, Option, Some, None, is_some}
use Rattle.std.specs.Prelude.{if◌then◌else◌}
use Rattle.std.specs.Map.{lookup}
use Rattle.cbpf_syntax.specs.Lexemes.{Symbol, Lexeme}
use Rattle.cbpf_syntax.specs.Lexemes.Symbol.{word}
use Rattle.cbpf_syntax.specs.Items.{Item}

-- the bytes of a word
abbrev pub word_bytes : Symbol → List ℕ
word_bytes (word w) = w
word_bytes s = []

-- the name that a label's word gives
abbrev pub name_of : Lexeme → List ℕ
name_of t = word_bytes t.symbol

-- labels of one item, each with the item's index
abbrev pub labels_of : ℕ → List Lexeme → List (Lexeme × ℕ)
labels_of index words = map (λ t. (t, index)) words

-- the labels that items set, in text order, each with its item's index; the first item's index is `index`
abbrev pub labels_from : ℕ → List Item → List (Lexeme × ℕ)
labels_from index [] = []
labels_from index (item ∷ items) = labels_of index item.labels ++ labels_from (index + 1) items

-- the index of the item of the first label that gives the name
abbrev pub item_named : List (Lexeme × ℕ) → List ℕ → Option ℕ
item_named labels name = lookup (λ t. bytes_eq (name_of t) name) labels

-- the position in the text of the first label whose name is in `before` or repeats an earlier one
abbrev pub repeat_after : List (Lexeme × ℕ) → List (Lexeme × ℕ) → Option ℕ
repeat_after before [] = None
repeat_after before (l ∷ ls) =
    if is_some (item_named before (name_of l.0)) then Some l.0.at else repeat_after (before ++ (l ∷ [])) ls

-- the position in the text of the first label whose name an earlier one gives
abbrev pub first_repeat : List (Lexeme × ℕ) → Option ℕ
first_repeat labels = repeat_after [] labels
