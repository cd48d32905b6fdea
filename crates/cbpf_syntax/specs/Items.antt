-- The items of a token list, which are instructions with their labels, as the forms of `Table` make them, and what begins a
-- list of items. The forms are those of the kernel's Documentation/networking/filter and this project's own.
use Rattle.std.specs.Prelude.{◌≡◌, true, List, [], ◌∷◌, ◌++◌, Contains}
use Rattle.cbpf_syntax.specs.Lexemes.{Lexeme}
use Rattle.cbpf_syntax.specs.Fits.{fits, fits_all}
use Rattle.cbpf_syntax.specs.Classes.Class.{the_mark, name}
use Rattle.cbpf_syntax.specs.Table.{Row, classes, table}

-- one instruction: its labels, its row of the table, and its tokens after the labels
pub record Item : Type 0 where
  pub labels : List Lexeme
  pub row : Row
  pub body : List Lexeme

-- the tokens are these labels, each a name with a colon after it
abbrev pub AreLabels : List Lexeme → List Lexeme → Type 0
AreLabels [] [] = Unit {0}
AreLabels (t ∷ colon ∷ ts) (label ∷ labels) = (t ≡ label) × (fits name t.symbol ≡ true)
    × (fits (the_mark 58) colon.symbol ≡ true) × AreLabels ts labels
AreLabels ts labels = ⊥

-- the tokens after the labels fit the row, which is one of the table
pub record HasForm (item : Item) : Type 0 where
  pub known : Contains table item.row
  pub fits : fits_all (classes item.row) item.body ≡ true

-- the tokens are the item: its labels, each with its colon, and then its other tokens
pub record IsItem (tokens : List Lexeme) (item : Item) : Type 0 where
  pub before : List Lexeme
  pub labels : AreLabels before item.labels
  pub form : HasForm item
  pub all : tokens ≡ before ++ item.body

-- the tokens are these items, one after another
abbrev pub Items : List Lexeme → List Item → Type 0
Items tokens [] = tokens ≡ []
Items tokens (item ∷ items) = (front : List Lexeme) × (rest : List Lexeme) × (tokens ≡ front ++ rest)
    × IsItem front item × Items rest items

-- the tokens begin an item: with some tokens after them, or with none, they are one
abbrev pub BeginsItem : List Lexeme → Type 0
BeginsItem tokens = (more : List Lexeme) × (item : Item) × IsItem (tokens ++ more) item

-- the tokens begin items: with some tokens after them, or with none, they are items
abbrev pub BeginsItems : List Lexeme → Type 0
BeginsItems tokens = (more : List Lexeme) × (items : List Item) × Items (tokens ++ more) items
