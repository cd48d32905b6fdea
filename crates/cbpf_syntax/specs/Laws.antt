-- Laws of the forms of `Table`: a token list is one list of items and has no refusal, or has one first refusal. The forms
-- are those of the kernel's Documentation/networking/filter and this project's own.
use Rattle.std.specs.Prelude.{◌≡◌, ◌⊎◌, ℕ, List}
use Rattle.cbpf_syntax.specs.Lexemes.{Lexeme}
use Rattle.cbpf_syntax.specs.Items.{Item, Items}
use Rattle.cbpf_syntax.specs.Refusals.{ParseFault, IsFirstRefusal, IsAccepted}

-- tokens are the items of one list
abbrev pub OneItemList : Type 0
OneItemList = (ts : List Lexeme) (is js : List Item) → Items ts is → Items ts js → is ≡ js

-- tokens have one first refusal, at one index
abbrev pub OneFirstRefusal : Type 0
OneFirstRefusal = (ts : List Lexeme) (f g : ParseFault) (p q : ℕ) → IsFirstRefusal ts f p → IsFirstRefusal ts g q
    → (f ≡ g) × (p ≡ q)

-- each token list is items and has no refusal, or has a first refusal
abbrev pub EachParsed : Type 0
EachParsed = (ts : List Lexeme)
    → ((is : List Item) × Items ts is × IsAccepted ts) ⊎ ((f : ParseFault) × (p : ℕ) × IsFirstRefusal ts f p)
