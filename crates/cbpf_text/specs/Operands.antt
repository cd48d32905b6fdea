-- The literal and the targets of an instruction, by the classes of its tokens, in addressing modes of the kernel's
-- Documentation/networking/filter and this project's own.
use Rattle.std.specs.Prelude.{ℕ, ◌-◌, ◌%◌, ◌^◌, List, [], ◌∷◌, ◌++◌, Option, Some, None}
use Rattle.std.specs.Option.{option_map, unwrap_or}
use Rattle.cbpf_code.specs.Extension.{ext_named, ext_number}
use Rattle.cbpf_syntax.specs.Classes.{Class}
use Rattle.cbpf_syntax.specs.Classes.Class.{literal, negated, extension, name}
use Rattle.cbpf_syntax.specs.Lexemes.{Symbol, Lexeme}
use Rattle.cbpf_syntax.specs.Lexemes.Symbol.{word, number}
use Rattle.cbpf_syntax.specs.Table.{classes}
use Rattle.cbpf_syntax.specs.Items.{Item}

-- the value of a token at a class, where it has one; a negative number is kept modulo 2 ^ 32
abbrev pub value_at : Class → Symbol → Option ℕ
value_at literal (number n) = Some n
value_at negated (number n) = Some ((2 ^ 32 - n) % 2 ^ 32)
value_at extension (word w) = option_map ext_number (ext_named w)
value_at c s = None

-- the literal of tokens at their classes, of which a form has at most one: its value, or 0
abbrev pub literal_of : List Class → List Lexeme → ℕ
literal_of [] ts = 0
literal_of (c ∷ cs) [] = 0
literal_of (c ∷ cs) (t ∷ ts) = unwrap_or (value_at c t.symbol) (literal_of cs ts)

-- the number that an item has, or 0
abbrev pub literal_in : Item → ℕ
literal_in item = literal_of (classes item.row) item.body

-- the token, where its class is a name
abbrev pub when_name : Class → Lexeme → List Lexeme
when_name name t = t ∷ []
when_name c t = []

-- the tokens that stand at names
abbrev pub names_at : List Class → List Lexeme → List Lexeme
names_at [] ts = []
names_at (c ∷ cs) [] = []
names_at (c ∷ cs) (t ∷ ts) = when_name c t ++ names_at cs ts

-- the labels in an instruction's operand, in text order
abbrev pub targets_in : Item → List Lexeme
targets_in item = names_at (classes item.row) item.body
