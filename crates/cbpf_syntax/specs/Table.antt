-- The table of instructions in the kernel's Documentation/networking/filter (BPF engine and instruction set): for
-- each mnemonic its addressing modes, each with its operation and its forms, all options written out. This project's
-- own are `ldi` and `ldxi` with a bare number, `[%x + n]`, extensions for `ldh` and `ldb`, signs, of which the kernel's
-- examples have that of `#-1` alone, and other spellings of 4 and 15 in `4*([n]&0xf)`. Of the extensions for `ldx` only
-- `len` is here.
use Rattle.std.specs.Prelude.{ℕ, List, [], ◌∷◌, ◌++◌, map, codes, flat_map}
use Rattle.cbpf_code.specs.declared.opcode.Op.{Op}
use Rattle.cbpf_code.specs.declared.opcode.Op.TheVariants.{LdImm, LdAbs, LdInd, LdMem, LdLen, LdxImm, LdxMem, LdxLen}
use Rattle.cbpf_code.specs.declared.opcode.Op.TheVariants.{LdxMsh, St, Stx, Alu, Neg, Ja, Jump, RetK, RetA, Tax, Txa}
use Rattle.cbpf_code.specs.declared.opcode.Size.{Size}
use Rattle.cbpf_code.specs.declared.opcode.AluOp.{AluOp}
use Rattle.cbpf_code.specs.declared.opcode.Cond.{Cond}
use Rattle.cbpf_code.specs.declared.opcode.Size.TheVariants as size
use Rattle.cbpf_code.specs.declared.opcode.AluOp.TheVariants as alu_op
use Rattle.cbpf_code.specs.declared.opcode.Src.TheVariants as src
use Rattle.cbpf_code.specs.declared.opcode.Cond.TheVariants as cond
use Rattle.cbpf_code.specs.Syntax.{mnemonic_of}
use Rattle.cbpf_syntax.specs.declared.table.Fields.{Fields}
use Rattle.cbpf_syntax.specs.declared.table.Fields.TheVariants.{Constant, Goto, Branch, Swapped}
use Rattle.cbpf_syntax.specs.Classes.{Class}
use Rattle.cbpf_syntax.specs.Classes.Class.{the_word, the_mark, literal, negated, exactly, extension, name}

-- one form of an instruction
pub record Row : Type 0 where
  pub mnemonic : List ℕ
  pub operand : List Class
  pub op : Op
  -- `Constant`: the literal goes to k, and there is no target. `Goto`: the target's offset goes to k, and there is no literal.
  -- `Branch`: the literal goes to k, the first target's offset to jt, and a second one's to jf. `Swapped`: the literal goes to
  -- k, and the target's offset to jf, as the jump goes where the comparison fails.
  pub fields : Fields

-- the classes of the mnemonic and of its operand
abbrev pub classes : Row → List Class
classes row = the_word row.mnemonic ∷ row.operand

-- a mode of a mnemonic, with its operation and the forms of its operand
pub record TableEntry : Type 0 where
  pub forms : List (List Class)
  pub op : Op
  pub fields : Fields

-- a mnemonic with its modes
pub record Mnemonic : Type 0 where
  pub word : List ℕ
  pub entries : List TableEntry

-- the words of operands, which are no mnemonics
abbrev pub x_word : List ℕ
x_word = codes "x"

-- the word for A
abbrev pub a_word : List ℕ
a_word = codes "a"

-- the word for the packet's length
abbrev pub length_word : List ℕ
length_word = codes "len"

-- the word for scratch memory
abbrev pub memory_word : List ℕ
memory_word = codes "M"

-- the words that have a meaning of their own in an operand, so that no label has their names
abbrev pub operand_words : List (List ℕ)
operand_words = length_word ∷ x_word ∷ a_word ∷ memory_word ∷ []

infixl 60 ◌·◌
-- each form of the first part, with each form of the second after it; a form is a list of classes
abbrev pub ◌·◌ : List (List Class) → List (List Class) → List (List Class)
fs · gs = flat_map (λ f. map (λ g. f ++ g) gs) fs

-- a part that is one token
abbrev pub one : Class → List (List Class)
one c = (c ∷ []) ∷ []

-- a part that is one mark
abbrev pub one_mark : ℕ → List (List Class)
one_mark b = one (the_mark b)

-- marks that an operand must have, each a part with one form, which `·` joins to other parts; a mark that may be left out is
-- written with `the_mark` inside the forms that have it, as in `signed`
abbrev open_bracket : List (List Class)
open_bracket = one_mark 91

-- the mark `]`
abbrev close_bracket : List (List Class)
close_bracket = one_mark 93

-- the mark `(`
abbrev open_parenthesis : List (List Class)
open_parenthesis = one_mark 40

-- the mark `)`
abbrev close_parenthesis : List (List Class)
close_parenthesis = one_mark 41

-- the mark `*`
abbrev asterisk : List (List Class)
asterisk = one_mark 42

-- the mark `&`
abbrev ampersand : List (List Class)
ampersand = one_mark 38

-- the mark `+`
abbrev plus : List (List Class)
plus = one_mark 43

-- the mark `#`
abbrev hash : List (List Class)
hash = one_mark 35

-- the mark `,`
abbrev pub comma : List (List Class)
comma = one_mark 44

-- a number with an optional `+` or `-`
abbrev pub signed : List (List Class)
signed = (literal ∷ []) ∷ (the_mark 43 ∷ literal ∷ []) ∷ (the_mark 45 ∷ negated ∷ []) ∷ []

-- `x`, with `%` before it or without
abbrev pub x_operand : List (List Class)
x_operand = (the_word x_word ∷ []) ∷ (the_mark 37 ∷ the_word x_word ∷ []) ∷ []

-- `a`, with `%` before it or without
abbrev pub a_operand : List (List Class)
a_operand = (the_word a_word ∷ []) ∷ (the_mark 37 ∷ the_word a_word ∷ []) ∷ []

-- an extension's name, with `#` before it or without
abbrev pub extension_operand : List (List Class)
extension_operand = (extension ∷ []) ∷ (the_mark 35 ∷ extension ∷ []) ∷ []

-- `len`, with `#` before it or without
abbrev pub length_operand : List (List Class)
length_operand = (the_word length_word ∷ []) ∷ (the_mark 35 ∷ the_word length_word ∷ []) ∷ []

-- a label's name
abbrev pub label : List (List Class)
label = one name

-- `[n]`
abbrev pub absolute : List (List Class)
absolute = open_bracket · signed · close_bracket

-- `[x + n]`
abbrev pub indexed : List (List Class)
indexed = open_bracket · x_operand · plus · signed · close_bracket

-- `M[n]`
abbrev pub memory : List (List Class)
memory = one (the_word memory_word) · open_bracket · signed · close_bracket

-- `#n`
abbrev pub immediate : List (List Class)
immediate = hash · signed

-- `4*([n]&0xf)`
abbrev pub header : List (List Class)
header = one (exactly 4) · asterisk · open_parenthesis · open_bracket · signed · close_bracket · ampersand
    · one (exactly 15) · close_parenthesis

-- the form of no tokens
abbrev pub no_operand : List (List Class)
no_operand = [] ∷ []

-- a mode of a mnemonic, by the forms of its operand
abbrev pub entry : List (List Class) → Op → Fields → TableEntry
entry forms op fields = record { forms = forms; op = op; fields = fields }

-- the loads of a size from the packet and from an extension
abbrev pub load : Size → List TableEntry
load s = entry absolute (LdAbs s) Constant ∷ entry indexed (LdInd s) Constant
    ∷ entry extension_operand (LdAbs s) Constant ∷ []

-- a conditional jump with one target
abbrev pub one_target : Cond → Fields → List TableEntry
one_target c fields = entry (immediate · comma · label) (Jump c src.K) fields
    ∷ entry (x_operand · comma · label) (Jump c src.X) fields ∷ []

-- a conditional jump with two targets
abbrev pub two_targets : Cond → List TableEntry
two_targets c = entry (immediate · comma · label · comma · label) (Jump c src.K) Branch
    ∷ entry (x_operand · comma · label · comma · label) (Jump c src.X) Branch ∷ []

-- a word with its modes
abbrev pub mnemonic : List ℕ → List TableEntry → Mnemonic
mnemonic word entries = record { word = word; entries = entries }

-- a mnemonic with one mode; its word is the one that a listing writes for the operation
abbrev pub only : List (List Class) → Op → Fields → Mnemonic
only forms op fields = mnemonic (mnemonic_of op) (entry forms op fields ∷ [])

-- a mnemonic of conditional jumps with two targets or one; its word is the one that a listing writes for them
abbrev pub conditional : Cond → Mnemonic
conditional c = mnemonic (mnemonic_of (Jump c src.K)) (two_targets c ++ one_target c Branch)

-- a mnemonic of an operation with a constant or with x; its word is the one that a listing writes for it
abbrev pub arithmetic : AluOp → Mnemonic
arithmetic op = mnemonic (mnemonic_of (Alu op src.K))
    (entry immediate (Alu op src.K) Constant ∷ entry x_operand (Alu op src.X) Constant ∷ [])

-- All mnemonics, in this order: ld ldh ldb ldi ldx ldxi ldxb st stx jmp ja jeq jgt jge jset jneq jne jlt jle add sub
-- mul div mod and or xor lsh rsh neg tax txa ret. `jlt` goes where `jge` fails, and `jle` where `jgt` fails.
unfoldable pub mnemonics : List Mnemonic
mnemonics =
    mnemonic (mnemonic_of LdImm)
    (load size.Word ++ (entry memory LdMem Constant ∷ entry immediate LdImm Constant
    ∷ entry length_operand LdLen Constant ∷ []))
    ∷ mnemonic (mnemonic_of (LdAbs size.Half)) (load size.Half)
    ∷ mnemonic (mnemonic_of (LdAbs size.Byte)) (load size.Byte)
    ∷ mnemonic (codes "ldi") (entry immediate LdImm Constant ∷ entry signed LdImm Constant ∷ [])
    ∷ mnemonic (mnemonic_of LdxImm)
    (entry memory LdxMem Constant ∷ entry immediate LdxImm Constant ∷ entry header LdxMsh Constant
    ∷ entry length_operand LdxLen Constant ∷ [])
    ∷ mnemonic (codes "ldxi") (entry immediate LdxImm Constant ∷ entry signed LdxImm Constant ∷ [])
    ∷ only header LdxMsh Constant ∷ only memory St Constant ∷ only memory Stx Constant ∷ only label Ja Goto
    ∷ mnemonic (codes "ja") (entry label Ja Goto ∷ [])
    ∷ conditional cond.Eq ∷ conditional cond.Gt ∷ conditional cond.Ge ∷ conditional cond.Bits
    ∷ mnemonic (codes "jneq") (one_target cond.Eq Swapped)
    ∷ mnemonic (codes "jne") (one_target cond.Eq Swapped)
    ∷ mnemonic (codes "jlt") (one_target cond.Ge Swapped)
    ∷ mnemonic (codes "jle") (one_target cond.Gt Swapped)
    ∷ arithmetic alu_op.Add ∷ arithmetic alu_op.Sub ∷ arithmetic alu_op.Mul ∷ arithmetic alu_op.Div
    ∷ arithmetic alu_op.Mod ∷ arithmetic alu_op.And
    ∷ arithmetic alu_op.Or ∷ arithmetic alu_op.Xor ∷ arithmetic alu_op.Lsh ∷ arithmetic alu_op.Rsh
    ∷ only no_operand Neg Constant ∷ only no_operand Tax Constant ∷ only no_operand Txa Constant
    ∷ mnemonic (mnemonic_of RetK) (entry immediate RetK Constant ∷ entry a_operand RetA Constant ∷ [])
    ∷ []

-- a row for each form of a mode
abbrev pub entry_rows : List ℕ → TableEntry → List Row
entry_rows word e = map (λ form. record { mnemonic = word; operand = form; op = e.op; fields = e.fields }) e.forms

-- the rows of all modes of a mnemonic
abbrev pub rows_of : Mnemonic → List Row
rows_of m = flat_map (entry_rows m.word) m.entries

-- all forms of all instructions
abbrev pub table : List Row
table = flat_map rows_of mnemonics
