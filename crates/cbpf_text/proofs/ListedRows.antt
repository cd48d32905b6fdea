-- Each operation has a row of the table for the tokens that a listing writes.
use Rattle.std.proofs.Common.{rules, ◌≡◌, ℕ, Bool, true, false, cond, ◌&&◌, List, [], ◌∷◌, refl, ap}
use Rattle.std.proofs.Common.{◌∙◌, eqb-true, ltb-true, Some}
use Rattle.std.specs.Prelude.{◌==◌, nat_lt, codes, Contains, bytes_eq}
use Rattle.std.specs.List.{list_all, list_any}
use Rattle.std.proofs.lemmas.Bool.{and_parts}
use Rattle.std.specs.Bool.{beq}
use Rattle.cbpf_code.specs.declared.insn.Insn.{Insn}
use Rattle.cbpf_code.specs.declared.opcode.Op.{Op}
use Rattle.std.specs.Map.{lookup}
use Rattle.cbpf_code.specs.Opcode.{op_table, op_of, code_of}
use Rattle.cbpf_code.specs.Plain.{kept, plain, plain_for, uses_k, uses_offsets}
use Rattle.cbpf_code.proofs.TableLemmas.{code_known}
use Rattle.cbpf_syntax.specs.Bytes.{is_letter, is_name_byte}
use Rattle.cbpf_syntax.proofs.Spelled.{IsSegment}
use Rattle.cbpf_syntax.proofs.Spelled.Segment.{word}
use Rattle.cbpf_syntax.specs.declared.table.Fields.{Fields}
use Rattle.cbpf_syntax.specs.declared.table.Fields.TheVariants.{Constant, Goto, Branch}
use Rattle.cbpf_syntax.specs.Classes.{Class}
use Rattle.cbpf_syntax.specs.Classes.Class.{the_word, the_mark, literal, exactly, extension, name}
use Rattle.cbpf_syntax.specs.Table.{Row, table, mnemonics}
use Rattle.cbpf_syntax.proofs.Apart.{equal_bytes}
use Rattle.cbpf_syntax.proofs.Elements.{some_element}
use Rattle.cbpf_code.specs.Syntax.{Operand, mnemonic_of, operand_of, Operand as operands}

-- the classes of the tokens that a listing writes after a mnemonic, and where they go; where k is an extension's place,
-- it writes the name
abbrev pub operand_classes : Bool → Operand → List Class
operand_classes named operands.Bare = []
operand_classes named operands.X = the_word (codes "x") ∷ []
operand_classes named operands.A = the_word (codes "a") ∷ []
operand_classes named operands.Length = the_word (codes "len") ∷ []
operand_classes named operands.Immediate = the_mark 35 ∷ literal ∷ []
operand_classes true operands.Absolute = extension ∷ []
operand_classes false operands.Absolute = the_mark 91 ∷ literal ∷ the_mark 93 ∷ []
operand_classes named operands.Indexed = the_mark 91 ∷ the_word (codes "x") ∷ the_mark 43 ∷ literal ∷ the_mark 93 ∷ []
operand_classes named operands.Memory = the_word (codes "M") ∷ the_mark 91 ∷ literal ∷ the_mark 93 ∷ []
operand_classes named operands.Header = exactly 4 ∷ the_mark 42 ∷ the_mark 40 ∷ the_mark 91 ∷ literal ∷ the_mark 93
    ∷ the_mark 38 ∷ exactly 15 ∷ the_mark 41 ∷ []
operand_classes named operands.Label = name ∷ []
operand_classes named operands.ImmediateTwo = the_mark 35 ∷ literal ∷ the_mark 44 ∷ name ∷ the_mark 44 ∷ name ∷ []
operand_classes named operands.XTwo = the_word (codes "x") ∷ the_mark 44 ∷ name ∷ the_mark 44 ∷ name ∷ []

abbrev pub operand_fields : Operand → Fields
operand_fields operands.Label = Goto
operand_fields operands.ImmediateTwo = Branch
operand_fields operands.XTwo = Branch
operand_fields o = Constant

abbrev same_class : Class → Class → Bool
same_class (the_word v) (the_word w) = bytes_eq v w
same_class (the_mark a) (the_mark b) = a == b
same_class literal literal = true
same_class (exactly m) (exactly n) = m == n
same_class extension extension = true
same_class name name = true
same_class c d = false

abbrev same_classes : List Class → List Class → Bool
same_classes [] [] = true
same_classes (c ∷ cs) (d ∷ ds) = same_class c d && same_classes cs ds
same_classes cs ds = false

abbrev same_fields : Fields → Fields → Bool
same_fields Constant Constant = true
same_fields Goto Goto = true
same_fields Branch Branch = true
same_fields f g = false

abbrev is_row_for : Op → List Class → Fields → Row → Bool
is_row_for op cs f row = code_of row.op == code_of op
    && (bytes_eq row.mnemonic (mnemonic_of op) && (same_classes row.operand cs && same_fields row.fields f))

abbrev has_row : Bool → Op → Bool
has_row named op =
    list_any (is_row_for op (operand_classes named (operand_of op)) (operand_fields (operand_of op))) table

-- every operation has its row
operations_have_rows : (named : Bool) → list_all (λ (e : ℕ × Op). has_row named e.1) op_table ≡ true
unfolding mnemonics
operations_have_rows true = refl
operations_have_rows false = refl

same_class_eq : (c d : Class) → same_class c d ≡ true → c ≡ d
same_class_eq c d h1 = search (rules, equal_bytes, eqb-true)

same_classes_eq : (cs ds : List Class) → same_classes cs ds ≡ true → cs ≡ ds
same_classes_eq [] [] e = refl
same_classes_eq (c ∷ cs) (d ∷ ds) e =
    let p : (same_class c d ≡ true) × (same_classes cs ds ≡ true) = and_parts (same_class c d) _ e in
    let h : c ≡ d = same_class_eq c d p.0 in
    let t : cs ≡ ds = same_classes_eq cs ds p.1 in
    λ i. h i ∷ t i
same_classes_eq cs ds e = let k : false ≡ true = e in cc

same_fields_eq : (f g : Fields) → same_fields f g ≡ true → f ≡ g
same_fields_eq f g h1 = search (rules)

-- the operation's row, where k is an extension's place, and where it isn't
pub record HasRow (named : Bool) (op : Op) : Type 0 where
  pub row : Row
  pub known : Contains table row
  pub code : code_of row.op ≡ code_of op
  pub mnemonic : row.mnemonic ≡ mnemonic_of op
  pub operand : row.operand ≡ operand_classes named (operand_of op)
  pub fields : row.fields ≡ operand_fields (operand_of op)

found_row : (named : Bool) (op : Op) → has_row named op ≡ true → HasRow named op
found_row named op h1 = search (rules, some_element, and_parts, eqb-true, equal_bytes, same_classes_eq, same_fields_eq)

-- what holds of each entry of a table holds of what is found in it
pub looked_up : {V : Type 0} (p : V → Bool) (t : List (ℕ × V)) (key : ℕ) (v : V)
    → list_all (λ (e : ℕ × V). p e.1) t ≡ true → lookup (λ k. key == k) t ≡ Some v → p v ≡ true
looked_up p [] key v a found = cc
looked_up p (e ∷ es) key v a found =
    by_test (key == e.0) found (λ f. looked_up p es key v (and_parts (p e.1) _ a).1 f)
  where
    by_test : (t : Bool) → cond t (Some e.1) (lookup (λ k. key == k) es) ≡ Some v
        → (lookup (λ k. key == k) es ≡ Some v → p v ≡ true) → p v ≡ true
    by_test true f again = let h : e.1 ≡ v = cc in rw (← h) (and_parts (p e.1) _ a).0
    by_test false f again = again f

holds_for_all : (p : Op → Bool) → list_all (λ (e : ℕ × Op). p e.1) op_table ≡ true → (op : Op) → p op ≡ true
unfolding op_of
holds_for_all p a op = looked_up p op_table (code_of op) op a (code_known op)

pub operation_row : (named : Bool) (op : Op) → HasRow named op
operation_row named op = found_row named op (holds_for_all (has_row named) (operations_have_rows named) op)

-- a mnemonic is a word
abbrev pub first_byte : List ℕ → ℕ
first_byte [] = 0
first_byte (b ∷ bs) = b

abbrev pub later_bytes : List ℕ → List ℕ
later_bytes [] = []
later_bytes (b ∷ bs) = bs

abbrev pub IsWord : List ℕ → Type 0
IsWord w = (first_byte w ∷ later_bytes w ≡ w) × IsSegment (word (first_byte w) (later_bytes w))

abbrev pub is_word : List ℕ → Bool
is_word [] = false
is_word (b ∷ bs) = nat_lt b 256 && (is_letter b && list_all is_name_byte bs)

pub word_of_test : (w : List ℕ) → is_word w ≡ true → IsWord w
word_of_test w h1 = search (rules, and_parts, ltb-true)

mnemonics_are_words : list_all (λ (e : ℕ × Op). is_word (mnemonic_of e.1)) op_table ≡ true
mnemonics_are_words = refl

pub mnemonic_word : (op : Op) → IsWord (mnemonic_of op)
mnemonic_word op = word_of_test (mnemonic_of op) (holds_for_all (λ o. is_word (mnemonic_of o)) mnemonics_are_words op)

-- which fields an instruction keeps, by its operand
abbrev pub keeps_k : Operand → Bool
keeps_k operands.Bare = false
keeps_k operands.X = false
keeps_k operands.A = false
keeps_k operands.Length = false
keeps_k operands.XTwo = false
keeps_k o = true

abbrev pub keeps_offsets : Operand → Bool
keeps_offsets operands.ImmediateTwo = true
keeps_offsets operands.XTwo = true
keeps_offsets o = false

abbrev pub plain_as : Operand → Insn → Insn
plain_as o insn = record insn {
  jt = kept (keeps_offsets o) insn.jt;
  jf = kept (keeps_offsets o) insn.jf;
  k = kept (keeps_k o) insn.k;
}

abbrev keeps_its_fields : Op → Bool
keeps_its_fields op =
    beq (uses_k op) (keeps_k (operand_of op)) && beq (uses_offsets op) (keeps_offsets (operand_of op))

operations_keep_their_fields : list_all (λ (e : ℕ × Op). keeps_its_fields e.1) op_table ≡ true
operations_keep_their_fields = refl

plain_by : (insn : Insn) (op : Op) → plain_for insn (Some op) ≡ plain_as (operand_of op) insn
plain_by insn op = search (rules, and_parts, holds_for_all, operations_keep_their_fields)

pub plain_is : (insn : Insn) (op : Op) → op_of insn.code ≡ Some op → plain insn ≡ plain_as (operand_of op) insn
plain_is insn op e = ap (plain_for insn) e ∙ plain_by insn op
