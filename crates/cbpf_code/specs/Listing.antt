-- The listing of a program: a line for each instruction, its mnemonic as `Syntax` has it, and its operand. This has the
-- syntax of the kernel's Documentation/networking/filter ("BPF engine and instruction set") where that shows one. The label
-- before each instruction, `l` and its index, and targets as these labels, are those of its examples of `disassemble`.
-- All else is this project's own.
use Rattle.std.specs.Prelude.{ℕ, ◌+◌, ◌==◌, if◌then◌else◌, List, [], ◌∷◌, ◌++◌, Option, Some, None, slice_get, codes}
use Rattle.std.specs.Prelude.{decimal}
use Rattle.std.specs.Option.{option_map_or}
use Rattle.std.specs.List.{flat_map, enumerate_from}
use Rattle.cbpf_code.specs.declared.insn.Insn.{Insn}
use Rattle.cbpf_code.specs.declared.opcode.Op.{Op}
use Rattle.cbpf_code.specs.declared.extension.Ext.{Ext}
use Rattle.cbpf_code.specs.Opcode.{op_of}
use Rattle.cbpf_code.specs.Extension.{ext_at, ext_name}
use Rattle.cbpf_code.specs.Text.{concat, with_number, hex}
use Rattle.cbpf_code.specs.Syntax.{Operand, mnemonic_of, operand_of}
use Rattle.cbpf_code.specs.Syntax.Operand.{Bare, X, A, Length, Immediate, Absolute, Indexed, Memory, Header, Label}
use Rattle.cbpf_code.specs.Syntax.Operand.{ImmediateTwo, XTwo}

-- the label of the instruction at an index, and its mnemonic
abbrev pub head : ℕ → List ℕ → List ℕ
head i word = concat (codes "l" ∷ decimal i ∷ codes ":\t" ∷ word ∷ [])

-- k in hexadecimal without leading zeros, or `#0`; each operand has its space before it
abbrev pub immediate_operand : ℕ → List ℕ
immediate_operand k = if k == 0 then codes " #0" else codes " #0x" ++ hex 1 k

-- an offset in the packet, or the name of the extension that has this number
abbrev pub offset_or_name : Option Ext → ℕ → List ℕ
offset_or_name None k = with_number (codes " [") k (codes "]")
offset_or_name (Some e) k = concat (codes " " ∷ ext_name e ∷ [])

-- the targets of the conditional jump at an index: where it holds, and where it doesn't
abbrev pub targets_text : ℕ → Insn → List ℕ
targets_text i insn = concat (codes ", l" ∷ decimal (i + 1 + insn.jt) ∷ codes ", l" ∷ decimal (i + 1 + insn.jf) ∷ [])

-- what stands after the mnemonic of the instruction at an index
abbrev pub operand_text : Operand → ℕ → Insn → List ℕ
operand_text Bare i insn = []
operand_text X i insn = codes " x"
operand_text A i insn = codes " a"
operand_text Length i insn = codes " len"
operand_text Immediate i insn = immediate_operand insn.k
operand_text Absolute i insn = offset_or_name (ext_at insn.k) insn.k
operand_text Indexed i insn = with_number (codes " [x + ") insn.k (codes "]")
operand_text Memory i insn = with_number (codes " M[") insn.k (codes "]")
operand_text Header i insn = with_number (codes " 4*([") insn.k (codes "]&0xf)")
operand_text Label i insn = with_number (codes " l") (i + 1 + insn.k) []
operand_text ImmediateTwo i insn = immediate_operand insn.k ++ targets_text i insn
operand_text XTwo i insn = codes " x" ++ targets_text i insn

-- the instruction at an index, of this operation
abbrev pub operation_text : ℕ → Insn → Op → List ℕ
operation_text i insn op = head i (mnemonic_of op) ++ operand_text (operand_of op) i insn

-- the instruction at an index: its label, its mnemonic and its operand; a code that no operation has, has no text
abbrev pub insn_text : ℕ → Insn → List ℕ
insn_text i insn = option_map_or (operation_text i insn) (op_of insn.code) []

-- line i without its newline, where the list has an instruction at i
abbrev pub line_text : List Insn → ℕ → List ℕ
line_text list i = option_map_or (insn_text i) (slice_get list i) []

-- the line of an instruction that stands beside its index, with its newline
abbrev pub numbered_line : ℕ × Insn → List ℕ
numbered_line e = insn_text e.0 e.1 ++ codes "\n"

-- all lines in order
abbrev pub listing : List Insn → List ℕ
listing list = flat_map numbered_line (enumerate_from 0 list)

-- an instruction by itself: its line as the first of a program, or the four numbers of one that has no operation
abbrev pub shown_for : Insn → Option Op → List ℕ
shown_for insn (Some op) = operation_text 0 insn op
shown_for insn None =
    concat (decimal insn.code ∷ codes " " ∷ decimal insn.jt ∷ codes " " ∷ decimal insn.jf ∷ codes " " ∷ decimal insn.k
    ∷ [])

-- an instruction by itself, as it is shown
abbrev pub shown_text : Insn → List ℕ
shown_text insn = shown_for insn (op_of insn.code)
