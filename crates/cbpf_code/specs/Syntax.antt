-- How an operation is written: its mnemonic, and the addressing mode of its operand (the kernel's operations as in
-- Documentation/networking/filter, "BPF engine and instruction set": the tables of instructions and of addressing
-- modes). Where an operation can be written in several ways, a listing uses one of them.
use Rattle.std.specs.Prelude.{ℕ, List, codes}
use Rattle.cbpf_code.specs.declared.opcode.Op.{Op}
use Rattle.cbpf_code.specs.declared.opcode.Op.TheVariants.{LdImm, LdAbs, LdInd, LdMem, LdLen, LdxImm, LdxMem, LdxLen}
use Rattle.cbpf_code.specs.declared.opcode.Op.TheVariants.{LdxMsh, St, Stx, Alu, Neg, Ja, Jump, RetK, RetA, Tax, Txa}
use Rattle.cbpf_code.specs.declared.opcode.Size.TheVariants.{Word, Half, Byte}
use Rattle.cbpf_code.specs.declared.opcode.AluOp.TheVariants.{Add, Sub, Mul, Div, Or, And, Lsh, Rsh, Mod, Xor}
use Rattle.cbpf_code.specs.declared.opcode.Src.TheVariants as sources
use Rattle.cbpf_code.specs.declared.opcode.Cond.TheVariants.{Eq, Gt, Ge, Bits}

-- what stands after a mnemonic: an addressing mode, in the form that a listing has it
pub data Operand : Type 0 where
  Bare : Operand
  -- `x`, `a`, `len`, `#0x5`
  X : Operand
  A : Operand
  Length : Operand
  Immediate : Operand
  -- `[5]` or an extension's name, `[x + 5]`, `M[5]`, `4*([5]&0xf)`
  Absolute : Operand
  Indexed : Operand
  Memory : Operand
  Header : Operand
  -- `l5`, and `#0x5, l5, l6` and `x, l5, l6`
  Label : Operand
  ImmediateTwo : Operand
  XTwo : Operand

-- the mnemonic of an operation in a listing
abbrev pub mnemonic_of : Op → List ℕ
mnemonic_of LdImm = codes "ld"
mnemonic_of (LdAbs Word) = codes "ld"
mnemonic_of (LdAbs Half) = codes "ldh"
mnemonic_of (LdAbs Byte) = codes "ldb"
mnemonic_of (LdInd Word) = codes "ld"
mnemonic_of (LdInd Half) = codes "ldh"
mnemonic_of (LdInd Byte) = codes "ldb"
mnemonic_of LdMem = codes "ld"
mnemonic_of LdLen = codes "ld"
mnemonic_of LdxImm = codes "ldx"
mnemonic_of LdxMem = codes "ldx"
mnemonic_of LdxLen = codes "ldx"
mnemonic_of LdxMsh = codes "ldxb"
mnemonic_of St = codes "st"
mnemonic_of Stx = codes "stx"
mnemonic_of (Alu Add src) = codes "add"
mnemonic_of (Alu Sub src) = codes "sub"
mnemonic_of (Alu Mul src) = codes "mul"
mnemonic_of (Alu Div src) = codes "div"
mnemonic_of (Alu Or src) = codes "or"
mnemonic_of (Alu And src) = codes "and"
mnemonic_of (Alu Lsh src) = codes "lsh"
mnemonic_of (Alu Rsh src) = codes "rsh"
mnemonic_of (Alu Mod src) = codes "mod"
mnemonic_of (Alu Xor src) = codes "xor"
mnemonic_of Neg = codes "neg"
mnemonic_of Ja = codes "jmp"
mnemonic_of (Jump Eq src) = codes "jeq"
mnemonic_of (Jump Gt src) = codes "jgt"
mnemonic_of (Jump Ge src) = codes "jge"
mnemonic_of (Jump Bits src) = codes "jset"
mnemonic_of RetK = codes "ret"
mnemonic_of RetA = codes "ret"
mnemonic_of Tax = codes "tax"
mnemonic_of Txa = codes "txa"

-- what stands after it
abbrev pub operand_of : Op → Operand
operand_of LdImm = Immediate
operand_of (LdAbs size) = Absolute
operand_of (LdInd size) = Indexed
operand_of LdMem = Memory
operand_of LdLen = Length
operand_of LdxImm = Immediate
operand_of LdxMem = Memory
operand_of LdxLen = Length
operand_of LdxMsh = Header
operand_of St = Memory
operand_of Stx = Memory
operand_of (Alu op sources.K) = Immediate
operand_of (Alu op sources.X) = X
operand_of Neg = Bare
operand_of Ja = Label
operand_of (Jump cond sources.K) = ImmediateTwo
operand_of (Jump cond sources.X) = XTwo
operand_of RetK = Immediate
operand_of RetA = A
operand_of Tax = Bare
operand_of Txa = Bare
