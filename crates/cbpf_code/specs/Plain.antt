-- The plain form of an instruction, without the fields that its operation does not use: what an assembler
-- writes for it (Documentation/networking/filter, "BPF engine and instruction set").
use Rattle.std.specs.Prelude.{ℕ, Bool, true, false, Option, Some, None, if◌then◌else◌}
use Rattle.cbpf_code.specs.declared.insn.Insn.{Insn}
use Rattle.cbpf_code.specs.declared.opcode.Op.{Op}
use Rattle.cbpf_code.specs.declared.opcode.Op.TheVariants.{LdLen, LdxLen, Alu, Neg, Jump, RetA, Tax, Txa}
use Rattle.cbpf_code.specs.declared.opcode.Src.TheVariants.{X}
use Rattle.cbpf_code.specs.Opcode.{op_of}

-- whether an operation uses the number k
abbrev pub uses_k : Op → Bool
uses_k LdLen = false
uses_k LdxLen = false
uses_k (Alu op X) = false
uses_k Neg = false
uses_k (Jump cond X) = false
uses_k RetA = false
uses_k Tax = false
uses_k Txa = false
uses_k _ = true

-- whether it uses the two offsets
abbrev pub uses_offsets : Op → Bool
uses_offsets (Jump cond src) = true
uses_offsets _ = false

-- a number, or 0 where its field is not used
abbrev pub kept : Bool → ℕ → ℕ
kept b n = if b then n else 0

-- an unknown code leaves the instruction as it is
abbrev pub plain_for : Insn → Option Op → Insn
plain_for insn None = insn
plain_for insn (Some op) = record insn {
  jt = kept (uses_offsets op) insn.jt;
  jf = kept (uses_offsets op) insn.jf;
  k = kept (uses_k op) insn.k;
}

-- the instruction with 0 in each field that its operation does not use
abbrev pub plain : Insn → Insn
plain insn = plain_for insn (op_of insn.code)
