-- The word text of a program, as the kernel tree's `bpf_asm` prints it: the count, a comma, the numbers and a
-- comma for each instruction, and a newline.
use Rattle.std.specs.Prelude.{ℕ, ◌^◌, ◌<◌, List, [], ◌∷◌, ◌++◌, length, codes, decimal}
use Rattle.std.specs.List.{flat_map}
use Rattle.cbpf_code.specs.Text.{concat}
use Rattle.cbpf_code.specs.declared.insn.Insn.{Insn}

-- code, jt, jf and k in decimal, a single space between two of them, and a comma
abbrev pub word_line : Insn → List ℕ
word_line i =
    concat (decimal i.code ∷ codes " " ∷ decimal i.jt ∷ codes " " ∷ decimal i.jf ∷ codes " " ∷ decimal i.k
    ∷ codes "," ∷ [])

-- the number of instructions and a comma, all instructions, and a newline
abbrev pub word_text : List Insn → List ℕ
word_text list = decimal (length list) ++ codes "," ++ flat_map word_line list ++ codes "\n"

-- the fields of an instruction are in their types' ranges
pub record InRange (i : Insn) : Type 0 where
  pub code : i.code < 2 ^ 16
  pub jt : i.jt < 2 ^ 8
  pub jf : i.jf < 2 ^ 8
  pub k : i.k < 2 ^ 32
