-- The C form of a program: one line an instruction, an initializer of `struct sock_filter` (kernel
-- documentation, networking/filter).
use Rattle.std.specs.Prelude.{ℕ, ◌==◌, ◌-◌, if◌then◌else◌, List, [], ◌∷◌, length, codes, decimal}
use Rattle.std.specs.List.{flat_map}
use Rattle.cbpf_code.specs.Text.{concat, spaces, hex}
use Rattle.cbpf_code.specs.declared.insn.Insn.{Insn}

-- in front of a number's hexadecimal digits, as `%#04x` and `%#010x` of printf have it: 0 has no `0x`, but is as wide
abbrev pub hex_prefix : ℕ → List ℕ
hex_prefix n = if n == 0 then codes "00" else codes "0x"

-- what stands before a decimal number, so that it is aligned right in two columns
abbrev pub padding : ℕ → List ℕ
padding n = spaces (2 - length (decimal n))

-- the code in at least two hexadecimal digits, jt and jf in decimal, k in eight hexadecimal digits
abbrev pub c_line : Insn → List ℕ
c_line i = concat (
    codes "{ " ∷ hex_prefix i.code ∷ hex 2 i.code ∷ codes ", " ∷ padding i.jt ∷ decimal i.jt ∷ codes ", "
    ∷ padding i.jf ∷ decimal i.jf
    ∷ codes ", " ∷ hex_prefix i.k ∷ hex 8 i.k ∷ codes " },\n" ∷ [])

-- the lines of all instructions, in order
abbrev pub c_form : List Insn → List ℕ
c_form list = flat_map c_line list
