-- The program that is loaded, as `dump` prints it: initializers of a C array under a head line
-- (the kernel's Documentation/networking/filter shows it for `bpf_dbg`).
use Rattle.std.specs.Prelude.{ℕ, List, ◌++◌, codes, Option, Some, None}
use Rattle.cbpf_code.specs.CForm.{c_form}
use Rattle.cbpf_code.specs.declared.insn.Insn.{Insn}
use Rattle.cbpf_reply.specs.Errors.{no_program_text}

-- the first line of the C dump
unfoldable pub c_head : List ℕ
c_head = codes "/* { op, jt, jf, k }, */\n"

-- the program in the C form under the head line, or S1 where none is loaded
unfoldable pub c_dump_text : Option (List Insn) → List ℕ
c_dump_text None = no_program_text
c_dump_text (Some list) = c_head ++ c_form list
