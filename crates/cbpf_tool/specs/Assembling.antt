-- What the assembler leaves in its writer: the instructions of a source in a form
-- (kernel documentation, networking/filter, on `bpf_asm`, of forms that it has).
use Rattle.std.specs.Prelude.{◌≢◌, ℕ, List, [], Option, Result, Ok, Err}
use Rattle.cbpf_code.specs.Writing.{Appended, AppendedPart}
use Rattle.cbpf_code.specs.WordForm.{word_text}
use Rattle.cbpf_code.specs.CForm.{c_form}
use Rattle.cbpf_code.specs.declared.form.Form.{Form}
use Rattle.cbpf_code.specs.declared.form.Form.TheVariants.{Decimal, C}
use Rattle.cbpf_code.specs.declared.insn.Insn.{Insn}
use Rattle.cbpf_text.specs.Assembled.{Assembles}
use Rattle.cbpf_text.specs.Refusals.{IsRefused}
use Rattle.cbpf_text.specs.declared.fault.AsmFault.TheVariants as asm
use Rattle.cbpf_tool.specs.declared.fault.ToolFault.{ToolFault}
use Rattle.cbpf_tool.specs.declared.fault.ToolFault.TheVariants.{Source, Read, Write, Memory}

-- the text of instructions in a form
abbrev pub form_text : Form → List Insn → List ℕ
form_text Decimal list = word_text list
form_text C list = c_form list

-- a fault of reading the source
abbrev pub IsReadingFault : ToolFault → Type 0
IsReadingFault (Source f) = ⊥
IsReadingFault Read = Unit {0}
IsReadingFault Memory = Unit {0}
IsReadingFault Write = ⊥

-- after a refused source nothing was written, nor after a read that failed or out of memory.
-- After a write that failed a beginning of the text was
abbrev pub Failed : List ℕ → Form → Option (List ℕ) → Option (List ℕ) → ToolFault → Type 0
Failed source form old new (Source f) = IsRefused source f × (f ≢ asm.Memory) × Appended old new []
Failed source form old new Read = Appended old new []
Failed source form old new Memory = Appended old new []
Failed source form old new Write =
    (list : List Insn) × Assembles source list × AppendedPart old new (form_text form list)

-- an answer of the assembler over a source
unfoldable pub Assembled : List ℕ → Form → Option (List ℕ) → Option (List ℕ) → Result (Unit {0}) ToolFault → Type 0
Assembled source form old new (Ok x) =
    (list : List Insn) × Assembles source list × Appended old new (form_text form list)
Assembled source form old new (Err e) = Failed source form old new e
