-- Each word text and each list of instructions has an answer, which isn't out of memory.
use Rattle.std.specs.Prelude.{◌≢◌, ◌⊎◌, ℕ, List}
use Rattle.cbpf_code.specs.declared.insn.Insn.{Insn}
use Rattle.cbpf_code.specs.declared.checker.CheckFault.{CheckFault}
use Rattle.cbpf_code.specs.declared.words.WordFault.{WordFault}
use Rattle.cbpf_code.specs.declared.words.WordFault.TheVariants.{Memory}
use Rattle.cbpf_code.specs.Faults.{FirstFault}
use Rattle.cbpf_code.specs.Sound.{IsSound}
use Rattle.cbpf_code.specs.WordText.{Spells, Refused}

-- each text spells a list, or is refused for another reason than out of memory
abbrev pub EachTextIsRead : Type 0
EachTextIsRead = (text : List ℕ) → ((list : List Insn) × Spells text list)
    ⊎ ((e : WordFault) × (e ≢ Memory) × Refused text e)

-- each list has no fault, or has a first one
abbrev pub EachListIsChecked : Type 0
EachListIsChecked = (list : List Insn) → IsSound list ⊎ ((e : CheckFault) × FirstFault list e)
