-- What is said of a source that is refused (the texts are this project's own).
use Rattle.std.specs.Prelude.{ℕ, List, ◌++◌, codes, decimal}
use Rattle.cbpf_text.specs.declared.fault.AsmFault.{AsmFault, TheVariants.Memory, TheVariants.At}
use Rattle.cbpf_text.specs.declared.fault.AsmKind.{AsmKind}
use Rattle.cbpf_text.specs.declared.fault.AsmKind.TheVariants as kind
use Rattle.cbpf_text.specs.declared.placed.PlacedFault.{PlacedFault}
use Rattle.cbpf_text.specs.declared.placed.PlacedFault.TheVariants as placed

-- what is wrong, after its number
abbrev pub kind_text : AsmKind → List ℕ
kind_text kind.NoToken = codes "A1 unknown byte"
kind_text kind.OpenComment = codes "A2 comment not closed"
kind_text kind.LargeNumber = codes "A3 number out of range"
kind_text kind.Misplaced = codes "A4 token can't stand here"
kind_text kind.Unfinished = codes "A5 text ends inside an instruction"
kind_text kind.LabelSetTwice = codes "A6 label set twice"
kind_text kind.LabelNotSet = codes "A7 label not defined"
kind_text kind.NotAfter = codes "A8 target is not after the jump"
kind_text kind.TooFar = codes "A9 conditional target further than 255"
kind_text kind.TooMany = codes "A10 more than 4096 instructions"
kind_text kind.NoInstruction = codes "A11 no instruction"

-- the same, after the line
abbrev pub fault_text : AsmFault → List ℕ
fault_text Memory = codes "out of memory"
fault_text (At kind line) = codes "line " ++ (decimal line ++ (codes ": " ++ kind_text kind))

-- the same, after the position
abbrev pub placed_text : PlacedFault → List ℕ
placed_text placed.Memory = codes "out of memory"
placed_text (placed.At kind at) = codes "byte " ++ (decimal at ++ (codes ": " ++ kind_text kind))
