-- Laws of the definitions: a text assembles to one list of instructions or has one refusal with a line, and never
-- both; the listing of a checked program assembles to the plain forms of its instructions.
use Rattle.std.specs.Prelude.{◌≡◌, ◌⊎◌, ℕ, List, map, All, Result, Ok, Err, IfOk, IfErr}
use Rattle.cbpf_code.specs.declared.insn.Insn.{Insn}
use Rattle.cbpf_code.specs.Plain.{plain}
use Rattle.cbpf_code.specs.Sound.{IsSound}
use Rattle.cbpf_code.specs.WordForm.{InRange}
use Rattle.cbpf_code.specs.Listing.{listing}
use Rattle.cbpf_text.specs.declared.fault.AsmKind.{AsmKind}
use Rattle.cbpf_text.specs.declared.fault.AsmFault.{AsmFault}
use Rattle.cbpf_text.specs.declared.fault.AsmFault.TheVariants.{Memory, At}
use Rattle.cbpf_text.specs.Assembled.{Assembles}
use Rattle.cbpf_text.specs.Refusals.{IsRefused, IsTextFault}

-- a text assembles to one list of instructions at most
abbrev pub OneAssembly : Type 0
OneAssembly = (text : List ℕ) (xs ys : List Insn) → Assembles text xs → Assembles text ys → xs ≡ ys

-- a text is refused for one reason, at one position
abbrev pub OnePlace : Type 0
OnePlace = (text : List ℕ) (kind other : AsmKind) (at other_at : ℕ) → IsTextFault text kind at
    → IsTextFault text other other_at → (kind ≡ other) × (at ≡ other_at)

-- so it is refused at one line
abbrev pub OneTextRefusal : Type 0
OneTextRefusal = (text : List ℕ) (kind other : AsmKind) (line other_line : ℕ) → IsRefused text (At kind line)
    → IsRefused text (At other other_line) → (kind ≡ other) × (line ≡ other_line)

-- no text that assembles is refused at a line
abbrev pub NeverBoth : Type 0
NeverBoth = (text : List ℕ) (xs : List Insn) (kind : AsmKind) (line : ℕ) → Assembles text xs
    → IsRefused text (At kind line) → ⊥

-- each text assembles, or is refused at a line
abbrev pub EachAnswered : Type 0
EachAnswered = (text : List ℕ) → ((xs : List Insn) × Assembles text xs)
    ⊎ ((kind : AsmKind) × (line : ℕ) × IsRefused text (At kind line))

-- the listing of a sound list, whose fields are in their types' ranges, assembles to the plain forms
abbrev pub ListingAssembles : Type 0
ListingAssembles = (list : List Insn) → IsSound list → All InRange list → Assembles (listing list) (map plain list)

-- whatever an assembler answers to the listing of such a list: the plain forms, or out of memory
abbrev pub ListingAnswers : Type 0
ListingAnswers = (list : List Insn) → IsSound list → All InRange list → (answer : Result (List Insn) AsmFault)
    → IfOk answer (λ insns. Assembles (listing list) insns) → IfErr answer (IsRefused (listing list))
    → (answer ≡ Ok (map plain list)) ⊎ (answer ≡ Err Memory)
