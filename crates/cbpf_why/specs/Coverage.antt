-- The listing with how often each instruction ran, and of a conditional jump, how often it went either way
-- (this project's own).
use Rattle.std.specs.Prelude.{ℕ, ◌-◌, List, [], ◌∷◌, ◌++◌, length, codes, decimal, if◌then◌else◌}
use Rattle.cbpf_code.specs.Listing.{line_text}
use Rattle.cbpf_code.specs.Text.{concat}
use Rattle.cbpf_code.specs.declared.insn.Insn.{Insn}
use Rattle.cbpf_machine.specs.Machine.{Machine}
use Rattle.cbpf_reply.specs.Packet.{texts_from}
use Rattle.pcap_classic.specs.Records.{Record}
use Rattle.cbpf_why.specs.Columns.{filled_line, longest, right_text}
use Rattle.cbpf_why.specs.Runs.{executed, taken}
use Rattle.cbpf_why.specs.Operations.{is_op_at, is_test}

-- how often a comparison held and didn't
abbrev pub both_ways : ℕ → ℕ → ℕ → List ℕ
both_ways wide ran held =
    concat (codes "\ttrue " ∷ right_text wide held ∷ codes " false " ∷ right_text wide (ran - held) ∷ [])

-- an instruction, and of a conditional jump, how often it went either way
abbrev pub ways_text : List Insn → ℕ → ℕ → ℕ → ℕ → ℕ → List ℕ
ways_text list long wide i ran held =
    if is_op_at is_test list i then filled_line list long i ++ both_ways wide ran held else line_text list i

-- the line of an instruction that ran so often, and whose comparison held so often, by the lengths of the longest
-- instruction and the greatest count
abbrev pub coverage_line : List Insn → ℕ → ℕ → ℕ → ℕ → ℕ → List ℕ
coverage_line list long wide i ran held =
    concat (right_text wide ran ∷ codes "\t" ∷ ways_text list long wide i ran held ∷ codes "\n" ∷ [])

-- the length of the greatest count: every packet executes the first instruction, and none executes one twice
abbrev pub widest : Machine → List Record → ℕ
widest m records = length (decimal (executed m records 0))

-- the line of an instruction over some records
abbrev pub coverage_at : Machine → List Record → ℕ → List ℕ
coverage_at m records i =
    coverage_line m.list (longest m.list) (widest m records) i (executed m records i) (taken m records i)

-- a line for each instruction
unfoldable pub coverage_text : Machine → List Record → List ℕ
coverage_text m records = texts_from (coverage_at m records) 0 (length m.list)
