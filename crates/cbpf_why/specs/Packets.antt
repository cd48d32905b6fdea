-- A line a packet, in columns that a tab separates: its number, how it ends, at which instruction, the value that it
-- returns, or why it returns none, the conditional jump that decided, and whether its comparison held (this project's
-- own).
use Rattle.std.specs.Prelude.{ℕ, List, [], ◌∷◌, codes, decimal, Option, Some, None}
use Rattle.cbpf_code.specs.Text.{concat}
use Rattle.cbpf_machine.specs.declared.follow.Choice.{Choice}
use Rattle.cbpf_why.specs.declared.ended.EndedBy.{EndedBy}
use Rattle.cbpf_why.specs.Ends.{verdict_in, reason_text, truth_text}

-- the conditional jump that decided; no column is empty
abbrev pub choice_columns : Option Choice → List ℕ
choice_columns None = codes "\t-\t-"
choice_columns (Some c) = concat (codes "\tl" ∷ decimal c.pc ∷ codes "\t" ∷ truth_text c.taken ∷ [])

-- the line of a packet
unfoldable pub packet_line : EndedBy → List ℕ
packet_line d =
    concat (decimal d.ended.packet ∷ codes "\t" ∷ verdict_in d.ended ∷ codes "\tl" ∷ decimal d.ended.pc ∷ codes "\t"
    ∷ reason_text d.ended.reason ∷ choice_columns d.by ∷ codes "\n" ∷ [])
