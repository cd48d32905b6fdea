-- The list of stops (this project's own).
use Rattle.std.specs.Prelude.{ℕ, List, [], ◌∷◌, ◌++◌, length, codes, decimal}
use Rattle.std.specs.List.{flat_map}
use Rattle.cbpf_code.specs.Text.{concat, with_number}
use Rattle.cbpf_reply.specs.Dump.{why_line}
use Rattle.cbpf_reply.specs.declared.reply.Stop.{Stop}

-- packet, step, instruction, A and X of a stop
abbrev pub stop_head : Stop → List ℕ
stop_head s =
    concat (decimal s.place.packet ∷ codes " " ∷ decimal s.place.step ∷ codes " l" ∷ decimal s.state.pc ∷ codes " A "
    ∷ decimal s.state.a ∷ codes " X " ∷ decimal s.state.x ∷ codes " " ∷ [])

-- the same, and why it stopped
abbrev pub stop_line : Stop → List ℕ
stop_line s = stop_head s ++ why_line s.why

-- the last line of the list of stops
abbrev pub total_text : ℕ → List ℕ
total_text n = with_number (codes "stops: ") n (codes "\n")

-- a line for each, and how many there are
unfoldable pub stops_text : List Stop → List ℕ
stops_text stops = flat_map stop_line stops ++ total_text (length stops)
