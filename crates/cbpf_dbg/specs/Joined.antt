-- The entries of all packets of a capture, in order, the ones among them at which a debugger stops,
-- and the outcomes of packets (this project's own, over the trace of Linux Documentation/networking/filter's machine
-- and the records of pcap-savefile(5)).
use Rattle.std.specs.Prelude.{ℕ, ◌+◌, ◌-◌, ◌||◌, Bool, List, [], ◌∷◌, ◌++◌, length}
use Rattle.std.specs.Prelude.{map, filter, take, drop, is_some}
use Rattle.std.specs.Option.{option_map_or}
use Rattle.cbpf_machine.specs.Registers.{Registers}
use Rattle.cbpf_machine.specs.declared.outcome.Turn.{Turn}
use Rattle.cbpf_machine.specs.declared.outcome.Outcome.{Outcome}
use Rattle.cbpf_machine.specs.Machine.{Machine}
use Rattle.cbpf_machine.specs.Turn.{turn, asked}
use Rattle.cbpf_machine.specs.Trace.{trace}
use Rattle.pcap_classic.specs.Records.{Record}
use Rattle.cbpf_reply.specs.declared.reply.Place.{Place}
use Rattle.cbpf_reply.specs.declared.reply.Stop.{Stop}
use Rattle.cbpf_reply.specs.declared.reply.Why.{Why}
use Rattle.cbpf_reply.specs.declared.reply.Why.TheVariants as why
use Rattle.cbpf_reply.specs.Counts.{counts_of, outcomes_of}
use Rattle.cbpf_reply.specs.declared.reply.Counts.{Counts}
use Rattle.cbpf_reply.specs.Places.{is_before}
use Rattle.cbpf_dbg.specs.Breakpoints.{Breakpoints, carries}

-- an executed instruction: where it stands, the state before it, and what its turn gives
pub record Entry : Type 0 where
  pub place : Place
  pub state : Registers
  pub turn : Turn

-- the entries of one packet from a step on
abbrev pub entries_from : Machine → Record → ℕ → ℕ → List Registers → List Entry
entries_from machine r packet step [] = []
entries_from machine r packet step (s ∷ rest) =
    record { place = record { packet = packet; step = step }; state = s; turn = turn machine r.bytes r.wire s }
    ∷ entries_from machine r packet (step + 1) rest

-- the entries of one packet
abbrev pub packet_entries : Machine → Record → ℕ → List Entry
packet_entries machine r packet = entries_from machine r packet 1 (trace machine r.bytes r.wire)

-- the entries of the packets from a number on
abbrev pub joined_from : Machine → ℕ → List Record → List Entry
joined_from machine packet [] = []
joined_from machine packet (r ∷ rest) = packet_entries machine r packet ++ joined_from machine (packet + 1) rest

-- the traces of all packets, in order
unfoldable pub joined : Machine → List Record → List Entry
joined machine capture = joined_from machine 1 capture

-- the entries after a place
abbrev pub entries_after : Machine → List Record → Place → List Entry
entries_after machine capture place = filter (λ e. is_before place e.place) (joined machine capture)

-- whether a turn asks for an extension without a value
abbrev pub asks : Turn → Bool
asks t = is_some (asked t)

-- an entry with this state and this turn is a hit where its instruction carries a breakpoint whose condition holds, or
-- its turn asks for an extension without a value
abbrev pub is_hit_by : Breakpoints → Registers → Turn → Bool
is_hit_by breakpoints s t = carries breakpoints s || asks t

-- whether an entry is a hit
abbrev pub is_hit : Breakpoints → Entry → Bool
is_hit breakpoints e = is_hit_by breakpoints e.state e.turn

-- why an entry stops: its turn asks for an extension without a value, else the reason given
abbrev pub why_of : Why → Turn → Why
why_of reason t = option_map_or why.Unknown (asked t) reason

-- the stop of an entry, with this reason, or with the extension without a value
abbrev pub stop_at : Why → Entry → Stop
stop_at reason e = record { place = e.place; state = e.state; why = why_of reason e.turn }

-- the stops at the hits among some entries
abbrev pub stops_of : Breakpoints → List Entry → List Stop
stops_of breakpoints entries = map (stop_at why.Break) (filter (is_hit breakpoints) entries)

-- the stops at all hits of a capture
abbrev pub stops_in : Machine → List Record → Breakpoints → List Stop
stops_in machine capture breakpoints = stops_of breakpoints (joined machine capture)

-- the stops at the hits after a place
abbrev pub stops_after : Machine → List Record → Breakpoints → Place → List Stop
stops_after machine capture breakpoints place = stops_of breakpoints (entries_after machine capture place)

-- the outcomes of the packets from a number up to, not including, another
abbrev pub outcomes : Machine → List Record → ℕ → ℕ → List Outcome
outcomes machine capture from to = outcomes_of machine (take (to - from) (drop (from - 1) capture))

-- how many of these packets pass, fail, and ask for an extension without a value
unfoldable pub counts : Machine → List Record → ℕ → ℕ → Counts
counts machine capture from to = counts_of (outcomes machine capture from to)

-- the place one step earlier, so that the entries after it are those from the place on; at step 0 the place itself
abbrev pub place_before : Place → Place
place_before place = record { packet = place.packet; step = place.step - 1 }

-- how many turns lead from a place to the end: one for each entry from the place on
abbrev pub turns_to_end : Machine → List Record → Place → ℕ
turns_to_end machine capture place = length (entries_after machine capture (place_before place))

-- how many turns lead from a place to a later one
abbrev pub turns_between : Machine → List Record → Place → Place → ℕ
turns_between machine capture old new = turns_to_end machine capture old - turns_to_end machine capture new
