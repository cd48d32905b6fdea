-- The stop at a session's place, and stops to which a session can go back (this project's own).
use Rattle.std.specs.Prelude.{◌≡◌, ◌-◌, nat_lt, if◌then◌else◌, List, Option, Some, None, Ok, slice_get, take}
use Rattle.std.specs.Option.{option_map}
use Rattle.std.specs.Result.{result_unwrap_or}
use Rattle.cbpf_code.specs.declared.insn.Insn.{Insn}
use Rattle.cbpf_machine.specs.Machine.{Machine, machine_of}
use Rattle.cbpf_machine.specs.Registers.{Registers}
use Rattle.cbpf_machine.specs.Trace.{trace}
use Rattle.pcap_classic.specs.Records.{Record}
use Rattle.pcap_classic.specs.Savefile.{Savefile}
use Rattle.cbpf_reply.specs.declared.reply.Place.{Place}
use Rattle.cbpf_reply.specs.declared.reply.RunReply.{RunReply}
use Rattle.cbpf_reply.specs.declared.reply.RunReply.TheVariants.{Stopped}
use Rattle.cbpf_reply.specs.declared.reply.Stop.{Stop}
use Rattle.cbpf_reply.specs.declared.reply.Why.{Why}
use Rattle.cbpf_reply.specs.declared.reply.Why.TheVariants as why
use Rattle.cbpf_dbg.specs.Breakpoints.{Breakpoints}
use Rattle.cbpf_dbg.specs.Commands.{IsResumable, entry_in, where_loaded}
use Rattle.cbpf_dbg.specs.Joined.{Entry, is_hit, stop_at}
use Rattle.cbpf_dbg.specs.View.{View}

-- the stop of an entry: a hit as `run` stops at it, another as `step` does
abbrev pub stop_of : Breakpoints → Entry → Stop
stop_of breakpoints e = stop_at (if is_hit breakpoints e then why.Break else why.Step) e

-- the entry at a place; none where it is before a packet
abbrev pub entry_of : Machine → List Record → Place → Option Entry
entry_of machine capture place =
    if nat_lt 0 place.step then entry_in machine (slice_get capture (place.packet - 1)) place else None

-- the stop at the place
abbrev pub stop_here : View → Option Stop
stop_here m = result_unwrap_or
    (where_loaded m (λ machine capture. Ok (option_map (stop_of m.breakpoints) (entry_of machine capture m.place)))) None

-- `resume` takes the stop's place, and this stop is there
pub record CanReturn (m : View) (stop : Stop) : Type 0 where
  pub resumable : IsResumable m stop.place
  pub here_is : stop_here (record m { place = stop.place }) ≡ Some stop

-- the stop that an answer of `run` has, if it has one, is the one at the place, and can be gone back to
abbrev pub RunStopsHere : View → RunReply → Type 0
RunStopsHere m (Stopped stop) = CanReturn m stop × (stop_here m ≡ Some stop)
RunStopsHere m _ = Unit {0}

-- the stop that an answer of `step` has, if it has one, is the one at the place, which may have another reason
abbrev pub StepStopsHere : View → RunReply → Type 0
StepStopsHere m (Stopped stop) = (reason : Why) × (stop_here m ≡ Some (record stop { why = reason }))
StepStopsHere m _ = Unit {0}

-- a trail stands for the entries of a place's packet, up to the place
abbrev pub Keeps : (List Registers → Type 0) → Machine → List Record → Place → Type 0
Keeps stands_for machine capture place = (r : Record) → slice_get capture (place.packet - 1) ≡ Some r
    → stands_for (take place.step (trace machine r.bytes r.wire))

-- the same of the place of a session, where a program and a capture are loaded
abbrev pub KeepsEntries : (List Registers → Type 0) → View → Type 0
KeepsEntries stands_for m = (list : List Insn) (c : Savefile) → m.program ≡ Some list → m.capture ≡ Some c
    → Keeps stands_for (machine_of list m.values) c.records m.place
