-- What is seen of a session: its program, its values for extensions, its capture,
-- its breakpoints in order of setting, the packet from which it counts, and its place (this project's own).
use Rattle.std.specs.Prelude.{ℕ, List, [], Option, None}
use Rattle.cbpf_code.specs.declared.insn.Insn.{Insn}
use Rattle.cbpf_machine.specs.Values.{Values, no_values}
use Rattle.pcap_classic.specs.Savefile.{Savefile}
use Rattle.cbpf_reply.specs.declared.reply.Place.{Place}
use Rattle.cbpf_dbg.specs.Breakpoints.{Breakpoints}

-- a session counts from packet `origin` on, and stands at `place`
pub record View : Type 0 where
  pub program : Option (List Insn)
  pub values : Values
  pub capture : Option Savefile
  pub breakpoints : Breakpoints
  pub origin : ℕ
  pub place : Place

-- before the first packet
abbrev pub first_place : Place
first_place = record { packet = 1; step = 0 }

-- a new session: nothing is loaded or set
abbrev pub empty_view : View
empty_view =
    record { program = None; values = no_values; capture = None; breakpoints = []; origin = 1; place = first_place }
