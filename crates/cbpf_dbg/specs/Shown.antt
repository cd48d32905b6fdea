-- What is shown of a stop: its dump, with the stop's own packet (the kernel's Documentation/networking/filter shows
-- such a dump for `bpf_dbg`).
use Rattle.std.specs.Prelude.{ℕ, ◌-◌, ◌≤◌, ◌<◌, List, [], length, slice_get, Option, Some}
use Rattle.std.specs.Option.{option_map_or}
use Rattle.cbpf_code.specs.declared.insn.Insn.{Insn}
use Rattle.cbpf_reply.specs.Dump.{shown_in, dump_text}
use Rattle.pcap_classic.specs.Records.{Record}
use Rattle.pcap_classic.specs.Savefile.{Savefile}
use Rattle.cbpf_reply.specs.declared.reply.RunReply.{RunReply}
use Rattle.cbpf_reply.specs.declared.reply.RunReply.TheVariants.{Stopped}
use Rattle.cbpf_reply.specs.declared.reply.Stop.{Stop}
use Rattle.cbpf_dbg.specs.View.{View}

-- the dump, or nothing where the program, the capture or the packet isn't there
abbrev pub text_with : Option (List Insn) → Option Savefile → Stop → List ℕ
text_with (Some list) (Some c) stop = option_map_or (λ (r : Record). dump_text list (shown_in r.bytes r.wire stop))
    (slice_get c.records (stop.place.packet - 1)) []
text_with _ _ stop = []

-- the dump of a stop, with the program and the capture of a session
unfoldable pub stop_text : View → Stop → List ℕ
stop_text m stop = text_with m.program m.capture stop

-- the stop's packet is one of the capture's, and its instruction one of the program's
pub record IsWithin (list : List Insn) (capture : List Record) (stop : Stop) : Type 0 where
  pub from_one : 1 ≤ stop.place.packet
  pub packet : stop.place.packet ≤ length capture
  pub pc : stop.state.pc < length list

-- a stop is one of a program and a capture that are loaded
abbrev pub FitsWith : Option (List Insn) → Option Savefile → Stop → Type 0
FitsWith (Some list) (Some c) stop = IsWithin list c.records stop
FitsWith _ _ stop = ⊥

-- a session has a program and a capture, and the stop is within them
unfoldable pub CanShow : View → Stop → Type 0
CanShow m stop = FitsWith m.program m.capture stop

-- the stop that an answer has, if it has one, can be shown
abbrev pub Shows : View → RunReply → Type 0
Shows m (Stopped stop) = CanShow m stop
Shows m _ = Unit {0}
