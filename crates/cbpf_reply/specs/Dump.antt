-- The dump of a stop: what there is before its instruction, and why it stopped
-- (the kernel's Documentation/networking/filter shows such a dump; the line of the place and the reasons for a stop other
-- than a breakpoint are this project's own).
use Rattle.std.specs.Prelude.{ℕ, List, [], ◌∷◌, ◌++◌, length, Option, Some, None, slice_get, decimal, codes}
use Rattle.cbpf_code.specs.declared.insn.Insn.{Insn}
use Rattle.cbpf_code.specs.Extension.{ext_name}
use Rattle.cbpf_code.specs.Text.{concat}
use Rattle.cbpf_code.specs.Listing.{line_text}
use Rattle.cbpf_reply.specs.Columns.{labelled, value_pieces}
use Rattle.cbpf_reply.specs.Scratch.{scratch_lines}
use Rattle.cbpf_reply.specs.Packet.{packet_head, packet_rows}
use Rattle.cbpf_reply.specs.declared.reply.Why.{Why}
use Rattle.cbpf_reply.specs.declared.reply.Why.TheVariants as why_is
use Rattle.cbpf_reply.specs.declared.reply.Stop.{Stop}

-- what a dump shows beside the program: slots are the words of scratch memory, bytes the captured ones,
-- wire is the packet's original length
pub record Shown : Type 0 where
  pub packet : ℕ
  pub step : ℕ
  pub pc : ℕ
  pub a : ℕ
  pub x : ℕ
  pub slots : List ℕ
  pub bytes : List ℕ
  pub wire : ℕ
  pub why : Why

-- The place, and its instruction in decimal and as the listing has it. It is nothing where the program has no such
-- instruction. A stop that can be shown has one.
abbrev pub place_lines : ℕ → ℕ → ℕ → List ℕ → Option Insn → List ℕ
place_lines packet step pc line None = []
place_lines packet step pc line (Some i) =
    concat (codes "-- packet " ∷ decimal packet ∷ codes ", step " ∷ decimal step ∷ codes " --\n-- register dump --\n"
    ∷ labelled (codes "pc:") (codes "[" ∷ decimal pc ∷ codes "]\n"
    ∷ labelled (codes "code:") (codes "[" ∷ decimal i.code ∷ codes "] jt[" ∷ decimal i.jt ∷ codes "] jf[" ∷ decimal i.jf
    ∷ codes "] k[" ∷ decimal i.k ∷ codes "]\n" ∷ labelled (codes "curr:") (line ∷ codes "\n" ∷ []))))

-- the lines of the place and of its instruction
unfoldable pub instruction_dump : List Insn → ℕ → ℕ → ℕ → List ℕ
instruction_dump list packet step pc = place_lines packet step pc (line_text list pc) (slice_get list pc)

-- each in hexadecimal and in decimal
unfoldable pub register_lines : ℕ → ℕ → List ℕ
register_lines a x = concat (value_pieces (codes "A:") a ++ value_pieces (codes "X:") x)

-- why it stopped
abbrev pub why_text : Why → List ℕ
why_text why_is.Break = codes "breakpoint"
why_text why_is.Step = codes "step"
why_text (why_is.Unknown e) = codes "extension " ++ ext_name e

-- and as a line, between parentheses
abbrev pub why_line : Why → List ℕ
why_line why = concat (codes "(" ∷ why_text why ∷ codes ")\n" ∷ [])

-- the place with its instruction, the registers, the scratch memory, the packet, and why it stopped
abbrev pub dump_text : List Insn → Shown → List ℕ
dump_text list s =
    instruction_dump list s.packet s.step s.pc
    ++ ((register_lines s.a s.x ++ scratch_lines s.slots)
    ++ (packet_head (length s.bytes) s.wire ++ (packet_rows s.bytes ++ why_line s.why)))

-- a stop in a packet of these captured bytes and this original length
abbrev pub shown_in : List ℕ → ℕ → Stop → Shown
shown_in bytes wire stop =
    record {
      packet = stop.place.packet;
      step = stop.place.step;
      pc = stop.state.pc;
      a = stop.state.a;
      x = stop.state.x;
      slots = stop.state.slots;
      bytes = bytes;
      wire = wire;
      why = stop.why;
    }
