use Rattle.std.proofs.Common.{◌-◌, ◌++◌, length}
use Rattle.cbpf_reply.specs.Dump.{register_lines}
use Rattle.cbpf_reply.specs.Packet.{texts_from}
use Rattle.cbpf_reply.specs.Scratch.{slots_line, scratch_lines}
use Rattle.cbpf_reply.proofs.TextLeftLemmas.{Left}
use Rattle.cbpf_reply.proofs.dump.write_registers.Given as goal

abbrev pub invariant-loop-i : goal.invariant-loop-i
invariant-loop-i g l =
    Left (g.W.Write.contents l.fn.w) (g.W.Write.contents l.w) (texts_from (slots_line l.slots) l.i (length l.slots - l.i))
    (register_lines l.a l.x ++ scratch_lines l.slots)
