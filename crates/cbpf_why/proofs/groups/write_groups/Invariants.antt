use Rattle.cbpf_code.specs.Writing.{Appended}
use Rattle.cbpf_reply.specs.Packet.{texts_from}
use Rattle.std.proofs.Common.{List, length}
use Rattle.cbpf_why.specs.declared.ended.EndedBy.{EndedBy}
use Rattle.cbpf_why.specs.Groups.{KeepsAll, groups_at}
use Rattle.cbpf_why.proofs.groups.write_groups.Given as goal

abbrev pub invariant-loop-i : goal.invariant-loop-i
invariant-loop-i g l = (ends : List EndedBy) → KeepsAll l.groups (length l.p) ends
    → Appended (g.W.Write.contents l.fn.w) (g.W.Write.contents l.w) (texts_from (groups_at l.p ends) 0 l.i)
