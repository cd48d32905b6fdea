use Rattle.std.proofs.Common.{take}
use Rattle.std.specs.List.{flat_map}
use Rattle.cbpf_code.specs.Writing.{Appended}
use Rattle.cbpf_reply.specs.Breakpoints as spec
use Rattle.cbpf_tool.proofs.reply_to.write_all_listed.Given as goal

abbrev pub invariant-loop-i : goal.invariant-loop-i
invariant-loop-i g l = Appended (g.W.Write.contents l.initial.w) (g.W.Write.contents l.w)
    (flat_map spec.listed_text (take l.i l.session.breakpoints))
