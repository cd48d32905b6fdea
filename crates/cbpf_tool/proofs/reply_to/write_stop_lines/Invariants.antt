use Rattle.std.proofs.Common.{◌≡◌, ◌++◌, length}
use Rattle.std.specs.List.{flat_map}
use Rattle.cbpf_code.specs.Writing.{Appended}
use Rattle.cbpf_reply.specs.Stops as spec
use Rattle.cbpf_tool.proofs.reply_to.write_stop_lines.Given as goal

abbrev pub invariant-loop-stop : goal.invariant-loop-stop
invariant-loop-stop g l =
    Appended (g.W.Write.contents l.fn.w) (g.W.Write.contents l.w) (flat_map spec.stop_line l.yielded)
    × (l.count ≡ length l.yielded) × (l.yielded ++ l.stop-iterator ≡ l.fn.stops)
