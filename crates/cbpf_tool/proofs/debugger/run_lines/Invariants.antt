use Rattle.std.proofs.Common.{◌≡◌, ℕ, List, Some, IsTrue}
use Rattle.cbpf_tool.specs.LineReader.{pending_in, steps_left}
use Rattle.cbpf_tool.proofs.ScriptLemmas.{Progress}
use Rattle.cbpf_tool.proofs.debugger.run_lines.Given as goal

abbrev pub invariant-script : goal.invariant-script
invariant-script g l = (script : List ℕ) → g.R.Read.remaining l.fn.reader ≡ Some script
    → IsTrue (g.F.Files.source l.fn.files).is_known →
    Progress script (pending_in l.lines.chunk l.lines.start l.lines.end) (g.R.Read.remaining l.reader)
    (g.W.Write.contents l.fn.writer) (g.W.Write.contents l.writer) (g.F.Files.source l.fn.files)
    (g.F.Files.source l.files) l.session

abbrev pub decreases-script : goal.decreases-script
decreases-script g l = steps_left l.lines.reads l.lines.start l.lines.end
