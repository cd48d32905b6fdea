use Rattle.std.proofs.Common.{◌≡◌, ℕ, ◌≤◌, List, Some, false}
use Rattle.cbpf_tool.specs.Lines.{has_newline}
use Rattle.cbpf_tool.specs.LineReader.{pending_in, steps_left, unread, Took}
use Rattle.cbpf_tool.proofs.line_reader.LineReader.next_line.Given as goal

abbrev pub invariant-parts : goal.invariant-parts
invariant-parts g l = record {
  plain : has_newline l.line.items ≡ false;
  fewer : steps_left l.self.reads l.self.start l.self.end
      ≤ steps_left l.fn.self.reads l.fn.self.start l.fn.self.end;
  so_far : (bytes : List ℕ)
      → unread (pending_in l.fn.self.chunk l.fn.self.start l.fn.self.end) (g.R.Read.remaining l.fn.reader)
      ≡ Some bytes →
      Took bytes (pending_in l.self.chunk l.self.start l.self.end) (g.R.Read.remaining l.reader) l.line.items;
}

abbrev pub decreases-parts : goal.decreases-parts
decreases-parts g l = steps_left l.self.reads l.self.start l.self.end
