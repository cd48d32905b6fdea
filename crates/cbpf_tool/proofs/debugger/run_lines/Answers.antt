use Rattle.std.proofs.Common.{refl, sym, subst}
use Rattle.std.proofs.KnownBytes.{Keeps-trans}
use Rattle.cbpf_dbg.specs.View.{View}
use Rattle.cbpf_tool.specs.LineReader.{pending_in}
use Rattle.cbpf_tool.proofs.ScriptLemmas.{Progress}
use Rattle.cbpf_tool.proofs.ScriptLemmas.{progress-start, line-faulted, write-faulted, quit-done, line-done, end-done}
use Rattle.cbpf_tool.proofs.ScriptLemmas.{last-done, next, next-whole, next-last, unflushed, ended}
use Rattle.cbpf_tool.proofs.debugger.run_lines.Goals as goal

pub script-init : goal.script-init
script-init g c = λ script e is_known.
    subst (λ (m : View). Progress script (pending_in c.args.lines.now.chunk c.args.lines.now.start
    c.args.lines.now.end) (g.R.Read.remaining c.args.reader.now) (g.W.Write.contents c.args.writer.now)
    (g.W.Write.contents c.args.writer.now) (g.F.Files.source c.args.files.now) (g.F.Files.source c.args.files.now) m)
    (sym c.requires.session) (progress-start script _ _ (g.W.Write.contents c.args.writer.now)
    (g.F.Files.source c.args.files.now) c.requires.lines e)

pub returns-in-Err : goal.returns-in-Err
returns-in-Err g c = λ script e is_known.
    let p = c.script.invariant script e is_known in
    record {
      outcome = unflushed p _ c.flush_if.ensures.kept _ c.in-Err.fault c.in-Err.ensures.fault;
    }

pub returns-in-Err-next_line : goal.returns-in-Err-next_line
returns-in-Err-next_line g c = λ script e is_known.
    let p = c.script.invariant script e is_known in
    let pending = pending_in c.next_line.new.self.chunk c.next_line.new.self.start c.next_line.new.self.end in
    record {
      outcome = line-faulted p _ c.flush_if.ensures.kept pending c.next_line.new.line.items _
          c.in-Err-next_line.fault (c.in-Err-next_line.ensures.line p.rest p.known);
    }

pub returns-in-Ok-None : goal.returns-in-Ok-None
returns-in-Ok-None g c = λ script e is_known.
    let p = c.script.invariant script e is_known in
    let t = rw c.in-Ok-None.field-0-is at (c.in-Ok-None.ensures.line p.rest p.known) in
    record {
      outcome = ended script (g.R.Read.remaining c.next_line.new.reader) (g.W.Write.contents c.args.writer.now)
          (g.W.Write.contents c.flush_if.new.w) (g.W.Write.contents c.flush.new.w)
          (g.F.Files.source c.args.files.now) (g.F.Files.source c.script.files) c.flush.result
          (end-done p _ c.flush_if.ensures.kept _ t.0 t.1) c.flush.ensures.kept c.flush.ensures.fault;
    }

-- ---- a line

pub returns-in-Err-flush_if : goal.returns-in-Err-flush_if
returns-in-Err-flush_if g c = λ script e is_known.
    let p = c.script.invariant script e is_known in
    record {
      outcome = unflushed p _ (Keeps-trans _ _ _ c.flush_if.ensures.kept c.flush_if-in-Ok-Some.ensures.kept)
          _ c.in-Err-flush_if.fault c.in-Err-flush_if.ensures.fault;
    }

pub returns-in-Err-run_line : goal.returns-in-Err-run_line
returns-in-Err-run_line g c = λ script e is_known.
    let p = c.script.invariant script e is_known in
    let pending = pending_in c.next_line.new.self.chunk c.next_line.new.self.start c.next_line.new.self.end in
    let t = rw c.in-Ok-Some.field-0-is at (c.in-Ok-Some.ensures.line p.rest p.known) in
    let after = next p.rest pending c.next_line.new.line.items (g.R.Read.remaining c.next_line.new.reader)
    c.in-Ok-Some.end c.as_slice.ensures.value t in
    record {
      outcome = write-faulted p _ (Keeps-trans _ _ _ c.flush_if.ensures.kept c.flush_if-in-Ok-Some.ensures.kept)
          _ c.run_line.new.session _ after.1 is_known (g.R.Read.remaining c.next_line.new.reader)
          c.in-Err-run_line.field-0
          (rw (← c.command_of-said.ensures) (c.in-Err-run_line.ensures {u = tt}));
    }

pub returns-in-Ok-Quit : goal.returns-in-Ok-Quit
returns-in-Ok-Quit g c = λ script e is_known.
    let p = c.script.invariant script e is_known in
    let pending = pending_in c.next_line.new.self.chunk c.next_line.new.self.start c.next_line.new.self.end in
    let t = rw c.in-Ok-Some.field-0-is at (c.in-Ok-Some.ensures.line p.rest p.known) in
    let after = next p.rest pending c.next_line.new.line.items (g.R.Read.remaining c.next_line.new.reader)
    c.in-Ok-Some.end c.as_slice.ensures.value t in
    record {
      outcome = ended script (g.R.Read.remaining c.next_line.new.reader) (g.W.Write.contents c.args.writer.now)
          (g.W.Write.contents c.run_line.new.w) (g.W.Write.contents c.flush-in-Ok-Quit.new.w)
          (g.F.Files.source c.args.files.now) (g.F.Files.source c.run_line.new.files) c.flush-in-Ok-Quit.result
          (quit-done p _ (Keeps-trans _ _ _ c.flush_if.ensures.kept c.flush_if-in-Ok-Some.ensures.kept)
          _ c.run_line.new.session _ after.1 is_known _
          (rw (← c.command_of-said.ensures) (rw c.in-Ok-Quit.field-0-is at (c.in-Ok-Quit.ensures {u = tt}))))
          c.flush-in-Ok-Quit.ensures.kept c.flush-in-Ok-Quit.ensures.fault;
    }

pub script-preserved : goal.script-preserved
script-preserved g c = λ script e is_known.
    let p = c.script.invariant script e is_known in
    let t = rw c.in-Newline.is at (rw c.in-Ok-Some.field-0-is at (c.in-Ok-Some.ensures.line p.rest p.known)) in
    let q = rw (← c.as_slice.ensures.value) at t in
    line-done p _ (Keeps-trans _ _ _ c.flush_if.ensures.kept c.flush_if-in-Ok-Some.ensures.kept) _
    c.run_line.new.session _ (next-whole c.as_slice.ensures.value t.0 t.1) is_known q.0 q.1
    (rw (← c.command_of-said.ensures) (rw c.in-Ok-NextLine.field-0-is at (c.in-Ok-NextLine.ensures {u = tt})))

pub returns-in-Input : goal.returns-in-Input
returns-in-Input g c = λ script e is_known.
    let p = c.script.invariant script e is_known in
    let t = rw c.in-Input.is at (rw c.in-Ok-Some.field-0-is at (c.in-Ok-Some.ensures.line p.rest p.known)) in
    record {
      outcome = ended script (g.R.Read.remaining c.next_line.new.reader) (g.W.Write.contents c.args.writer.now)
          (g.W.Write.contents c.run_line.new.w) (g.W.Write.contents c.flush-in-Input.new.w)
          (g.F.Files.source c.args.files.now) (g.F.Files.source c.run_line.new.files) c.flush-in-Input.result
          (last-done p _ (Keeps-trans _ _ _ c.flush_if.ensures.kept c.flush_if-in-Ok-Some.ensures.kept)
          _ c.run_line.new.session _ (next-last c.as_slice.ensures.value t.0 t.3 t.1) is_known _ t.2 refl
          (rw (← c.command_of-said.ensures) (rw c.in-Ok-NextLine.field-0-is at (c.in-Ok-NextLine.ensures {u = tt}))))
          c.flush-in-Input.ensures.kept c.flush-in-Input.ensures.fault;
    }
