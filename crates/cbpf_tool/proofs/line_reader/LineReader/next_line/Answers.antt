use Rattle.std.proofs.Common.{◌≡◌, ◌∙◌, [], arith}
use Rattle.std.proofs.lemmas.Grind.{common_steps}
use Rattle.cbpf_tool.proofs.LineLemmas.{line-unfilled, took-filled, took-end, took-part, took-all, took-some}
use Rattle.cbpf_tool.proofs.LineLemmas.{plain-append, pending-some}
use Rattle.cbpf_tool.proofs.line_reader.LineReader.next_line.Goals as goal

pub returns-in-Err-clause-line : goal.returns-in-Err-clause-line
returns-in-Err-clause-line g c = λ bytes e.
    line-unfilled (g.R.Read.remaining c.fill.new.reader) c.in-Err.fault (c.parts.invariant.so_far bytes e)
    c.parts.invariant.plain c.in-Err.ensures.fault c.in-Err.ensures.bytes

pub returns-in-Ok-false-clause-line : goal.returns-in-Ok-false-clause-line
returns-in-Ok-false-clause-line g c = λ bytes e.
    let t = c.parts.invariant.so_far bytes e in
    let h = rw c.in-Ok-false.field-0-test at (c.in-Ok-false.ensures.bytes t.rest t.known) in
    let none : c.parts.line.items ≡ [] = grind (arith, common_steps) in
    (took-end t h.0 ∙ none, h.1)

pub returns-in-Ok-false-2-clause-line : goal.returns-in-Ok-false-2-clause-line
returns-in-Ok-false-2-clause-line g c = λ bytes e.
    let t = c.parts.invariant.so_far bytes e in
    let h = rw c.in-Ok-false.field-0-test at (c.in-Ok-false.ensures.bytes t.rest t.known) in
    let some : c.parts.line.items ≡ [] → ⊥ = grind (arith, common_steps) in
    (c.parts.invariant.plain, took-end t h.0, h.1, some)

pub returns-in-Err-take_part-clause-line : goal.returns-in-Err-take_part-clause-line
returns-in-Err-take_part-clause-line g c = λ bytes e.
    let t = c.parts.invariant.so_far bytes e in
    let s = took-filled t (rw c.in-Ok-true.field-0-test at (c.in-Ok-true.ensures.bytes t.rest t.known)) in
    rw c.in-Err-take_part.ensures.taken (took-some s (pending-some _ _ _ c.fill.new.self.within
    (c.in-Ok-true.ensures.some c.in-Ok-true.field-0-test)))

pub returns-in-Ok-true-take_part-clause-line : goal.returns-in-Ok-true-take_part-clause-line
returns-in-Ok-true-take_part-clause-line g c = λ bytes e.
    let t = c.parts.invariant.so_far bytes e in
    let s = took-filled t (rw c.in-Ok-true.field-0-test at (c.in-Ok-true.ensures.bytes t.rest t.known)) in
    let p = rw c.in-Ok-true-take_part.field-0-test at c.in-Ok-true-take_part.ensures.taken in
    (rw p.3 (plain-append c.parts.line.items p.0 c.parts.invariant.plain p.1), took-part p.0 s p.2 p.3)

pub parts-preserved : goal.parts-preserved
parts-preserved g c =
    let p = rw c.in-Ok-false-take_part.field-0-test at c.in-Ok-false-take_part.ensures.taken in
    record {
      plain = rw p.2 (plain-append c.parts.line.items _ c.parts.invariant.plain p.0);
      fewer = omega (
        arith,
        c.in-Ok-false-take_part.ensures.fewer,
        c.in-Ok-false-take_part.ensures.reads,
        c.in-Ok-true.ensures.fewer,
        c.parts.invariant.fewer,
      );
      so_far = λ bytes e.
          let t = c.parts.invariant.so_far bytes e in
          let s = took-filled t (rw c.in-Ok-true.field-0-test at (c.in-Ok-true.ensures.bytes t.rest t.known)) in
          took-all s p.1 p.2;
    }
