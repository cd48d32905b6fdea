use Rattle.std.proofs.Common.{◌<◌, length, arith, rules}
use Rattle.std.proofs.Output.{has_written_append, has_written_of_eq}
use Rattle.cbpf_code.proofs.AsciiLemmas.{line_utf8}
use Rattle.cbpf_code.proofs.ListingLemmas.{all_lines, next_line}
use Rattle.cbpf_code.proofs.shown.ProgramDisplay.fmt.Goals as goal

pub show_line-requires : goal.show_line-requires
show_line-requires g c =
    line_utf8 _ _ _ c.args.self.now c.loop-i.i c.prepend_line.ensures.text c.prepend.ensures.text c.new-line.ensures

pub loop-i-preserved : goal.loop-i-preserved
loop-i-preserved g c = λ plain.
    let list = c.args.self.now in
    let below : c.loop-i.i < length list = omega (arith, c.loop-i-test.true, c.len-i-end.ensures.value) in
    has_written_of_eq _ _ _ _ _
    (next_line list c.loop-i.i _ _ _ below c.prepend_line.ensures.text c.prepend.ensures.text c.new-line.ensures)
    (has_written_append _ _ _ _ c.prepend_line.new.line _ (c.loop-i.invariant plain) (search rules))

pub returns-clause-writes : goal.returns-clause-writes
returns-clause-writes g c = λ plain _.
    has_written_of_eq _ _ _ _ _
    (all_lines c.args.self.now c.loop-i.i (omega (arith, c.loop-i-test.false, c.len-i-end.ensures.value)))
    (c.loop-i.invariant plain)
