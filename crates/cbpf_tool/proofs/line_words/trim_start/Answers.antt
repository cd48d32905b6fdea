use Rattle.std.proofs.Common.{sym, ◌∙◌}
use Rattle.cbpf_tool.proofs.WordLemmas.{rest-of, start-stop, start-end}
use Rattle.cbpf_tool.proofs.line_words.trim_start.Goals.{then-loop-at-test+else-is_blank, else-loop-at-test}
use Rattle.cbpf_tool.proofs.line_words.trim_start.Goals as goal

pub returns : goal.returns
returns c = rest-of c.args.text.now c.loop-at.at ∙ sym (c.loop-at.invariant.same ∙ elim c.loop-at-test.branch [
  | then-loop-at-test+else-is_blank w ↦
      start-stop c.args.text.now c.loop-at.at w.loop-at-test.true (sym w.is_blank.ensures ∙ w.if-is_blank.false)
  | else-loop-at-test w ↦ start-end c.args.text.now c.loop-at.at w.loop-at-test.false
])
