use Rattle.std.proofs.Common.{◌∙◌, arith}
use Rattle.cbpf_why.proofs.BlockLemmas.{opened-more, opened-all}
use Rattle.cbpf_why.proofs.blocks.mark_all.Goals as goal

pub loop-i-preserved : goal.loop-i-preserved
loop-i-preserved g c =
    let before = c.loop-i.invariant in
    record {
      long = c.mark_opened.ensures.long ∙ before.long;
      marked = λ j below. opened-more c.args.p.now c.loop-i.i j c.at_index.result _ _ c.at_index.ensures.value
          (before.marked j below) (c.mark_opened.ensures.marked j (omega (arith, below, before.long)));
    }

pub returns-clause-begins : goal.returns-clause-begins
returns-clause-begins g c = λ j below.
    opened-all c.args.p.now c.loop-i.i j _ (omega (arith, c.loop-i-test.false, c.len-i-end.ensures.value)) (c.loop-i.invariant.marked j below)
