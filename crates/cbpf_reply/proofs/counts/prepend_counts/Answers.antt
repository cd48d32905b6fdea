use Rattle.std.proofs.lemmas.Grind.{common_steps}
use Rattle.cbpf_reply.specs.Counts.{counts_text}
use Rattle.std.proofs.Common.{arith}
use Rattle.cbpf_reply.proofs.counts.prepend_counts.Goals as goal

pub returns : goal.returns
unfolding counts_text
returns c = grind (arith, common_steps)
