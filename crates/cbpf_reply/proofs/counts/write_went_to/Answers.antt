use Rattle.cbpf_reply.specs.Counts.{at_text}
use Rattle.std.proofs.Common.{rules}
use Rattle.cbpf_reply.proofs.counts.write_went_to.Goals as goal

pub returns : goal.returns
unfolding at_text
returns g c = search rules
