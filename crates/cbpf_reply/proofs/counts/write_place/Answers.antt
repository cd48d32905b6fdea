use Rattle.cbpf_reply.specs.Counts.{place_text}
use Rattle.std.proofs.Common.{rules}
use Rattle.cbpf_reply.proofs.counts.write_place.Goals as goal

pub returns : goal.returns
unfolding place_text
returns g c = search rules
