use Rattle.cbpf_reply.specs.Breakpoints.{list_head}
use Rattle.std.proofs.Common.{rules}
use Rattle.cbpf_reply.proofs.breakpoints.write_list_head.Goals as goal

pub returns : goal.returns
unfolding list_head
returns g c = search rules
