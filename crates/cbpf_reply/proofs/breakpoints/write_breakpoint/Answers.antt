use Rattle.std.proofs.Common.{◌≡◌, append-nil, arith}
use Rattle.cbpf_reply.specs.Breakpoints.{set_head, condition_text}
use Rattle.cbpf_reply.proofs.breakpoints.write_breakpoint.Goals as goal

pub returns : goal.returns
unfolding set_head
returns g c =
    let condition : c.match-when.line ≡ condition_text c.args.when = grind (arith, append-nil) in
    rw (c.prepend-2.ensures.text, c.prepend_line.ensures.text, condition) at c.write.ensures
