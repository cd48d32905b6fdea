use Rattle.std.proofs.Common.{◌<◌, ◌*◌, length, arith}
use Rattle.cbpf_code.proofs.WrittenLemmas.{appended-nil, err-exit}
use Rattle.cbpf_why.specs.Groups.{groups_at, groups_text}
use Rattle.cbpf_why.proofs.TextLemmas.{texts-stop}
use Rattle.cbpf_why.proofs.groups.write_groups.Goals as goal

pub loop-i-init : goal.loop-i-init
loop-i-init g c = λ ends keeps. appended-nil _

pub returns-in_err-write_groups_at : goal.returns-in_err-write_groups_at
unfolding groups_text
returns-in_err-write_groups_at g c = λ ends keeps.
    let below : c.loop-i.i < 2 * length c.args.p.now = omega (arith, c.loop-i-test.true, c.len.ensures.value) in
    err-exit _ _ _ _ c.from_residual.ensures.0
    (texts-stop (groups_at c.args.p.now ends) c.loop-i.i (2 * length c.args.p.now) _ _ _ below (c.loop-i.invariant ends keeps)
    (c.in_err-write_groups_at.ensures ends keeps))
