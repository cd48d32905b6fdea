use Rattle.std.proofs.Common.{arith, refl}
use Rattle.cbpf_why.proofs.GroupLemmas.{group_count, groups-more}
use Rattle.cbpf_why.proofs.groups.add.Goals as goal

pub add-requires : goal.add-requires
add-requires g c =
    let few = c.requires.few in
    let most = group_count few.0 few.1 c.args.groups.now.items c.index_mut.result.now _ few.2 c.requires.inside in
    rw (c.index_mut.ensures.value, c.row.ensures) (omega (arith, most, few.3))

pub returns-clause-groups : goal.returns-clause-groups
returns-clause-groups g c = λ ends are. rw (c.add.ensures, c.index_mut.ensures.value, c.row.ensures)
    (groups-more ends c.args.ended _ c.args.groups.now.items c.index_mut.result.now refl are c.requires.inside)
