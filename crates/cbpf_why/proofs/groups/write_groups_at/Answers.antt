use Rattle.cbpf_why.specs.declared.ended.Verdict.TheVariants.{Pass, Fail, Unknown}
use Rattle.cbpf_why.proofs.GroupLemmas.{group_is, group_inside}
use Rattle.cbpf_why.proofs.groups.write_groups_at.Goals as goal

pub write_three-requires-clause-passed : goal.write_three-requires-clause-passed
write_three-requires-clause-passed g c =
    group_inside c.args.groups.now _ c.requires.kept.0 Pass c.args.i _ c.requires.kept.1 c.requires.inside c.at-passed.ensures

pub write_three-requires-clause-failed : goal.write_three-requires-clause-failed
write_three-requires-clause-failed g c =
    group_inside c.args.groups.now _ c.requires.kept.0 Fail c.args.i _ c.requires.kept.1 c.requires.inside c.at-failed.ensures

pub write_three-requires-clause-unknown : goal.write_three-requires-clause-unknown
write_three-requires-clause-unknown g c =
    group_inside c.args.groups.now _ c.requires.kept.0 Unknown c.args.i _ c.requires.kept.1 c.requires.inside c.at-unknown.ensures

pub returns : goal.returns
returns g c = λ ends keeps. rw (
  group_is c.args.groups.now _ ends Pass c.args.i _ keeps c.requires.inside c.at-passed.ensures,
  group_is c.args.groups.now _ ends Fail c.args.i _ keeps c.requires.inside c.at-failed.ensures,
  group_is c.args.groups.now _ ends Unknown c.args.i _ keeps c.requires.inside c.at-unknown.ensures,
) at c.write_three.ensures
