use Rattle.std.proofs.Common.{◌∙◌, sym, arith}
use Rattle.cbpf_why.specs.declared.ended.Verdict.TheVariants.{Pass, Fail, Unknown}
use Rattle.cbpf_why.proofs.GroupLemmas.{keeps_pass, keeps_fail, keeps_unknown, row_inside}
use Rattle.cbpf_why.proofs.groups.Groups.add.Goals as goal

pub add-requires-clause-inside : goal.add-requires-clause-inside
add-requires-clause-inside g c =
    let keeps = rw (← c.self.view_is) at c.requires.2 in let row = row_inside c.requires.0 c.args.ended c.requires.4 in omega (arith, keeps.long Pass, row)

pub returns-in-Pass : goal.returns-in-Pass
returns-in-Pass g c = λ n ends had inside.
    let keeps = rw (← c.self.view_is) at had in
    let is = sym c.verdict.ensures ∙ c.in-Pass.is in
    keeps_pass _ c.add.new.groups.items n ends c.args.ended keeps inside is
    (c.add.ensures.groups ends (rw is (keeps.groups Pass))) c.add.ensures.long

pub add-requires-in-Fail-clause-inside : goal.add-requires-in-Fail-clause-inside
add-requires-in-Fail-clause-inside g c =
    let keeps = rw (← c.self.view_is) at c.requires.2 in let row = row_inside c.requires.0 c.args.ended c.requires.4 in omega (arith, keeps.long Fail, row)

pub returns-in-Fail : goal.returns-in-Fail
returns-in-Fail g c = λ n ends had inside.
    let keeps = rw (← c.self.view_is) at had in
    let is = sym c.verdict.ensures ∙ c.in-Fail.is in
    keeps_fail _ c.add-in-Fail.new.groups.items n ends c.args.ended keeps inside is
    (c.add-in-Fail.ensures.groups ends (rw is (keeps.groups Fail))) c.add-in-Fail.ensures.long

pub add-requires-in-Unknown-clause-inside : goal.add-requires-in-Unknown-clause-inside
add-requires-in-Unknown-clause-inside g c =
    let keeps = rw (← c.self.view_is) at c.requires.2 in let row = row_inside c.requires.0 c.args.ended c.requires.4 in omega (arith, keeps.long Unknown, row)

pub returns-in-Unknown : goal.returns-in-Unknown
returns-in-Unknown g c = λ n ends had inside.
    let keeps = rw (← c.self.view_is) at had in
    let is = sym c.verdict.ensures ∙ c.in-Unknown.is in
    keeps_unknown _ c.add-in-Unknown.new.groups.items n ends c.args.ended keeps inside is
    (c.add-in-Unknown.ensures.groups ends (rw is (keeps.groups Unknown))) c.add-in-Unknown.ensures.long
