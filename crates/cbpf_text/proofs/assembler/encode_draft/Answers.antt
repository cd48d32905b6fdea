use Rattle.std.proofs.Common.{rules, ◌≡◌, [], length, sym, subst, arith}
use Rattle.std.specs.Prelude.{IfErr}
use Rattle.cbpf_text.specs.Labels.{labels_from}
use Rattle.cbpf_text.specs.Drafts.{AreStatements, IsKept}
use Rattle.cbpf_text.specs.Refusals.{AnswersFault}
use Rattle.cbpf_text.proofs.Kept.{none_if}
use Rattle.cbpf_text.proofs.Answered.{fault_excess, kept_none, kept_repeat, kept_once}
use Rattle.cbpf_text.proofs.assembler.encode_draft.Goals as goal

pub returns-in-Some-clause-refused : goal.returns-in-Some-clause-refused
returns-in-Some-clause-refused g c is d f =
    fault_excess is c.in-Some.at (rw c.in-Some.is at d)

pub returns-then-is_empty-clause-refused : goal.returns-then-is_empty-clause-refused
returns-then-is_empty-clause-refused g c is d f =
    kept_none (rw (none_if c.args.draft.now.excess c.in_default.not-Some) at d) (search rules)

pub returns-in-Some-repeat-clause-refused : goal.returns-in-Some-repeat-clause-refused
returns-in-Some-repeat-clause-refused g c is d f = grind (arith, none_if, kept_repeat)

pub returns-clause-encoded : goal.returns-clause-encoded
returns-clause-encoded g c is d f = grind (arith, none_if, kept_once)

pub returns-clause-refused : goal.returns-clause-refused
returns-clause-refused g c is d f =
    let k : IsKept c.args.draft.now.statements.items _ _ is [] =
    rw (none_if c.args.draft.now.excess c.in_default.not-Some) at d in
    let some : length c.args.draft.now.statements.items ≡ 0 → ⊥ = λ z. search rules in
    let o = kept_once k (none_if c.args.draft.now.labels.repeat c.in_default-repeat.not-Some) some in
    let items : c.deref.result.now ≡ c.args.draft.now.statements.items = search rules in
    let same : AreStatements c.deref.result.now is = rw items k.same in
    subst (λ x. IfErr c.encode_all.result (AnswersFault x)) (sym o.1)
    (c.encode_all.ensures.refused (labels_from 0 is) is same f o.0)
