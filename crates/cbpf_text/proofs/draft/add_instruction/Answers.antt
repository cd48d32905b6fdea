use Rattle.std.proofs.Common.{rules, ◌≡◌, ◌<◌, length, refl, subst}
use Rattle.cbpf_code.specs.declared.checker.TheConstants.{MAX_INSTRUCTIONS}
use Rattle.indexmap.specs.IndexMap.{get}
use Rattle.cbpf_text.specs.Drafts.{IsDraft, same_name}
use Rattle.cbpf_text.proofs.LabelLists.{is_some_false}
use Rattle.cbpf_text.proofs.Kept.{kept_item, kept_excess}
use Rattle.cbpf_text.proofs.draft.add_instruction.Goals as goal

pub returns-then-len-eq-MAX_INSTRUCTIONS-clause-item : goal.returns-then-len-eq-MAX_INSTRUCTIONS-clause-item
returns-then-len-eq-MAX_INSTRUCTIONS-clause-item g c is ws d =
    let none = is_some_false c.args.draft.now.excess c.if-is_some.ensures in
    let full : length c.args.draft.now.statements.items ≡ MAX_INSTRUCTIONS = search rules in
    kept_excess c.args.draft.now.statements.items c.args.draft.now.labels.repeat
    (λ k. get same_name c.args.draft.now.labels.table k) is ws _ c.args.body.now _
    (subst (λ o. IsDraft o c.args.draft.now.statements.items c.args.draft.now.labels.repeat
    (λ k. get same_name c.args.draft.now.labels.table k) is ws) none d) full refl c.requires.some

pub returns-clause-item : goal.returns-clause-item
returns-clause-item g c is ws d =
    let none = is_some_false c.args.draft.now.excess c.if-is_some.ensures in
    let room : length c.args.draft.now.statements.items < MAX_INSTRUCTIONS = search rules in
    rw (none, c.in_ok-push.ensures.items) (kept_item c.args.draft.now.statements.items c.args.draft.now.labels.repeat
    (λ k. get same_name c.args.draft.now.labels.table k) is ws _ _
    (subst (λ o. IsDraft o c.args.draft.now.statements.items c.args.draft.now.labels.repeat
    (λ k. get same_name c.args.draft.now.labels.table k) is ws) none d)
    (c.make_statement.ensures ws) refl room)
