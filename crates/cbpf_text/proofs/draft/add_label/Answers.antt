use Rattle.std.proofs.Common.{rules, ◌≡◌, length}
use Rattle.std.proofs.lemmas.Result.{on_ok_weaker}
use Rattle.indexmap.specs.IndexMap.{get}
use Rattle.cbpf_syntax.specs.Views.{lexeme_of}
use Rattle.cbpf_text.specs.Drafts.{same_name}
use Rattle.cbpf_text.proofs.LabelLists.{is_some_false}
use Rattle.cbpf_text.proofs.Kept.{kept_label}
use Rattle.cbpf_text.proofs.draft.add_label.Goals as goal

pub returns-clause-label : goal.returns-clause-label
returns-clause-label g c =
    let none = is_some_false c.args.draft.now.excess c.if-is_some.ensures in
    let place : c.len.result ≡ length c.args.draft.now.statements.items = search rules in
    rw none (on_ok_weaker c.add.result (λ more is ws d. kept_label c.args.draft.now.statements.items
    c.args.draft.now.labels.repeat _ (λ k. get same_name c.args.draft.now.labels.table k) _ is ws
    (lexeme_of c.args.word) c.len.result d place more) c.add.ensures)
