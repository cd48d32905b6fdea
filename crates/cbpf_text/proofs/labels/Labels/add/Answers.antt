use Rattle.std.proofs.Common.{◌∙◌, ap}
use Rattle.std.specs.Prelude.{is_some}
use Rattle.indexmap.specs.IndexMap.{get}
use Rattle.cbpf_text.specs.Drafts.{same_name}
use Rattle.cbpf_text.proofs.LabelLists.{set_past, set_again, set_new}
use Rattle.cbpf_text.proofs.labels.Labels.add.Goals.{then-is_some-2, else-is_some-2}
use Rattle.cbpf_text.proofs.labels.Labels.add.Goals as goal

pub returns-then-is_some : goal.returns-then-is_some
returns-then-is_some g c ls s = set_past ls _ c.args.self.now.repeat _ c.if-is_some.ensures s

pub returns : goal.returns
returns g c ls s =
    elim c.if-is_some-2.branch [
      | then-is_some-2 w ↦ rw w.self-is
          (set_again ls _ c.args.self.now.repeat _ (λ k. get same_name c.args.self.now.table k) c.name_of.result
          c.if-is_some.ensures s c.name_of.ensures (w.if-is_some-2.ensures ∙ ap is_some c.in_ok-insert.ensures.old))
      | else-is_some-2 w ↦ rw w.self-is
          (set_new ls _ c.args.self.now.repeat _ _ c.name_of.result c.if-is_some.ensures s c.name_of.ensures
          (w.if-is_some-2.ensures ∙ ap is_some c.in_ok-insert.ensures.old) c.in_ok-insert.ensures.updates.0)
    ]
