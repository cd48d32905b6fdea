use Rattle.std.proofs.Common.{◌≡◌, ◌∙◌, Bool, true, false, sym, inl, inr, eqb-true, lt-ltb}
use Rattle.std.proofs.lemmas.List.{length-map}
use Rattle.cbpf_syntax.specs.Views.{class_of}
use Rattle.cbpf_syntax.proofs.Best.{second_best, first_best}
use Rattle.cbpf_syntax.proofs.choice.better.Goals.{then-new-best, else-new-best+then-new-best-2}
use Rattle.cbpf_syntax.proofs.choice.better.Goals.{else-new-best+else-new-best-2}
use Rattle.cbpf_syntax.proofs.choice.better.Goals as goal

pub returns-then-is_whole : goal.returns-then-is_whole
returns-then-is_whole c rs ss ts b d = elim c.if-new-best.branch [
  | then-new-best w ↦ second_best rs ss ts c.args.best c.args.new b d (inl w.if-new-best.true)
  | else-new-best+then-new-best-2 w ↦ second_best rs ss ts c.args.best c.args.new b d (inr (
    sym w.if-new-best-2.true,
    length-map c.args.new.row.operand.now class_of ∙ w.is_whole.ensures.0 (sym w.value-is ∙ c.if-is_whole.true),
  ))
  | else-new-best+else-new-best-2 w ↦
      absurd (w.if-new-best-2.false (eqb-true c.args.new.len c.args.best.len (sym w.value-is ∙ c.if-is_whole.true)))
]

not_false : {B : Type 0} (t : Bool) → t ≡ true → t ≡ false → B
not_false t e f = let k : true ≡ false = sym e ∙ f in cc

pub returns-else-is_whole : goal.returns-else-is_whole
returns-else-is_whole c rs ss ts b d = elim c.if-new-best.branch [
  | then-new-best w ↦
      not_false _ (lt-ltb c.args.best.len c.args.new.len w.if-new-best.true) (sym w.value-is ∙ c.if-is_whole.false)
  | else-new-best+then-new-best-2 w ↦ first_best rs ss ts c.args.best c.args.new b d w.if-new-best.false
      (λ _ e. not_false _ (w.is_whole.ensures.1 (sym (length-map c.args.new.row.operand.now class_of) ∙ e))
      (sym w.value-is ∙ c.if-is_whole.false))
  | else-new-best+else-new-best-2 w ↦
      first_best rs ss ts c.args.best c.args.new b d w.if-new-best.false (λ q. absurd (w.if-new-best-2.false (sym q)))
]
