use Rattle.std.proofs.Common.{sym, ap, ◌∙◌, ◌++◌, [], ◌∷◌, map, take, subst, append_assoc}
use Rattle.cbpf_syntax.specs.Choice.{IsBest}
use Rattle.cbpf_syntax.specs.Table.{entry_rows}
use Rattle.cbpf_syntax.specs.Views.{lexeme_of, entry_of}
use Rattle.cbpf_syntax.proofs.Best.{next_form, all_forms}
use Rattle.cbpf_syntax.proofs.choice.better_mode.Goals as goal

pub loop-form-preserved : goal.loop-form-preserved
loop-form-preserved c rs b =
    let rows = entry_rows c.args.mnemonic.now.word.now (entry_of c.args.entry.now) in
    let front = take c.loop-form.form-index rows in
    let step =
    next_form c.args.mnemonic.now.word.now c.args.entry.now c.forms-form-items.result.now c.loop-form.form-index
    (record { ref_ptr = (0, 0); now = [] }) c.forms-form-items.ensures.forms c.loop-form-test.true in
    let new = subst (λ r. IsBest (r ∷ []) (map lexeme_of c.args.tokens.now) c.match_row.result) c.make_row.ensures
    c.match_row.ensures in
    subst (λ xs. IsBest xs (map lexeme_of c.args.tokens.now) c.better-best.result)
    (append_assoc rs front _ ∙ ap (λ ys. rs ++ ys) (sym step))
    (c.better-best.ensures (rs ++ front) _ (map lexeme_of c.args.tokens.now) (c.loop-form.invariant rs b) new)

pub returns : goal.returns
returns c rs b = subst (λ xs. IsBest (rs ++ xs) (map lexeme_of c.args.tokens.now) c.loop-form.best)
    (all_forms c.args.mnemonic.now.word.now c.args.entry.now c.forms-form-items.result.now c.loop-form.form-index
    c.forms-form-items.ensures.forms c.loop-form-test.false) (c.loop-form.invariant rs b)
