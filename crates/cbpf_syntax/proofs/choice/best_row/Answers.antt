use Rattle.std.proofs.Common.{sym, refl, ◌∙◌, ◌∷◌, map, subst}
use Rattle.std.proofs.lemmas.List.{take_all, length-map}
use Rattle.cbpf_code.specs.declared.opcode.Op.TheVariants.{LdImm}
use Rattle.cbpf_syntax.specs.declared.mode.Mode.TheVariants as modes
use Rattle.cbpf_syntax.specs.declared.table.Fields.TheVariants.{Constant}
use Rattle.cbpf_syntax.specs.Choice.{IsBest}
use Rattle.cbpf_syntax.specs.Table.{rows_of}
use Rattle.cbpf_syntax.specs.Views.{lexeme_of, class_of, mnemonic_view}
use Rattle.cbpf_syntax.proofs.Best.{next_entry, without_first}
use Rattle.cbpf_syntax.proofs.Final.{final_best}
use Rattle.cbpf_syntax.proofs.choice.best_row.Goals as goal

pub loop-entry-preserved : goal.loop-entry-preserved
loop-entry-preserved c =
    let inv = c.loop-entry.invariant in
    let step = next_entry c.args.mnemonic.now.word.now c.args.mnemonic.now.entries.now c.loop-entry.entry-index
    (record { mode = modes.X; op = LdImm; fields = Constant }) c.loop-entry-test.true in (
      inv.0,
      inv.1,
      subst (λ rs. IsBest (inv.0 ∷ rs) (map lexeme_of c.args.tokens.now) c.better_mode-best.result) (sym step)
          (c.better_mode-best.ensures _ inv.2),
    )

pub returns : goal.returns
returns c =
    let inv = c.loop-entry.invariant in
    without_first inv.0 (rows_of (mnemonic_view c.args.mnemonic.now)) (map lexeme_of c.args.tokens.now)
    c.loop-entry.best inv.1
    (rw (take_all c.loop-entry.entry-index c.args.mnemonic.now.entries.now c.loop-entry-test.false) at inv.2)

pub returns-then-is_final : goal.returns-then-is_final
returns-then-is_final c =
    let inv = c.loop-entry.invariant in
    let whole = c.is_final.ensures.whole c.if-is_final.true in
    final_best (mnemonic_view c.args.mnemonic.now) c.args.mnemonic.now.entries.now c.loop-entry.entry-index inv.0
    (map lexeme_of c.args.tokens.now) c.loop-entry.best refl c.requires.known inv.1 inv.2
    (length-map c.loop-entry.best.row.operand.now class_of ∙ whole) (c.is_final.ensures.end c.if-is_final.true)
