use Rattle.std.proofs.Common.{length-drop, rules, refl, ltb-true, ◌≡◌, ◌∙◌, sym, map, drop, ◌∷◌}
use Rattle.std.proofs.lemmas.Bool.{both_ways}
use Rattle.std.proofs.lemmas.List.{take_rest, length-map}
use Rattle.std.proofs.lemmas.List.Sums.{common_prefix_len-le}
use Rattle.std.proofs.Math.Numerals.{one-add}
use Rattle.cbpf_syntax.specs.declared.lexeme.Symbol.TheVariants.{Word}
use Rattle.cbpf_syntax.specs.Views.{lexeme_of, class_of, mnemonic_view}
use Rattle.cbpf_syntax.proofs.Mnemonics.{has_modes}
use Rattle.cbpf_syntax.proofs.Steps.{lexeme, first_symbol, no_token_stuck, no_word_stuck, reserved_stuck, word_stuck}
use Rattle.cbpf_syntax.proofs.Steps.{mnemonic_whole, mnemonic_part}
use Rattle.cbpf_syntax.proofs.item.instruction.Goals.{In-Word, then-is_reserved, else-is_reserved}
use Rattle.cbpf_syntax.proofs.item.instruction.Goals as goal

split : (c : In-Word) → map lexeme_of c.args.tokens.now
    ≡ lexeme c.in-Word.word.now c.in-Some.first.now.at ∷ map lexeme_of (drop 1 c.args.tokens.now)
split c = first_symbol c.args.tokens.now c.in-Some.first.now (Word c.in-Word.word)
    (ltb-true 0 _ (sym c.in-Some.ensures.item.0)) c.in-Some.ensures.item.1 c.in-Word.is

pub returns-in_default : goal.returns-in_default
returns-in_default c = no_token_stuck c.args.tokens.now c.in_default.ensures.item.3

pub returns-in_default-symbol : goal.returns-in_default-symbol
returns-in_default-symbol c = no_word_stuck c.args.tokens.now c.in-Some.first.now
    (ltb-true 0 _ (sym c.in-Some.ensures.item.0)) c.in-Some.ensures.item.1 c.in_default-symbol.not-Word

pub returns-in_default-mnemonic_named : goal.returns-in_default-mnemonic_named
returns-in_default-mnemonic_named c =
    let e = split (goal.at.returns-in_default-mnemonic_named c).In-Word in
    elim c.if-is_reserved.branch [
      | then-is_reserved w ↦ rw w.result-is (reserved_stuck _ _ _ _ e c.in_default-mnemonic_named.ensures.none
          (sym c.is_reserved.ensures ∙ w.if-is_reserved.true))
      | else-is_reserved w ↦ rw w.result-is (word_stuck _ _ _ _ e
          (sym c.is_reserved.ensures ∙ w.if-is_reserved.false) c.requires)
    ]

pub best_row-best-requires-clause-some : goal.best_row-best-requires-clause-some
best_row-best-requires-clause-some c = rw (length-map c.in-Some-mnemonic_named.mnemonic.now.entries.now _) at
    (has_modes (mnemonic_view c.in-Some-mnemonic_named.mnemonic.now) c.in-Some-mnemonic_named.ensures.found)

pub overflow_add-result : goal.overflow_add-result
overflow_add-result c = search (rules, take_rest, common_prefix_len-le, ltb-true, length-map, length-drop)

pub returns-then-is_whole : goal.returns-then-is_whole
returns-then-is_whole c =
    let n = length-map c.best_row-best.result.row.operand.now class_of in
    rw (split (goal.at.returns-then-is_whole c).In-Word, ← n) (mnemonic_whole _ _ _ _ c.best_row-best.result
    c.in-Some-mnemonic_named.ensures.found c.in-Some-mnemonic_named.ensures.word
    (rw (take_rest c.args.tokens.now 1) at c.best_row-best.ensures) (n ∙ c.if-is_whole.ensures.0 refl))

pub returns-else-is_whole : goal.returns-else-is_whole
returns-else-is_whole c =
    let n = length-map c.best_row-best.result.row.operand.now class_of in
    rw (split (goal.at.returns-else-is_whole c).In-Word, one-add) (mnemonic_part _ _ _ _ c.best_row-best.result
    c.in-Some-mnemonic_named.ensures.found c.in-Some-mnemonic_named.ensures.word
    (rw (take_rest c.args.tokens.now 1) at c.best_row-best.ensures)
    (λ e. both_ways _ refl (c.if-is_whole.ensures.1 (sym n ∙ e))))
