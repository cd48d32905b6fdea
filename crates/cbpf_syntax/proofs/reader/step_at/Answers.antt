use Rattle.std.proofs.Common.{map, arith, sym, ◌∙◌}
use Rattle.std.proofs.lemmas.List.{length-map}
use Rattle.cbpf_syntax.specs.Views.{lexeme_of}
use Rattle.cbpf_syntax.proofs.Taking.{next_word, label_word, stuck_word, stuck_within}
use Rattle.cbpf_syntax.proofs.reader.step_at.Goals as goal

pub returns-in-Ok-clause-word : goal.returns-in-Ok-clause-word
returns-in-Ok-clause-word c l = next_word (map lexeme_of c.args.tokens.now) _ _ c.in-Ok.ensures

pub returns-then-starts_with_label-clause-word : goal.returns-then-starts_with_label-clause-word
returns-then-starts_with_label-clause-word c l =
    label_word (map lexeme_of c.args.tokens.now) (sym c.starts_with_label.ensures ∙ c.if-starts_with_label.true)

pub returns-in-Err-clause-word : goal.returns-in-Err-clause-word
returns-in-Err-clause-word c l = stuck_word _ (map lexeme_of c.args.tokens.now) c.in-Err.ensures l

pub returns-in-Err-clause-within : goal.returns-in-Err-clause-within
returns-in-Err-clause-within c =
    let within = stuck_within c.in-Err.n (map lexeme_of c.args.tokens.now) c.in-Err.ensures in
    omega (arith, within, length-map c.args.tokens.now lexeme_of)
