use Rattle.std.proofs.Common.{List, ◌++◌, map, take}
use Rattle.cbpf_syntax.specs.Table.{Row, entry_rows}
use Rattle.cbpf_syntax.specs.Choice.{IsBest}
use Rattle.cbpf_syntax.specs.Views.{lexeme_of, entry_of}
use Rattle.cbpf_syntax.proofs.choice.better_mode.Given as goal

abbrev pub invariant-loop-form : goal.invariant-loop-form
invariant-loop-form l = (rs : List Row) → IsBest rs (map lexeme_of l.tokens) l.initial.best
    → IsBest (rs ++ take l.form-index (entry_rows l.mnemonic.word.now (entry_of l.entry)))
    (map lexeme_of l.tokens) l.best
