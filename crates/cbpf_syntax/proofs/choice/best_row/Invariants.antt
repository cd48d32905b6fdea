use Rattle.std.proofs.Common.{◌∷◌, map, take, flat_map}
use Rattle.std.specs.Prelude.{Contains}
use Rattle.cbpf_syntax.specs.Table.{Row, entry_rows, rows_of}
use Rattle.cbpf_syntax.specs.Choice.{IsBest}
use Rattle.cbpf_syntax.specs.Views.{lexeme_of, entry_of, mnemonic_view}
use Rattle.cbpf_syntax.proofs.choice.best_row.Given as goal

abbrev pub invariant-loop-entry : goal.invariant-loop-entry
invariant-loop-entry l = (r : Row) × Contains (rows_of (mnemonic_view l.mnemonic)) r × IsBest
    (r ∷ flat_map (entry_rows l.mnemonic.word.now) (map entry_of (take l.entry-index l.mnemonic.entries.now)))
    (map lexeme_of l.tokens) l.best
