use Rattle.std.proofs.Common.{◌≡◌, ◌≤◌, ◌-◌, length}
use Rattle.std.specs.Prelude.{All}
use Rattle.cbpf_syntax.specs.Tokens.{LexesTo, IsSpanOf}
use Rattle.cbpf_syntax.proofs.lexer.tokens.Given as goal

abbrev pub invariant-loop-found : goal.invariant-loop-found
invariant-loop-found g l = record {
  text : l.lexer.text ≡ l.text;
  within : l.lexer.at ≤ length l.text;
  lexed : LexesTo l.text l.lexer.at l.found.items;
  spans : All (IsSpanOf l.text) l.found.items;
}

abbrev pub decreases-loop-found : goal.decreases-loop-found
decreases-loop-found g l = length l.text - l.lexer.at
