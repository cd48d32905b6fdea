use Rattle.std.proofs.Common.{◌≡◌, ◌≤◌, ◌-◌, List, length}
use Rattle.cbpf_syntax.specs.declared.token.Token.{Token}
use Rattle.cbpf_syntax.specs.Tokens.{LexesTo}
use Rattle.cbpf_syntax.proofs.lexer.Lexer.next_token.Given as goal

abbrev pub invariant-loop-at : goal.invariant-loop-at
invariant-loop-at l = record {
  same : l.self-inside ≡ l.initial.self-inside;
  from : l.initial.at ≤ l.at;
  within : l.at ≤ length l.text;
  more : (ts : List Token) → LexesTo l.text l.initial.at ts → LexesTo l.text l.at ts;
}

abbrev pub decreases-loop-at : goal.decreases-loop-at
decreases-loop-at l = length l.text - l.at
