use Rattle.std.proofs.Common.{◌≡◌, ◌≤◌, ◌-◌, List, length}
use Rattle.cbpf_syntax.specs.declared.token.Token.{Token}
use Rattle.cbpf_syntax.specs.Tokens.{LexesTo}
use Rattle.cbpf_syntax.proofs.reader.read_on.Given as goal

abbrev pub invariant-loop-token : goal.invariant-loop-token
invariant-loop-token l = record {
  text : l.lexer.text ≡ l.initial.lexer.text;
  within : l.lexer.at ≤ length l.initial.lexer.text;
  read : (ts : List Token) → LexesTo l.initial.lexer.text l.initial.lexer.at ts
      → (us : List Token) × LexesTo l.initial.lexer.text l.lexer.at us;
}

abbrev pub decreases-loop-token : goal.decreases-loop-token
decreases-loop-token l = length l.lexer.text - l.lexer.at
