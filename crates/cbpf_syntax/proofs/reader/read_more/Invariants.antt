use Rattle.std.proofs.Common.{◌≡◌, ◌≤◌, ◌+◌, length, map, take}
use Rattle.cbpf_syntax.specs.Ahead.{ReadsOn}
use Rattle.cbpf_syntax.specs.Views.{lexeme_of}
use Rattle.cbpf_syntax.proofs.reader.read_more.Given as goal

abbrev pub invariant-loop-i : goal.invariant-loop-i
invariant-loop-i g l = record {
  kept : l.lexer ≡ l.initial.lexer;
  text : l.here.text ≡ l.text;
  within : l.here.at ≤ length l.text;
  read :
      ReadsOn l.text l.initial.lexer.at l.here.at (map lexeme_of l.initial.ahead.items) (map lexeme_of l.ahead.items);
  left : l.initial.lexer.at + length l.ahead.items ≤ l.here.at + length l.initial.ahead.items;
  farther : l.initial.lexer.at + l.i ≤ l.here.at;
  long : length l.initial.ahead.items ≤ length l.ahead.items;
  before : take (length l.initial.ahead.items) l.ahead.items ≡ l.initial.ahead.items;
}
