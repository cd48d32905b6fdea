use Rattle.std.proofs.Common.{◌≡◌, take, true}
use Rattle.std.specs.List.{list_all}
use Rattle.cbpf_code.specs.WordTokens.{is_digit, decimal_value}
use Rattle.cbpf_tool.proofs.number.number_up_to.Given as goal

abbrev pub invariant-loop-b : goal.invariant-loop-b
invariant-loop-b l = record {
  digits : list_all is_digit (take l.b-index l.word) ≡ true;
  sum : l.value ≡ decimal_value (take l.b-index l.word);
}
