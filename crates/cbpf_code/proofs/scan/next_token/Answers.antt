use Rattle.std.proofs.Common.{take_all, length-drop, arith}
use Rattle.std.specs.List.{prefix_len}
use Rattle.std.proofs.lemmas.List.Sums.{prefix_len-le-length, prefix_len-drop_yes}
use Rattle.cbpf_code.proofs.WordTokenLemmas.{step-numeral}
use Rattle.cbpf_code.proofs.scan.next_token.Goals as goal

pub returns-then-is_digit : goal.returns-then-is_digit
returns-then-is_digit c =
    grind (arith, take_all, length-drop, prefix_len, prefix_len-le-length, prefix_len-drop_yes, step-numeral)
