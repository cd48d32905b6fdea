use Rattle.std.proofs.Common.{◌≡◌, ℕ, ◌<◌, ◌^◌, min, take, get_or, true}
use Rattle.cbpf_code.specs.WordTokens.{is_digit, decimal_value}
use Rattle.cbpf_code.proofs.scan.leading_digits.Given as goal

abbrev pub invariant-loop-i : goal.invariant-loop-i
invariant-loop-i l = record {
  digits : (k : ℕ) → k < l.i → is_digit (get_or l.text k 0) ≡ true;
  value : l.value ≡ min (decimal_value (take l.i l.text)) (2 ^ 32);
}
