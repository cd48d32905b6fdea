-- How many digits a number takes in decimal.
use Rattle.std.proofs.Common.{ℕ, ◌<◌, ◌≤◌, ◌^◌, length, decimal, rules}
use Rattle.std.proofs.lemmas.Fmt.{length-decimal-le, decimal_nonempty}
use Rattle.itoa.proofs.Decimal.{length_one, length_step_wide}

pub three_digits : (n : ℕ) → n < 2 ^ 8 → length (decimal n) ≤ 3
three_digits n h = search (rules, length-decimal-le 3)

pub five_digits : (n : ℕ) → n < 2 ^ 16 → length (decimal n) ≤ 5
five_digits n h = search (rules, length-decimal-le 5)

pub ten_digits : (n : ℕ) → n < 2 ^ 32 → length (decimal n) ≤ 10
ten_digits n h = search (rules, length-decimal-le 10)

pub twenty_digits : (n : ℕ) → n < 2 ^ 64 → length (decimal n) ≤ 20
twenty_digits n h = search (rules, length-decimal-le 20)

pub ruleset few_digits = (three_digits, five_digits, ten_digits, twenty_digits)

pub ruleset one_or_more_digits = (length_one, length_step_wide, decimal_nonempty)
