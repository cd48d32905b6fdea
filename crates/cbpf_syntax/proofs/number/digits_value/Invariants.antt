use Rattle.std.proofs.Common.{ℕ, ◌≡◌, ◌^◌, min, drop}
use Rattle.cbpf_syntax.specs.Numbers.{digits_value}
use Rattle.cbpf_syntax.proofs.number.digits_value.Given as goal

-- the value so far is the digits' value so far, capped
abbrev pub invariant-loop-b : goal.invariant-loop-b
invariant-loop-b l = (m : ℕ) × (l.value ≡ min m (2 ^ 32))
    × (digits_value l.base m (drop l.b-index l.bytes) ≡ digits_value l.base l.high l.bytes)
