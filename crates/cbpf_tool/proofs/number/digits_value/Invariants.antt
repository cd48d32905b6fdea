use Rattle.std.proofs.Common.{ℕ, ◌≡◌, ◌^◌, min, drop}
use Rattle.cbpf_tool.specs.Numbers.{digits_value}
use Rattle.cbpf_tool.proofs.number.digits_value.Given as goal

-- the value so far is the digits' value so far, capped
abbrev pub invariant-loop-b : goal.invariant-loop-b
invariant-loop-b l = (m : ℕ) × (l.value ≡ min m (2 ^ 32))
    × (digits_value l.base m (drop l.b-index l.digits) ≡ digits_value l.base 0 l.digits)
