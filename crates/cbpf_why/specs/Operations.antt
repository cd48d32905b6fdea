-- The operations of a program's instructions.
use Rattle.std.specs.Prelude.{ℕ, Bool, true, false, List, slice_get, option_and_then}
use Rattle.std.specs.Option.{option_map_or}
use Rattle.cbpf_code.specs.Opcode.{op_of}
use Rattle.cbpf_code.specs.declared.insn.Insn.{Insn}
use Rattle.cbpf_code.specs.declared.opcode.Op.{Op}
use Rattle.cbpf_code.specs.declared.opcode.Op.TheVariants.{Ja, Jump}

-- instruction `i` has an operation of this kind
abbrev pub is_op_at : (Op → Bool) → List Insn → ℕ → Bool
is_op_at kind list i = option_map_or kind (option_and_then (λ insn. op_of insn.code) (slice_get list i)) false

-- a conditional jump
abbrev pub is_test : Op → Bool
is_test (Jump cond src) = true
is_test _ = false

-- a jump, with a condition or without
abbrev pub is_jump : Op → Bool
is_jump Ja = true
is_jump op = is_test op
