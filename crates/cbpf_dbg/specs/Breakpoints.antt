-- Breakpoints (Linux Documentation/networking/filter, "BPF engine and instruction set", on `breakpoint` of `bpf_dbg`),
-- and their conditions (this project's own).
use Rattle.std.specs.Prelude.{ℕ, nat_eq, Bool, List, [], ◌∷◌, if◌then◌else◌}
use Rattle.std.specs.Map.{lookup}
use Rattle.cbpf_machine.specs.Follow.{is_met}
use Rattle.cbpf_machine.specs.Registers.{Registers}
use Rattle.cbpf_machine.specs.declared.pause.When.{When}

-- numbers of instructions, each with its condition, in order of setting
abbrev pub Breakpoints : Type 0
Breakpoints = List (ℕ × When)

-- A breakpoint of an instruction goes last. One that is set keeps its position in the list, and takes the condition.
abbrev pub with_breakpoint : Breakpoints → ℕ → When → Breakpoints
with_breakpoint [] n when = (n, when) ∷ []
with_breakpoint (b ∷ bs) n when = if nat_eq n b.0 then (n, when) ∷ bs else b ∷ with_breakpoint bs n when

-- without the breakpoint of an instruction; the others keep their order
abbrev pub without_breakpoint : Breakpoints → ℕ → Breakpoints
without_breakpoint [] n = []
without_breakpoint (b ∷ bs) n = if nat_eq n b.0 then bs else b ∷ without_breakpoint bs n

-- the instruction that comes next in a state carries a breakpoint, whose condition holds
abbrev pub carries : Breakpoints → Registers → Bool
carries breakpoints s = is_met (lookup (nat_eq s.pc) breakpoints) s
