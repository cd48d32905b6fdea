-- A breakpoint is set and deleted by what `IndexMap` says of the entries.
use Rattle.std.proofs.Common.{◌≡◌, ℕ, nat_eq, [], ◌∷◌, refl, arith}
use Rattle.std.proofs.lemmas.Grind.{common_steps}
use Rattle.std.specs.Map.{remove_entry}
use Rattle.indexmap.specs.IndexMap.{insert_entry}
use Rattle.cbpf_machine.specs.declared.pause.When.{When}
use Rattle.cbpf_dbg.specs.Breakpoints.{Breakpoints, with_breakpoint, without_breakpoint}

-- the key that a map keeps is the number that is set
pub with_breakpoint_is : (bs : Breakpoints) (n : ℕ) (when : When) → insert_entry nat_eq bs n when ≡ with_breakpoint bs n when
with_breakpoint_is [] n when = refl
with_breakpoint_is (b ∷ bs) n when = grind (arith, common_steps, with_breakpoint_is bs n when)

pub without_breakpoint_is : (bs : Breakpoints) (n : ℕ) → remove_entry (nat_eq n) bs ≡ without_breakpoint bs n
without_breakpoint_is [] n = refl
without_breakpoint_is (b ∷ bs) n = rw (without_breakpoint_is bs n) refl
