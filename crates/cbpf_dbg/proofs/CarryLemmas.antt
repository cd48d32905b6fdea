-- The hits at an instruction, and breakpoints that change at one.
use Rattle.std.proofs.Common.{◌≡◌, ℕ, List, Bool, true, false, refl, ap, arith, inl, inr, ◌∙◌, ◌<◌, ◌≤◌, sym}
use Rattle.std.specs.Prelude.{Option, Some, None, is_some, nat_eq, ◌⊎◌, ◌||◌}
use Rattle.std.specs.Map.{lookup}
use Rattle.std.proofs.lemmas.Bool.Decides.{nat_tests}
use Rattle.cbpf_code.specs.declared.insn.Insn.{Insn}
use Rattle.cbpf_code.specs.Sound.{IsSound}
use Rattle.cbpf_machine.specs.Values.{Values}
use Rattle.cbpf_machine.specs.Follow.{Watching, HasRoom, IsSameAt, is_met, room_in}
use Rattle.cbpf_machine.specs.Registers.{Registers}
use Rattle.cbpf_machine.specs.Machine.{Machine, machine_of}
use Rattle.cbpf_machine.specs.Turn.{turn}
use Rattle.cbpf_machine.specs.declared.pause.When.{When}
use Rattle.cbpf_machine.specs.declared.pause.When.TheVariants.{Always}
use Rattle.cbpf_dbg.specs.Breakpoints.{Breakpoints, carries}
use Rattle.cbpf_dbg.specs.Joined.{asks, is_hit_by}
use Rattle.cbpf_dbg.specs.Session.{IsSameBut, IsKnown, KeepsRoom, Watches}

-- where an extension without a value is asked for each entry is a hit, and else those at a breakpoint
or_true : (b : Bool) → (b || true) ≡ true
or_true true = refl
or_true false = refl

or_false : (b : Bool) → (b || false) ≡ b
or_false true = refl
or_false false = refl

pub hits_unknown : (machine : Machine) (breakpoints : Breakpoints) (bytes : List ℕ) (wire : ℕ) (s : Registers)
    → asks (turn machine bytes wire s) ≡ true → is_hit_by breakpoints s (turn machine bytes wire s) ≡ true
hits_unknown machine breakpoints bytes wire s unknown = rw unknown (or_true (carries breakpoints s))

pub hits_carried : (machine : Machine) (breakpoints : Breakpoints) (bytes : List ℕ) (wire : ℕ) (s : Registers) (i : ℕ)
    (found : Option When) → asks (turn machine bytes wire s) ≡ false → s.pc ≡ i
    → lookup (nat_eq i) breakpoints ≡ found
    → is_hit_by breakpoints s (turn machine bytes wire s) ≡ is_met found s
hits_carried machine breakpoints bytes wire s i found known here is =
    let at : lookup (nat_eq s.pc) breakpoints ≡ found = rw here is in
    rw known (or_false (carries breakpoints s)) ∙ ap (λ o. is_met o s) at

differs : (i p : ℕ) → (p ≡ i → ⊥) → nat_eq i p ≡ false
differs i p h = grind (arith, nat_tests)

-- a map whose other entries stay
pub same-but : (i : ℕ) (before after : Breakpoints)
    → ((q : ℕ) → nat_eq i q ≡ false → lookup (nat_eq q) after ≡ lookup (nat_eq q) before) → IsSameBut i before after
same-but i before after others = λ s h.
    ap (λ found. is_met found s) (others s.pc (differs i s.pc h))

pub same_or_other : (p i : ℕ) → (p ≡ i) ⊎ (p ≡ i → ⊥)
same_or_other p i = by_test (nat_eq p i) refl
  where
    by_test : (b : Bool) → nat_eq p i ≡ b → (p ≡ i) ⊎ (p ≡ i → ⊥)
    by_test true e = inl (grind (arith, nat_tests))
    by_test false e = inr (λ q. grind (arith, nat_tests))

pub room-kept : (found : Option When) (i room : ℕ) → ((when : When) → found ≡ Some when → i < room)
    → HasRoom found i room
room-kept None i room keeps = tt
room-kept (Some Always) i room keeps = tt
room-kept (Some when) i room keeps = keeps when refl

pub room-there : (i : ℕ) (breakpoints : Breakpoints) (room : ℕ) (found : Option When)
    → lookup (nat_eq i) breakpoints ≡ found → is_some found ≡ true → KeepsRoom breakpoints room → i < room
room-there i breakpoints room None at is keeps = cc
room-there i breakpoints room (Some when) at is keeps = keeps i when at

pub room-more : (breakpoints : Breakpoints) (old new : ℕ) → old ≤ new → KeepsRoom breakpoints old
    → KeepsRoom breakpoints new
room-more breakpoints old new more keeps = λ i when at. let within = keeps i when at in omega arith

-- what is known of a program
module _ (needs_no_value : Bool) (old : Watching) (program : Option (List Insn)) (list : List Insn) (values : Values)
    (before : Breakpoints) (e : program ≡ Some list) (known : IsKnown needs_no_value old program values before) where
  held : IsKnown needs_no_value old (Some list) values before
  held = rw e at known

  -- it stays known where breakpoints change at one instruction
  pub known-at : (new : Watching) (after : Breakpoints)
      → (Watches old (machine_of list values) before → Watches new (machine_of list values) after)
      → KeepsRoom after (room_in new) → IsKnown needs_no_value new program values after
  known-at new after step room = rw e (held.0, step held.1, room, held.3)

  -- the room that is known to be there
  pub known-room : KeepsRoom before (room_in old)
  known-room = held.2

  pub known-sound : IsSound list
  known-sound = held.3

  -- more room
  pub known-more : (new : Watching) → ((i : ℕ) → IsSameAt i old new) → room_in old ≤ room_in new
      → IsKnown needs_no_value new program values before
  known-more new same more = rw e (
    held.0,
    record {
      hits_are = λ bytes wire s inside. ap (λ w. is_met w s) (same s.pc).watch ∙ held.1.hits_are bytes wire s inside;
      knows = λ i insn at. rw ((same i).code, (same i).first) (held.1.knows i insn at);
    },
    room-more before (room_in old) (room_in new) more held.2,
    held.3,
  )

-- room for all where one breakpoint changes
pub room-after : (i : ℕ) (before after : Breakpoints) (room : ℕ)
    → ((q : ℕ) → nat_eq i q ≡ false → lookup (nat_eq q) after ≡ lookup (nat_eq q) before)
    → ((when : When) → lookup (nat_eq i) after ≡ Some when → i < room) → KeepsRoom before room → KeepsRoom after room
room-after i before after room others here keeps = λ q when at. elim (same_or_other q i) [
  | inl same ↦ (let there : lookup (nat_eq i) after ≡ Some when = rw same at at in
      let within = here when there in omega arith)
  | inr other ↦ keeps q when (sym (others q (differs i q other)) ∙ at)
]
