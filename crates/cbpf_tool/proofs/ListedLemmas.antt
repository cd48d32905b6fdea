-- The number and the condition of a breakpoint, read one by one.
use Rattle.std.proofs.Common.{◌≡◌, ℕ, length, ◌<◌, ap, refl, slice_get, get_or}
use Rattle.std.specs.Prelude.{Option, Some, None}
use Rattle.std.specs.Option.{option_map}
use Rattle.std.proofs.lemmas.Option.{slice_get-get_or}
use Rattle.cbpf_dbg.specs.Breakpoints.{Breakpoints}
use Rattle.cbpf_reply.specs.Breakpoints.{When, Always}

pub listed_at : (found : Option (ℕ × When)) (n : ℕ) (when : When) → Some n ≡ option_map (λ b. b.0) found
    → Some when ≡ option_map (λ b. b.1) found → found ≡ Some (n, when)
listed_at None n when h k = absurd (cc)
listed_at (Some b) n when h k =
    let number : n ≡ b.0 = cc in
    let condition : when ≡ b.1 = cc in
    rw (number, condition) refl

-- below the length both are there
pub number_at : (all : Breakpoints) (i : ℕ) → i < length all
    → option_map (λ (b : ℕ × When). b.0) (slice_get all i) ≡ Some (get_or all i (0, Always)).0
number_at all i below = ap (option_map (λ (b : ℕ × When). b.0)) (slice_get-get_or all i (0, Always) below)

pub condition_at : (all : Breakpoints) (i : ℕ) → i < length all
    → option_map (λ (b : ℕ × When). b.1) (slice_get all i) ≡ Some (get_or all i (0, Always)).1
condition_at all i below = ap (option_map (λ (b : ℕ × When). b.1)) (slice_get-get_or all i (0, Always) below)
