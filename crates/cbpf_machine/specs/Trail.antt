-- What a trail stands for: a list of states, of which it may store only some, as one in STRIDE (this project's own).
use Rattle.std.specs.Prelude.{◌≡◌, ℕ, ◌+◌, ◌-◌, ◌*◌, ◌/◌, ◌<◌, ◌≤◌, List, length, take, slice_get}
use Rattle.cbpf_machine.specs.declared.mark_trail.TheConstants.{STRIDE}
use Rattle.cbpf_machine.specs.Registers.{Registers}

-- Of a list of at most k + n states only the length, the first k and the last one matter to what a trail stands for. So
-- a trail that stands for k states can do without up to n - 1 of the states that come next. Of these it is given only their
-- number, and then the state after them. `first_gap` and `gap` of a `Trail` answer such an n.
abbrev pub IgnoresBetween : {T : Type 0} → (T → List Registers → Type 0) → ℕ → ℕ → Type 0
IgnoresBetween {T} stands k n = (t : T) (xs ys : List Registers) → length xs ≡ length ys → length xs ≤ k + n
    → take k xs ≡ take k ys → slice_get xs (length xs - 1) ≡ slice_get ys (length ys - 1) → stands t xs → stands t ys

-- the stored states, and how many states the list has
pub record Checkpoints : Type 0 where
  pub checkpoints : List Registers
  pub count : ℕ

-- the first state of the list is stored, and from there on each that is STRIDE after the one before
pub record AreCheckpoints (c : Checkpoints) (xs : List Registers) : Type 0 where
  pub long : length xs ≡ c.count
  pub stored : length c.checkpoints ≡ (c.count + (STRIDE - 1)) / STRIDE
  pub at : (j : ℕ) → j < length c.checkpoints → slice_get c.checkpoints j ≡ slice_get xs (STRIDE * j)
