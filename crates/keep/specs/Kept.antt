-- How a session moves that keeps its stops and goes back to one.
use Rattle.std.specs.Prelude.{◌≡◌}
use Rattle.cbpf_dbg.specs.View.{View}

-- only the place differs, and the packet from which it counts
abbrev pub IsMoved : View → View → Type 0
IsMoved old new = new ≡ record old { place = new.place; origin = new.origin }
