-- Laws of the joined list (this project's own).
use Rattle.std.specs.Prelude.{◌≡◌, true, List, [], ◌∷◌}
use Rattle.std.specs.List.{All}
use Rattle.cbpf_machine.specs.Machine.{Machine}
use Rattle.pcap_classic.specs.Records.{Record}
use Rattle.cbpf_reply.specs.declared.reply.Place.{Place}
use Rattle.cbpf_reply.specs.Places.{is_before}
use Rattle.cbpf_dbg.specs.Breakpoints.{Breakpoints}
use Rattle.cbpf_dbg.specs.Joined.{joined, stops_in, stops_after}

-- each member of a list stands after all that come before it
abbrev pub Rises : {X : Type 0} → (X → Place) → List X → Type 0
Rises at [] = Unit {0}
Rises at (x ∷ xs) = All (λ y. is_before (at x) (at y) ≡ true) xs × Rises at xs

-- the entries of all packets rise, by packet, then step
abbrev pub EntriesRise : Type 0
EntriesRise = (machine : Machine) (capture : List Record) → Rises (λ e. e.place) (joined machine capture)

-- so do the stops of a capture, and those after a place
abbrev pub StopsRise : Type 0
StopsRise = (machine : Machine) (capture : List Record) (breakpoints : Breakpoints)
    → Rises (λ h. h.place) (stops_in machine capture breakpoints)

-- so do the stops after a place
abbrev pub RestRises : Type 0
RestRises = (machine : Machine) (capture : List Record) (breakpoints : Breakpoints) (place : Place)
    → Rises (λ h. h.place) (stops_after machine capture breakpoints place)
