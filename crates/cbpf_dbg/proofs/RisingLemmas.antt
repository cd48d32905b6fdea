-- The places of the joined list rise.
use Rattle.std.proofs.Common.{◌≡◌, ℕ, ◌+◌, ◌≤◌, List, [], ◌∷◌, ◌++◌, Bool, true, false, cond, arith, refl}
use Rattle.std.specs.Prelude.{filter, map}
use Rattle.std.specs.List.{All}
use Rattle.std.proofs.lemmas.Bool.Decides.{nat_tests}
use Rattle.std.proofs.lemmas.List.Elements.{All-append, All-cons, All-filter, All-map, All-head, All-tail, All-weaker}
use Rattle.cbpf_machine.specs.Machine.{Machine}
use Rattle.cbpf_machine.specs.Registers.{Registers}
use Rattle.cbpf_machine.specs.Trace.{trace}
use Rattle.pcap_classic.specs.Records.{Record}
use Rattle.cbpf_reply.specs.declared.reply.Place.{Place}
use Rattle.cbpf_reply.specs.declared.reply.Stop.{Stop}
use Rattle.cbpf_reply.specs.declared.reply.Why.TheVariants as why
use Rattle.cbpf_reply.specs.Places.{is_before}
use Rattle.cbpf_dbg.specs.Joined.{Entry, entries_from, packet_entries, joined_from, joined, entries_after, is_hit, stop_at}
use Rattle.cbpf_dbg.specs.Joined.{stops_of}
use Rattle.cbpf_dbg.specs.Laws.{Rises, EntriesRise, StopsRise, RestRises}
use Rattle.cbpf_dbg.specs.Breakpoints.{Breakpoints}
use Rattle.cbpf_dbg.proofs.JoinedLemmas.{entry}

-- an entry of the packet at this step or a later one
abbrev pub From : ℕ → ℕ → Entry → Type 0
From p k e = (e.place.packet ≡ p) × (k ≤ e.place.step)

pub entries-from : (machine : Machine) (r : Record) (p k : ℕ) (xs : List Registers)
    → All (From p k) (entries_from machine r p k xs)
entries-from machine r p k [] = λ i d h. absurd (omega arith)
entries-from machine r p k (x ∷ xs) =
    All-cons (From p k) (entry machine r p k x) (entries_from machine r p (k + 1) xs) (refl, omega arith)
    (All-weaker (From p (k + 1)) (From p k) (λ e h. let step = h.1 in (h.0, omega arith))
    (entries_from machine r p (k + 1) xs) (entries-from machine r p (k + 1) xs))

joined-from : (machine : Machine) (q : ℕ) (capture : List Record)
    → All (λ (e : Entry). q ≤ e.place.packet) (joined_from machine q capture)
joined-from machine q [] = λ i d h. absurd (omega arith)
joined-from machine q (r ∷ more) =
    All-append (λ (e : Entry). q ≤ e.place.packet) (packet_entries machine r q) (joined_from machine (q + 1) more)
    (All-weaker (From q 1) (λ (e : Entry). q ≤ e.place.packet) (λ e h. let same = h.0 in omega arith)
    (packet_entries machine r q) (entries-from machine r q 1 (trace machine r.bytes r.wire)))
    (All-weaker (λ (e : Entry). q + 1 ≤ e.place.packet) (λ (e : Entry). q ≤ e.place.packet) (λ e h. omega arith)
    (joined_from machine (q + 1) more) (joined-from machine (q + 1) more))

abbrev Above : Entry → Entry → Type 0
Above d e = is_before d.place e.place ≡ true

entries-rise : (machine : Machine) (r : Record) (p k : ℕ) (xs : List Registers)
    → Rises (λ (e : Entry). e.place) (entries_from machine r p k xs)
entries-rise machine r p k [] = tt
entries-rise machine r p k (x ∷ xs) = (
  All-weaker (From p (k + 1)) (Above (entry machine r p k x))
      (λ e h. let same = h.0 in let more = h.1 in grind (arith, nat_tests)) (entries_from machine r p (k + 1) xs)
      (entries-from machine r p (k + 1) xs),
  entries-rise machine r p (k + 1) xs,
)

rise-append : {X : Type 0} (at : X → Place) (xs ys : List X) → Rises at xs → Rises at ys
    → All (λ x. All (λ y. is_before (at x) (at y) ≡ true) ys) xs → Rises at (xs ++ ys)
rise-append at [] ys h g all = g
rise-append at (x ∷ xs) ys h g all = (
  All-append (λ y. is_before (at x) (at y) ≡ true) xs ys h.0
      (All-head (λ x. All (λ y. is_before (at x) (at y) ≡ true) ys) x xs all),
  rise-append at xs ys h.1 g (All-tail (λ x. All (λ y. is_before (at x) (at y) ≡ true) ys) x xs all),
)

joined-rise : (machine : Machine) (q : ℕ) (capture : List Record)
    → Rises (λ (e : Entry). e.place) (joined_from machine q capture)
joined-rise machine q [] = tt
joined-rise machine q (r ∷ more) =
    rise-append (λ (e : Entry). e.place) (packet_entries machine r q) (joined_from machine (q + 1) more)
    (entries-rise machine r q 1 (trace machine r.bytes r.wire)) (joined-rise machine (q + 1) more)
    (All-weaker (From q 1) (λ (d : Entry). All (Above d) (joined_from machine (q + 1) more))
    (λ d h. All-weaker (λ (e : Entry). q + 1 ≤ e.place.packet) (Above d)
    (λ e g. let same = h.0 in grind (arith, nat_tests)) (joined_from machine (q + 1) more)
    (joined-from machine (q + 1) more)) (packet_entries machine r q)
    (entries-from machine r q 1 (trace machine r.bytes r.wire)))

pub entries_rise : EntriesRise
unfolding joined
entries_rise machine capture = joined-rise machine 1 capture

rise-cond : {X : Type 0} (at : X → Place) (f : X → Bool) (b : Bool) (x : X) (xs : List X)
    → All (λ y. is_before (at x) (at y) ≡ true) xs → Rises at (filter f xs)
    → Rises at (cond b (x ∷ filter f xs) (filter f xs))
rise-cond at f true x xs all h = (All-filter f (λ y. is_before (at x) (at y) ≡ true) xs all, h)
rise-cond at f false x xs all h = h

rise-filter : {X : Type 0} (at : X → Place) (f : X → Bool) (xs : List X) → Rises at xs → Rises at (filter f xs)
rise-filter at f [] h = tt
rise-filter at f (x ∷ xs) h = rise-cond at f (f x) x xs h.0 (rise-filter at f xs h.1)

rise-stops : (es : List Entry) → Rises (λ (e : Entry). e.place) es
    → Rises (λ (h : Stop). h.place) (map (stop_at why.Break) es)
rise-stops [] h = tt
rise-stops (e ∷ es) h = (
  All-map (λ (s : Stop). is_before e.place s.place ≡ true) (stop_at why.Break) es h.0,
  rise-stops es h.1,
)

rise-hits : (breakpoints : Breakpoints) (es : List Entry) → Rises (λ (e : Entry). e.place) es
    → Rises (λ (h : Stop). h.place) (stops_of breakpoints es)
rise-hits breakpoints es h =
    rise-stops (filter (is_hit breakpoints) es) (rise-filter (λ (e : Entry). e.place) (is_hit breakpoints) es h)

pub stops_rise : StopsRise
stops_rise machine capture breakpoints = rise-hits breakpoints (joined machine capture) (entries_rise machine capture)

pub rest_rises : RestRises
rest_rises machine capture breakpoints place =
    rise-hits breakpoints (entries_after machine capture place) (rise-filter (λ (e : Entry). e.place)
    (λ (e : Entry). is_before place e.place) (joined machine capture) (entries_rise machine capture))
