-- The stops of a session are within its program and its capture.
use Rattle.std.proofs.Common.{◌≡◌, ℕ, ◌+◌, ◌-◌, ◌<◌, ◌≤◌, List, [], ◌∷◌, length, suc, arith, subst, refl, ap, cond}
use Rattle.std.proofs.Common.{Bool, true, false}
use Rattle.std.specs.Prelude.{Option, Some, None, slice_get, filter, nat_le}
use Rattle.std.specs.List.{All}
use Rattle.std.specs.Option.{option_map}
use Rattle.std.proofs.lemmas.List.Elements.{All-append, All-cons, All-filter, All-map, All-get_or, All-head}
use Rattle.std.proofs.lemmas.Option.{slice_get_within, get_or_from_slice_get}
use Rattle.cbpf_machine.specs.Machine.{Machine}
use Rattle.cbpf_code.specs.Sound.{IsSound}
use Rattle.cbpf_machine.specs.Registers.{Registers}
use Rattle.cbpf_machine.specs.Trace.{trace}
use Rattle.cbpf_machine.proofs.TraceLemmas.{goes_from_entry}
use Rattle.pcap_classic.specs.Records.{Record}
use Rattle.pcap_classic.specs.Savefile.{Savefile}
use Rattle.cbpf_reply.specs.declared.reply.Place.{Place}
use Rattle.cbpf_reply.specs.declared.reply.Stop.{Stop}
use Rattle.cbpf_reply.specs.declared.reply.Why.{Why}
use Rattle.cbpf_reply.specs.declared.reply.Why.TheVariants as why
use Rattle.cbpf_reply.specs.declared.reply.RunReply.{RunReply}
use Rattle.cbpf_reply.specs.declared.reply.RunReply.TheVariants.{Stopped, Limit, Finished}
use Rattle.cbpf_reply.specs.Places.{is_before}
use Rattle.cbpf_dbg.specs.declared.cursor.Cursor.{Cursor}
use Rattle.cbpf_dbg.specs.Joined.{Entry, entries_from, packet_entries, joined_from, joined, entries_after, stops_after}
use Rattle.cbpf_dbg.specs.Joined.{is_hit, stop_at}
use Rattle.cbpf_dbg.specs.View.{View}
use Rattle.cbpf_dbg.specs.Commands.{run_to, run_out, within_limit, stopped, finished, limited, step_to, entry_in}
use Rattle.cbpf_dbg.specs.Commands.{back_place}
use Rattle.cbpf_dbg.specs.Shown.{IsWithin, CanShow, Shows}
use Rattle.cbpf_dbg.specs.Cursor.{Stands, RepliesBy, run_from, step_from, StepsBack, view_at}
use Rattle.cbpf_dbg.proofs.JoinedLemmas.{entry}
use Rattle.cbpf_dbg.proofs.WholeLemmas.{HasLoaded}
use Rattle.cbpf_dbg.specs.Breakpoints.{Breakpoints}

-- an element has what all have
pub All-slice_get : {X : Type 0} (P : X → Type 0) (xs : List X) (i : ℕ) (x : X) → All P xs → slice_get xs i ≡ Some x → P x
All-slice_get P xs i x all e =
    subst P (get_or_from_slice_get xs i x x e) (All-get_or P xs i x (slice_get_within xs i x e) all)

-- an entry would be a stop within the program and the capture
abbrev EntryWithin : Machine → List Record → Why → Entry → Type 0
EntryWithin machine capture reason e = IsWithin machine.list capture (stop_at reason e)

module _ (machine : Machine) (capture : List Record) (reason : Why) where
  -- each state of a packet's run is inside the program
  within-entries : (r : Record) (p k : ℕ) (xs : List Registers) → 1 ≤ p → p ≤ length capture
      → ((i : ℕ) (s : Registers) → slice_get xs i ≡ Some s → s.pc < length machine.list)
      → All (EntryWithin machine capture reason) (entries_from machine r p k xs)
  within-entries r p k [] from_one inside states = λ i d h. absurd (omega arith)
  within-entries r p k (x ∷ xs) from_one inside states =
      All-cons (EntryWithin machine capture reason) (entry machine r p k x) (entries_from machine r p (k + 1) xs)
      (record { from_one = from_one; packet = inside; pc = states 0 x refl })
      (within-entries r p (k + 1) xs from_one inside (λ i s e. states (suc i) s e))

  module _ (sound : IsSound machine.list) where
    within-joined_from : (q : ℕ) (more : List Record) → 1 ≤ q → q + length more ≤ length capture + 1
        → All (EntryWithin machine capture reason) (joined_from machine q more)
    within-joined_from q [] from_one fits = λ i d h. absurd (omega arith)
    within-joined_from q (r ∷ more) from_one fits =
        All-append (EntryWithin machine capture reason) (packet_entries machine r q) (joined_from machine (q + 1) more)
        (within-entries r q 1 (trace machine r.bytes r.wire) from_one (omega (arith, fits))
        (λ i s here. (goes_from_entry _ sound i s here).inside))
        (within-joined_from (q + 1) more (omega arith) (omega (arith, fits)))

    within-joined : All (EntryWithin machine capture reason) (joined machine capture)
    unfolding joined
    within-joined = within-joined_from 1 capture (omega arith) (omega arith)

    within-ahead : (place : Place) → All (EntryWithin machine capture reason) (entries_after machine capture place)
    within-ahead place =
        All-filter (λ (e : Entry). is_before place e.place) (EntryWithin machine capture reason) (joined machine capture)
        within-joined

-- each hit ahead
within-rest : (machine : Machine) (capture : List Record) (breakpoints : Breakpoints) (place : Place)
    → IsSound machine.list → All (IsWithin machine.list capture) (stops_after machine capture breakpoints place)
within-rest machine capture breakpoints place sound =
    let entries = entries_after machine capture place in
    All-map (IsWithin machine.list capture) (stop_at why.Break) (filter (is_hit breakpoints) entries)
    (All-filter (is_hit breakpoints) (EntryWithin machine capture why.Break) entries
    (within-ahead machine capture why.Break sound place))

-- the stop of an answer, if it has one, is within the program and the capture
abbrev ReplyWithin : Machine → List Record → RunReply → Type 0
ReplyWithin machine capture (Stopped stop) = IsWithin machine.list capture stop
ReplyWithin machine capture (Limit n) = Unit {0}
ReplyWithin machine capture (Finished n) = Unit {0}

module _ (m : View) (machine : Machine) (capture : List Record) where
  within-out_at : (n : ℕ) (b : Bool) → ReplyWithin machine capture
      ((cond b (limited m machine capture (m.place.packet + n)) (finished m machine capture)).0)
  within-out_at n true = tt
  within-out_at n false = tt

  within-run_out : (limit : Option ℕ) → ReplyWithin machine capture ((run_out m machine capture limit).0)
  within-run_out None = tt
  within-run_out (Some n) = within-out_at n (nat_le (m.place.packet + n) (length capture))

  within-run_at : (limit : Option ℕ) (h : Stop) (b : Bool) → IsWithin machine.list capture h
      → ReplyWithin machine capture ((cond b (stopped m h) (run_out m machine capture limit)).0)
  within-run_at limit h true within = within
  within-run_at limit h false within = within-run_out limit

  within-run_to : (limit : Option ℕ) (hits : List Stop) → All (IsWithin machine.list capture) hits
      → ReplyWithin machine capture ((run_to m machine capture limit hits).0)
  within-run_to limit [] all = within-run_out limit
  within-run_to limit (h ∷ hits) all =
      within-run_at limit h (within_limit limit (h.place.packet - m.place.packet))
      (All-head (IsWithin machine.list capture) h hits all)

  within-step_to : (o : Option Entry) → ((e : Entry) → o ≡ Some e → EntryWithin machine capture why.Step e)
      → ReplyWithin machine capture ((step_to m machine capture o).0)
  within-step_to None h = tt
  within-step_to (Some e) h = h e refl

-- the entry of a packet at a step
within-entry_at : (machine : Machine) (capture : List Record) (place : Place) (r : Record) (o : Option Registers)
    (e : Entry) → 1 ≤ place.packet → place.packet ≤ length capture
    → ((s : Registers) → o ≡ Some s → s.pc < length machine.list)
    → option_map (λ (s : Registers). entry machine r place.packet place.step s) o ≡ Some e
    → EntryWithin machine capture why.Step e
within-entry_at machine capture place r None e from_one inside states is = absurd cc
within-entry_at machine capture place r (Some s) e from_one inside states is =
    let same : entry machine r place.packet place.step s ≡ e = cc in
    subst (EntryWithin machine capture why.Step) same
    (record { from_one = from_one; packet = inside; pc = states s refl })

within-entry_in : (machine : Machine) (capture : List Record) (place : Place) (o : Option Record) (e : Entry)
    → IsSound machine.list → 1 ≤ place.packet → slice_get capture (place.packet - 1) ≡ o
    → entry_in machine o place ≡ Some e → EntryWithin machine capture why.Step e
within-entry_in machine capture place None e sound from_one at is = absurd cc
within-entry_in machine capture place (Some r) e sound from_one at is =
    within-entry_at machine capture place r (slice_get (trace machine r.bytes r.wire) (place.step - 1)) e
    from_one (omega (arith, slice_get_within capture (place.packet - 1) r at, from_one))
    (λ s here. (goes_from_entry _ sound (place.step - 1) s here).inside) is

module _ (machine : Machine) (c : Savefile) (v : View) (h : HasLoaded machine c v) where
  shows-stop : (stop : Stop) → IsWithin machine.list c.records stop → CanShow v stop
  unfolding CanShow
  shows-stop stop within = rw (h.program, h.capture) within

  shows-reply : (reply : RunReply) → ReplyWithin machine c.records reply → Shows v reply
  shows-reply (Stopped stop) within = shows-stop stop within
  shows-reply (Limit n) within = tt
  shows-reply (Finished n) within = tt

  -- what a step back answers
  pub shows-step_back : (old new : Cursor) (b : ℕ) (stop : Stop) → Stands machine c.records new
      → StepsBack machine c.records old new b stop → CanShow v stop
  shows-step_back old new b stop stands back =
      let same : new.place.packet ≡ old.place.packet = ap (λ (p : Place). p.packet) back.place_is in
      let one : 1 ≤ old.place.packet = omega (arith, stands.from_one, stands.ordered, same) in
      let found = back.entry in
      shows-stop stop (rw found.2 (within-entry_in machine c.records (back_place old.place b)
      (slice_get c.records (old.place.packet - 1)) found.0 stands.sound one refl found.1))

  module _ (breakpoints : Breakpoints) (sound : IsSound machine.list) where
    -- the hits ahead
    pub shows-rest : (place : Place) → All (CanShow v) (stops_after machine c.records breakpoints place)
    shows-rest place = λ k d inside.
        shows-stop _ (within-rest machine c.records breakpoints place sound k d inside)

    -- what a run answers
    pub shows-run : (old new : Cursor) (limit : Option ℕ) (reply : RunReply)
        → RepliesBy machine c breakpoints (run_from machine c.records limit) old new reply → Shows v reply
    shows-run old new limit reply runs =
        shows-reply reply (rw runs.reply_is (within-run_to (view_at machine c breakpoints old) machine c.records limit
        (stops_after machine c.records breakpoints old.place) (within-rest machine c.records breakpoints old.place sound)))

    -- what a step on answers
    pub shows-step_on : (old new : Cursor) (n : ℕ) (reply : RunReply)
        → RepliesBy machine c breakpoints (step_from machine c.records n) old new reply → Shows v reply
    shows-step_on old new n reply steps =
        shows-reply reply (rw steps.reply_is (within-step_to (view_at machine c breakpoints old) machine c.records
        (slice_get (entries_after machine c.records old.place) (n - 1))
        (λ e is. All-slice_get (EntryWithin machine c.records why.Step) (entries_after machine c.records old.place) (n - 1) e
        (within-ahead machine c.records why.Step sound old.place) is)))
