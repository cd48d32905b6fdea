-- A cursor over the entries of a capture. No public clause names it.
use Rattle.std.specs.Prelude.{◌≡◌, ℕ, ◌+◌, ◌-◌, ◌≤◌, ◌<◌, List, ◌∷◌, length, slice_get, drop, Option, Some, None}
use Rattle.std.specs.Prelude.{min, ◌^◌, false}
use Rattle.cbpf_code.specs.Sound.{IsSound}
use Rattle.cbpf_machine.specs.Registers.{Registers, zero_state}
use Rattle.cbpf_machine.specs.declared.outcome.Outcome.{Outcome}
use Rattle.cbpf_machine.specs.declared.outcome.Outcome.TheVariants as outcome_is
use Rattle.cbpf_machine.specs.declared.follow.Followed.{Followed}
use Rattle.cbpf_machine.specs.declared.follow.Followed.TheVariants as followed_to
use Rattle.cbpf_machine.specs.Machine.{Machine}
use Rattle.cbpf_machine.specs.Turn.{turn}
use Rattle.cbpf_machine.specs.Trace.{trace, entry_at}
use Rattle.pcap_classic.specs.Records.{Record}
use Rattle.pcap_classic.specs.Savefile.{Savefile}
use Rattle.cbpf_reply.specs.declared.reply.Place.{Place}
use Rattle.cbpf_reply.specs.declared.reply.Counts.{Counts}
use Rattle.cbpf_reply.specs.Places.{is_before}
use Rattle.cbpf_dbg.specs.declared.cursor.Cursor.{Cursor}
use Rattle.cbpf_dbg.specs.declared.cursor.Moved.{Moved}
use Rattle.cbpf_dbg.specs.declared.cursor.Moved.TheVariants as moved
use Rattle.cbpf_dbg.specs.Breakpoints.{Breakpoints}
use Rattle.cbpf_dbg.specs.Joined.{Entry, entries_after, counts, stops_after, stop_at}
use Rattle.cbpf_reply.specs.declared.reply.RunReply.{RunReply}
use Rattle.cbpf_dbg.specs.View.{View}
use Rattle.cbpf_dbg.specs.Commands.{run_to, step_to, turns_in, entry_in, back_place}
use Rattle.cbpf_reply.specs.declared.reply.Stop.{Stop}
use Rattle.cbpf_reply.specs.declared.reply.Why.TheVariants as why

-- the state at a step of a packet
abbrev pub IsEntry : Machine → List Record → Place → Registers → Type 0
IsEntry machine capture place s =
    (r : Record) × (slice_get capture (place.packet - 1) ≡ Some r)
    × (entry_at (trace machine r.bytes r.wire) place.step ≡ Some s)

-- a cursor stands at its place, with the outcomes from its origin on
pub record Stands (machine : Machine) (capture : List Record) (w : Cursor) : Type 0 where
  pub sound : IsSound machine.list
  pub from_one : 1 ≤ w.origin
  pub ordered : w.origin ≤ w.place.packet
  pub within : w.place.packet ≤ length capture + 1
  pub at : 0 < w.place.step → IsEntry machine capture w.place w.state
  pub counted : w.counts ≡ counts machine capture w.origin w.place.packet

-- the cursor at a packet's first entry
abbrev pub entered : Cursor → Cursor
entered w = record w { place = record { packet = w.place.packet; step = 1 }; state = zero_state }

-- one more outcome can be counted
pub record Countable (packet : ℕ) (n : Counts) : Type 0 where
  pub packets : packet + 1 < 2 ^ 64
  pub passes : n.passes + 1 < 2 ^ 64
  pub fails : n.fails + 1 < 2 ^ 64
  pub unknown : n.unknown + 1 < 2 ^ 64

-- the counts with one more outcome
abbrev pub with_outcome : Counts → Outcome → Counts
with_outcome n (outcome_is.Pass v) = record n { passes = n.passes + 1 }
with_outcome n outcome_is.Fail = record n { fails = n.fails + 1 }
with_outcome n (outcome_is.Unknown e) = record n { unknown = n.unknown + 1 }

-- the cursor after a packet with this outcome
abbrev pub passed : Cursor → Outcome → Cursor
passed w outcome = record w {
  place = record { packet = w.place.packet + 1; step = 0 };
  counts = with_outcome w.counts outcome;
}

-- a cursor that already has the state to which its packet was followed: its place goes on by so many steps; or, at the
-- packet's end, past the packet
abbrev pub followed : Cursor → Followed → Cursor
followed w (followed_to.Paused n) = record w { place = record { packet = w.place.packet; step = w.place.step + n } }
followed w (followed_to.Ended o) = passed w o

abbrev pub moved_by : Followed → Moved
moved_by (followed_to.Paused n) = moved.Entry
moved_by (followed_to.Ended o) = moved.Packet

abbrev pub entry_here : Machine → Record → Cursor → Entry
entry_here machine r w = record { place = w.place; state = w.state; turn = turn machine r.bytes r.wire w.state }

-- how many turns are owed to the end: one for each entry ahead, and one for the entry of the place
abbrev pub owed : Machine → List Record → Place → ℕ
owed machine capture place = length (entries_after machine capture place) + min place.step 1

-- a session's view with its cursor at a place
abbrev pub view_at : Machine → Savefile → Breakpoints → Cursor → View
view_at machine c breakpoints w = record {
  program = Some machine.list;
  values = machine.values;
  capture = Some c;
  breakpoints = breakpoints;
  origin = w.origin;
  place = w.place;
}

-- what a run from a view's place answers, and where it ends
abbrev pub run_from : Machine → List Record → Option ℕ → View → RunReply × View
run_from machine capture limit m = run_to m machine capture limit (stops_after machine capture m.breakpoints m.place)

-- a command's reply, and the cursor after it, by what it answers from a view
pub record RepliesBy (machine : Machine) (c : Savefile) (breakpoints : Breakpoints) (answer : View → RunReply × View)
    (old new : Cursor) (reply : RunReply) : Type 0 where
  pub reply_is : reply ≡ (answer (view_at machine c breakpoints old)).0
  pub place_is : new.place ≡ (answer (view_at machine c breakpoints old)).1.place
  pub origin_is : new.origin ≡ (answer (view_at machine c breakpoints old)).1.origin

-- its turns
abbrev pub turns_of : Machine → Savefile → Breakpoints → (View → RunReply × View) → Cursor → ℕ
turns_of machine c breakpoints answer w =
    let m = view_at machine c breakpoints w in turns_in m machine c.records (answer m)

-- a run from a place ends before this packet, which is a later one where the place's has begun
pub record IsEnd (capture : List Record) (place : Place) (end : ℕ) : Type 0 where
  pub within : end ≤ length capture + 1
  pub most : place.packet ≤ end
  pub later : 0 < place.step → place.packet < end

-- the records from a place's packet on are left
pub record AreLeft (capture : List Record) (place : Place) (left : List Record) : Type 0 where
  pub is : left ≡ drop (place.packet - 1) capture

-- a cursor comes to the first hit before an end, or to the end past none
abbrev pub ComesTo : Machine → List Record → Breakpoints → ℕ → Cursor → Option Stop → Cursor → Type 0
ComesTo machine capture breakpoints end old None new =
    (new.place ≡ record { packet = end; step = 0 })
    × (stops_after machine capture breakpoints new.place ≡ stops_after machine capture breakpoints old.place)
ComesTo machine capture breakpoints end old (Some h) new =
    (new.place ≡ h.place) × (h.place.packet < end)
    × (stops_after machine capture breakpoints old.place ≡ h ∷ stops_after machine capture breakpoints new.place)

-- a cursor went on, by the turns that it owes no longer
pub record Passes (machine : Machine) (capture : List Record) (old new : Cursor) (spent_old spent_new : ℕ) :
    Type 0 where
  pub stands : Stands machine capture new
  pub origin : new.origin ≡ old.origin
  pub order : is_before new.place old.place ≡ false
  pub spent : spent_new + owed machine capture new.place ≡ spent_old + owed machine capture old.place

-- a cursor goes on; the n-th entry after the old place is the one with the number `ahead` after the new place
pub record Nears (machine : Machine) (capture : List Record) (old new : Cursor) (n ahead spent_old spent_new : ℕ) :
    Type 0 where
  pub passes : Passes machine capture old new spent_old spent_new
  pub some : 1 ≤ ahead
  pub sought : slice_get (entries_after machine capture old.place) (n - 1)
      ≡ slice_get (entries_after machine capture new.place) (ahead - 1)
  pub fewer : length (entries_after machine capture new.place) ≤ length (entries_after machine capture old.place)

-- a cursor goes on in its packet by n entries, from one of its entries, by a turn each
pub record GoesOnBy (old new : Cursor) (n spent_old spent_new : ℕ) : Type 0 where
  pub place : new.place ≡ record { packet = old.place.packet; step = old.place.step + n }
  pub spent : spent_new ≡ spent_old + n

-- From one of its entries a cursor goes out of its packet, which has so many steps, as fewer than n entries are ahead in it. The n-th entry after
-- the old place is the one with the number `ahead` after the new place.
pub record GoesOut (steps : ℕ) (old new : Cursor) (n ahead spent_old spent_new : ℕ) : Type 0 where
  pub some : 1 ≤ ahead
  pub sum : old.place.step + n ≡ steps + ahead
  pub place : new.place ≡ record { packet = old.place.packet + 1; step = 0 }
  pub spent : spent_new + old.place.step ≡ spent_old + steps + 1

-- a step back answers the entry at that step, and the cursor stands there
pub record StepsBack (machine : Machine) (capture : List Record) (old new : Cursor) (b : ℕ) (stop : Stop) :
    Type 0 where
  pub within : b < old.place.step
  pub entry : (e : Entry)
      × (entry_in machine (slice_get capture (old.place.packet - 1)) (back_place old.place b) ≡ Some e)
      × (stop ≡ stop_at why.Step e)
  pub place_is : new.place ≡ back_place old.place b
  pub origin_is : new.origin ≡ old.origin

-- the packet has too few entries before the place; this is the most that fits
pub record CannotStepBack (old new : Cursor) (b most : ℕ) : Type 0 where
  pub beyond : old.place.step ≤ b
  pub most_is : most ≡ old.place.step - 1
  pub same : new ≡ old

-- what a step on by n entries answers, and where it ends
abbrev pub step_from : Machine → List Record → ℕ → View → RunReply × View
step_from machine capture n m = step_to m machine capture (slice_get (entries_after machine capture m.place) (n - 1))
