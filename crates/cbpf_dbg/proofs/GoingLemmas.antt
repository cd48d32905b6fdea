-- Runs that go on, one after another.
use Rattle.std.proofs.Common.{◌≡◌, ℕ, ◌+◌, ◌-◌, ◌<◌, ◌≤◌, List, ◌∷◌, length, arith, sym, ap, ◌∙◌, refl}
use Rattle.std.proofs.Common.{Bool, true, false}
use Rattle.std.specs.Prelude.{Some, slice_get}
use Rattle.cbpf_machine.specs.Follow.{is_watched}
use Rattle.cbpf_machine.specs.Machine.{Machine}
use Rattle.cbpf_machine.specs.Registers.{Registers}
use Rattle.cbpf_machine.specs.Turn.{turn}
use Rattle.pcap_classic.specs.Records.{Record}
use Rattle.cbpf_reply.specs.declared.reply.Why.TheVariants as why
use Rattle.cbpf_dbg.specs.declared.cursor.Cursor.{Cursor}
use Rattle.cbpf_dbg.specs.declared.cursor.Walk.{Walk}
use Rattle.cbpf_dbg.specs.declared.loaded.Loaded.{Loaded}
use Rattle.cbpf_dbg.specs.Loaded.{machine_in, records_in, breakpoints_in}
use Rattle.cbpf_dbg.specs.Breakpoints.{Breakpoints}
use Rattle.cbpf_dbg.specs.Joined.{entries_after, is_hit_by, stops_after, stop_at, place_before}
use Rattle.cbpf_dbg.specs.Cursor.{Stands, Passes, entry_here}
use Rattle.cbpf_dbg.specs.Going.{Covers, GoesOn}
use Rattle.cbpf_dbg.proofs.CursorLemmas.{goes, entry_at_place}
use Rattle.cbpf_dbg.proofs.JoinedLemmas.{ahead-entry, not_before_after}

pub passes_more : (machine : Machine) (capture : List Record) (old mid new : Cursor) (m n k : ℕ)
    → Passes machine capture old mid m n → Passes machine capture mid new n k → Passes machine capture old new m k
passes_more machine capture old mid new m n k h then_ =
    record {
      stands = then_.stands;
      origin = then_.origin ∙ h.origin;
      order = not_before_after old.place mid.place new.place h.order then_.order;
      spent = then_.spent ∙ h.spent;
    }

module _ (machine : Machine) (capture : List Record) (w : Cursor) (r : Record) (h : Stands machine capture w)
    (begun : 0 < w.place.step) (at : slice_get capture (w.place.packet - 1) ≡ Some r) where
  -- the entry of a place is the first one from it on
  pub entry_first : entries_after machine capture (place_before w.place)
      ≡ entry_here machine r w ∷ entries_after machine capture w.place
  entry_first =
      let one : 1 ≤ w.place.packet = omega (arith, h.from_one, h.ordered) in
      let i : w.place.step - 1 + 1 ≡ w.place.step = omega (arith, begun) in
      rw i at (ahead-entry machine capture w.place.packet (w.place.step - 1) r w.state one at
      (entry_at_place machine capture w r h at begun))

  pub hits_hit : (breakpoints : Breakpoints) → is_hit_by breakpoints w.state (turn machine r.bytes r.wire w.state) ≡ true
      → stops_after machine capture breakpoints (place_before w.place)
      ≡ stop_at why.Break (entry_here machine r w) ∷ stops_after machine capture breakpoints w.place
  hits_hit breakpoints hit = rw (entry_first, hit) refl

module _ {A : Type 0} (l : Loaded A) where
  -- where it pauses at what the session watches, it pauses at each hit
  pub watches_hits : Covers (is_watched l.watched.now) (machine_in l) (breakpoints_in l)
  watches_hits = λ bytes wire s inside hit. l.watches.hits_are bytes wire s inside ∙ hit

  -- out of a packet, past no hit
  pub hits_out : (pauses : Registers → Bool) (old new : Walk) (m n : ℕ) → GoesOn l pauses old new m n false
      → Covers pauses (machine_in l) (breakpoints_in l)
      → stops_after (machine_in l) (records_in l) (breakpoints_in l) old.cursor.place
      ≡ stops_after (machine_in l) (records_in l) (breakpoints_in l) new.cursor.place
  hits_out pauses old new m n h covers =
      let e : new.cursor.place.step - 1 ≡ new.cursor.place.step = omega (arith, h.out refl) in
      h.hits covers ∙ ap (λ k. stops_after (machine_in l) (records_in l) (breakpoints_in l)
      (record { packet = new.cursor.place.packet; step = k })) e

  pub goes_more : (pauses : Registers → Bool) (old mid new : Walk) (m n k : ℕ) (paused : Bool)
      → GoesOn l pauses old mid m n false → GoesOn l pauses mid new n k paused → GoesOn l pauses old new m k paused
  goes_more pauses old mid new m n k paused h then_ =
      record {
        passes = passes_more _ _ _ _ _ _ _ _ h.passes then_.passes;
        hits = λ covers. hits_out pauses old mid m n h covers ∙ then_.hits covers;
        left = then_.left;
        ends = then_.ends;
        same = then_.same ∙ h.same;
        entry = then_.entry;
        out = then_.out;
      }

  -- where it pauses at what the session watches, that is the first hit
  pub at_hit : (old new : Walk) (m n : ℕ) → GoesOn l (is_watched l.watched.now) old new m n true
      → (r : Record) × (new.cursor.state.pc < length l.program.now)
      × (stops_after (machine_in l) (records_in l) (breakpoints_in l) old.cursor.place
      ≡ stop_at why.Break (entry_here (machine_in l) r new.cursor)
      ∷ stops_after (machine_in l) (records_in l) (breakpoints_in l) new.cursor.place)
  at_hit old new m n h =
      let here = h.entry refl in
      let at = h.passes.stands.at here.0 in
      let inside = (goes _ _ new.cursor at.0 h.passes.stands at.1 here.0).inside in (
        at.0,
        inside,
        h.hits watches_hits ∙ hits_hit _ _ new.cursor at.0 h.passes.stands here.0 at.1 _
            (sym (l.watches.hits_are at.0.bytes at.0.wire new.cursor.state inside) ∙ here.1),
      )
