-- Moves of a cursor.
use Rattle.std.proofs.Common.{◌≡◌, ℕ, ◌-◌, ◌<◌, ◌≤◌, List, arith, subst, refl}
use Rattle.std.specs.Prelude.{Some, slice_get}
use Rattle.std.proofs.lemmas.Option.{slice_get_within}
use Rattle.cbpf_machine.specs.Machine.{Machine}
use Rattle.cbpf_machine.specs.Registers.{Registers, zero_state}
use Rattle.cbpf_machine.specs.Trace.{trace, outcome}
use Rattle.cbpf_machine.specs.OnPacket.{OnPacket, IsOnTrace}
use Rattle.cbpf_machine.proofs.TraceLemmas.{first_entry, goes_from_entry}
use Rattle.pcap_classic.specs.Records.{Record}
use Rattle.cbpf_reply.specs.declared.reply.Counts.{Counts}
use Rattle.cbpf_dbg.specs.declared.cursor.Cursor.{Cursor}
use Rattle.cbpf_dbg.specs.Joined.{counts}
use Rattle.cbpf_dbg.specs.Cursor.{Stands, entered, passed}
use Rattle.cbpf_dbg.proofs.CountLemmas.{counts-more}

-- what is known of a cursor and the record of its packet
module _ (machine : Machine) (capture : List Record) (w : Cursor) (r : Record) (h : Stands machine capture w)
    (at : slice_get capture (w.place.packet - 1) ≡ Some r) where
  abbrev task : OnPacket
  task = record { machine = machine; bytes = r.bytes; wire = r.wire }

  pub packet_from_one : 1 ≤ w.place.packet
  packet_from_one = omega (arith, h.from_one, h.ordered)

  -- a cursor of this packet stands where its state is an entry
  pub stands_at : (k : ℕ) (s : Registers) → slice_get (trace machine r.bytes r.wire) (k - 1) ≡ Some s
      → Stands machine capture (record w { place = record { packet = w.place.packet; step = k }; state = s })
  stands_at k s entry =
      record {
        sound = h.sound;
        from_one = h.from_one;
        ordered = h.ordered;
        within = h.within;
        at = λ _. (r, at, entry);
        counted = h.counted;
      }

  pub stands-passed : Stands machine capture (passed w (outcome machine r.bytes r.wire))
  stands-passed =
      let here = slice_get_within capture (w.place.packet - 1) r at in
      let more = counts-more machine capture w.origin w.place.packet r h.from_one h.ordered at in
      record {
        sound = h.sound;
        from_one = h.from_one;
        ordered = omega (arith, h.ordered);
        within = omega (arith, here, packet_from_one);
        at = λ (z : 0 < 0). absurd (omega arith);
        counted = rw (more, ← h.counted) refl;
      }

  pub entry_at_place : 0 < w.place.step → slice_get (trace machine r.bytes r.wire) (w.place.step - 1) ≡ Some w.state
  entry_at_place inside =
      let e = h.at inside in
      let same : e.0 ≡ r = cc in
      subst (λ (q : Record). slice_get (trace machine q.bytes q.wire) (w.place.step - 1) ≡ Some w.state) same e.2

  pub goes : 0 < w.place.step → IsOnTrace task (w.place.step - 1) w.state
  goes inside = goes_from_entry task h.sound (w.place.step - 1) w.state (entry_at_place inside)

  pub stands-entered : Stands machine capture (entered w)
  stands-entered = stands_at 1 zero_state (first_entry task h.sound)

pub counts-at : (machine : Machine) (capture : List Record) (n : ℕ)
    → ◌≡◌ {A = Counts} (record { passes = 0; fails = 0; unknown = 0 }) (counts machine capture n n)
unfolding counts
counts-at machine capture n = let z : n - n ≡ 0 = omega arith in rw z refl
