-- What a trail stands for, as a cursor moves.
use Rattle.std.proofs.Common.{◌≡◌, ℕ, ◌+◌, ◌-◌, ◌<◌, List, [], ◌∷◌, ◌++◌, length, take, arith, refl, sym, subst}
use Rattle.std.proofs.Common.{length-take}
use Rattle.std.specs.Prelude.{Some, slice_get}
use Rattle.std.proofs.lemmas.Option.{slice_get_within}
use Rattle.cbpf_machine.specs.Machine.{Machine}
use Rattle.cbpf_machine.specs.Registers.{Registers}
use Rattle.cbpf_machine.specs.Trace.{trace}
use Rattle.pcap_classic.specs.Records.{Record}
use Rattle.cbpf_reply.specs.declared.reply.Place.{Place}
use Rattle.cbpf_dbg.specs.declared.cursor.Cursor.{Cursor}
use Rattle.cbpf_dbg.specs.Here.{Keeps}
use Rattle.cbpf_dbg.specs.Session.{KeepsTo}
use Rattle.cbpf_machine.specs.declared.follow.Followed.{Followed}
use Rattle.cbpf_machine.specs.declared.follow.Followed.TheVariants.{Paused, Ended}
use Rattle.cbpf_dbg.specs.declared.cursor.Moved.{Moved}
use Rattle.cbpf_dbg.specs.declared.cursor.Moved.TheVariants as moved
use Rattle.cbpf_dbg.specs.Cursor.{Stands, followed, moved_by}
use Rattle.cbpf_machine.proofs.ListLemmas.{take-slice_get}
use Rattle.cbpf_dbg.proofs.CursorLemmas.{entry_at_place}

pub keeps_push : (stands after : List Registers → Type 0) (machine : Machine) (capture : List Record) (old : Place)
    (w : Cursor) (r : Record) → Stands machine capture w
    → slice_get capture (w.place.packet - 1) ≡ Some r → w.place.packet ≡ old.packet → w.place.step ≡ old.step + 1
    → ((xs : List Registers) → stands xs → after (xs ++ w.state ∷ [])) → Keeps stands machine capture old
    → Keeps after machine capture w.place
keeps_push stands after machine capture old w r h at packet step pushed keeps = λ q there.
    let same : r ≡ q = cc in
    let before : slice_get capture (old.packet - 1) ≡ Some q = rw packet at there in
    let here = entry_at_place machine capture w q h there (omega (arith, step)) in
    let i : w.place.step - 1 ≡ old.step = omega (arith, step) in
    let entry : slice_get (trace machine q.bytes q.wire) old.step ≡ Some w.state = rw i at here in
    rw step (rw (take-slice_get (trace machine q.bytes q.wire) old.step w.state entry) (pushed _ (keeps q before)))

-- at an entry a trail keeps the packet's up to it
pub keeps_to : (stands : List Registers → Type 0) (machine : Machine) (capture : List Record) (w : Cursor) (r : Record)
    → Stands machine capture w → slice_get capture (w.place.packet - 1) ≡ Some r → 0 < w.place.step
    → Keeps stands machine capture w.place → KeepsTo stands (trace machine r.bytes r.wire) w.place.step w.state
keeps_to stands machine capture w r h at begun keeps = record {
  from_one = begun;
  entry = entry_at_place machine capture w r h at begun;
  stands = keeps r at;
}

pub keeps_clear : (after : List Registers → Type 0) (machine : Machine) (capture : List Record) (new : Place)
    → new.step ≡ 0 → after [] → Keeps after machine capture new
keeps_clear after machine capture new step h = λ r at. rw step h

-- after a packet was followed to an entry, whose step the trail keeps
pub keeps_followed : (after : List Registers → Type 0) (machine : Machine) (capture : List Record) (old : Cursor)
    (r : Record) → slice_get capture (old.place.packet - 1) ≡ Some r
    → (f : Followed) (s : Registers) (m : Moved) (v : Cursor) → v ≡ followed (record old { state = s }) f
    → m ≡ moved_by f
    → ((n : ℕ) → f ≡ Paused n → after (take (old.place.step + n) (trace machine r.bytes r.wire))) → m ≡ moved.Entry
    → Keeps after machine capture v.place
keeps_followed after machine capture old r at (Paused n) s m v e moves kept entry = λ q there.
    let here : slice_get capture (old.place.packet - 1) ≡ Some q =
    subst (λ (u : Cursor). slice_get capture (u.place.packet - 1) ≡ Some q) e there in
    let same : r ≡ q = cc in
    let all : after (take (old.place.step + n) (trace machine q.bytes q.wire)) =
    subst (λ (k : Record). after (take (old.place.step + n) (trace machine k.bytes k.wire))) same (kept n refl) in
    subst (λ (u : Cursor). after (take u.place.step (trace machine q.bytes q.wire))) (sym e) all
keeps_followed after machine capture old r at (Ended o) s m v e moves kept entry = cc

-- as many as stand for them
pub keeps_as_many : (stands : List Registers → Type 0) (xs : List Registers) (k : ℕ) (s : Registers) (kept : ℕ)
    → KeepsTo stands xs k s → ((ys : List Registers) → stands ys → length ys ≡ kept) → kept ≡ k
keeps_as_many stands xs k s kept at long =
    let from_one = at.from_one in
    omega (arith, slice_get_within xs (k - 1) s at.entry, long _ at.stands, length-take k xs, from_one)

-- as many as the place's step
pub kept_here : (stands : List Registers → Type 0) (machine : Machine) (capture : List Record) (w : Cursor) (r : Record)
    (kept : ℕ) → Stands machine capture w → slice_get capture (w.place.packet - 1) ≡ Some r → 0 < w.place.step
    → Keeps stands machine capture w.place → ((ys : List Registers) → stands ys → length ys ≡ kept) → kept ≡ w.place.step
kept_here stands machine capture w r kept h at begun keeps long = keeps_as_many stands (trace machine r.bytes r.wire)
    w.place.step w.state kept (keeps_to stands machine capture w r h at begun keeps) long
