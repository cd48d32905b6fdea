-- How a step nears the entry that it seeks.
use Rattle.std.proofs.Common.{◌≡◌, ℕ, zero, suc, ◌+◌, ◌-◌, ◌*◌, ◌<◌, ◌≤◌, ◌++◌, List, [], length, length-append, arith}
use Rattle.std.proofs.Common.{append_assoc, sym, ap, ◌∙◌, refl, ◌^◌, ◌/◌, Bool, true, false, drop, length-drop, subst}
use Rattle.cbpf_code.specs.declared.checker.TheConstants.{MAX_INSTRUCTIONS}
use Rattle.cbpf_machine.specs.declared.follow.Followed.{Followed}
use Rattle.cbpf_machine.specs.declared.follow.Followed.TheVariants.{Paused, Ended}
use Rattle.cbpf_machine.specs.Follow.{follow_by}
use Rattle.cbpf_machine.proofs.ByLemmas.{by_comes, by_ends}
use Rattle.cbpf_dbg.specs.declared.cursor.Moved.TheVariants as moved
use Rattle.std.specs.Prelude.{slice_get, min, Some}
use Rattle.std.proofs.lemmas.Nat.{le-div, mul-le}
use Rattle.std.proofs.Math.Nat.{div-mul-le_self}
use Rattle.cbpf_machine.specs.Machine.{Machine}
use Rattle.cbpf_machine.specs.Registers.{Registers, zero_state}
use Rattle.cbpf_machine.specs.Trace.{trace, outcome}
use Rattle.cbpf_machine.proofs.SoundLemmas.{sound_some}
use Rattle.cbpf_machine.proofs.TraceLemmas.{length-trace_from}
use Rattle.cbpf_code.specs.Sound.{IsSound}
use Rattle.pcap_classic.specs.Records.{Record}
use Rattle.cbpf_reply.specs.declared.reply.Place.{Place}
use Rattle.cbpf_dbg.specs.declared.cursor.Cursor.{Cursor}
use Rattle.cbpf_dbg.specs.declared.cursor.Walk.{Walk}
use Rattle.cbpf_dbg.specs.declared.loaded.Loaded.{Loaded}
use Rattle.cbpf_dbg.specs.Loaded.{machine_in, records_in}
use Rattle.cbpf_dbg.specs.Going.{GoesOn}
use Rattle.cbpf_dbg.specs.Joined.{Entry, entries_after, packet_entries}
use Rattle.cbpf_dbg.specs.Cursor.{Stands, Nears, Passes, GoesOnBy, GoesOut, entry_here, followed, moved_by, passed}
use Rattle.cbpf_dbg.proofs.JoinedLemmas.{place_at, ahead-whole, ahead-entry, ahead-leave, not_before_on, not_before_past}
use Rattle.cbpf_dbg.proofs.RecordsLeftLemmas.{at_end}
use Rattle.cbpf_dbg.proofs.FollowLemmas.{item_within, ahead_long, step_within, steps_few}
use Rattle.cbpf_dbg.proofs.CursorLemmas.{packet_from_one, entry_at_place, stands_at, stands-passed}
use Rattle.std.proofs.lemmas.Option.{slice_get_within}
use Rattle.cbpf_dbg.proofs.GoingLemmas.{passes_more}
use Rattle.cbpf_dbg.proofs.RunLemmas.{slice_get-past}
use Rattle.cbpf_dbg.proofs.TurnCountLemmas.{length_entries}

module _ (machine : Machine) (capture : List Record) where
  pub nears_none : (w : Cursor) (n spent : ℕ) → Stands machine capture w → 1 ≤ n
      → Nears machine capture w w n n spent spent
  nears_none w n spent h some =
      record {
        passes = record { stands = h; origin = refl; order = not_before_on w.place w.place refl (omega arith); spent = refl };
        some = some;
        sought = refl;
        fewer = omega arith;
      }

  pub nears_more : (old mid new : Cursor) (n m ahead before between after : ℕ)
      → Nears machine capture old mid n m before between → Nears machine capture mid new m ahead between after
      → Nears machine capture old new n ahead before after
  nears_more old mid new n m ahead before between after h k =
      record {
        passes = passes_more _ _ _ _ _ _ _ _ h.passes k.passes;
        some = k.some;
        sought = h.sought ∙ k.sought;
        fewer = omega (arith, h.fewer, k.fewer);
      }

  -- the entries of so many packets
  packets_entries : (n p : ℕ) → IsSound machine.list → 1 ≤ p → n + p ≤ length capture + 1 → (es : List Entry)
      × (entries_after machine capture (place_at p 0) ≡ es ++ entries_after machine capture (place_at (n + p) 0))
      × (length es ≤ n * length machine.list)
  packets_entries zero p sound one within =
      let same : p ≡ zero + p = omega arith in
      ([], ap (λ q. entries_after machine capture (place_at q 0)) same, omega arith)
  packets_entries (suc n) p sound one within =
      let r = item_within capture (p - 1) (omega (arith, within, one)) in
      let on : n + (p + 1) ≡ suc n + p = omega arith in
      let others = packets_entries n (p + 1) sound (omega arith) (omega (arith, within)) in
      let es : List Entry = packet_entries machine r.0 p in (
        es ++ others.0,
        ahead-whole machine capture p r.0 one r.1 ∙ ap (λ ds. es ++ ds) others.1
            ∙ sym (append_assoc es others.0 (entries_after machine capture (place_at (n + (p + 1)) 0)))
            ∙ ap (λ q. (es ++ others.0) ++ entries_after machine capture (place_at q 0)) on,
        omega (
          arith,
          length-append es others.0,
          others.2,
          length_entries machine r.0 p 1 (trace machine r.0.bytes r.0.wire),
          length-trace_from machine r.0.bytes r.0.wire zero_state,
        ),
      )

  -- past so many packets, which have fewer entries
  nears_past : (w v : Cursor) (ahead n before after : ℕ) → Passes machine capture w v before after → w.place.step ≡ 0
      → v.place ≡ place_at (n + w.place.packet) 0 → n * length machine.list < ahead → 1 ≤ w.place.packet
      → (before ≤ after) × (after - before < ahead) × Nears machine capture w v ahead (ahead - (after - before)) before after
  nears_past w v ahead n before after h step to few one =
      let p : ℕ = w.place.packet in
      let packet : v.place.packet ≡ n + p = ap (λ (q : Place). q.packet) to in
      let es = packets_entries n p h.stands.sound one (omega (arith, packet, h.stands.within)) in
      let start : entries_after machine capture w.place ≡ es.0 ++ entries_after machine capture v.place =
      ap (λ i. entries_after machine capture (place_at p i)) step ∙ es.1
      ∙ ap (λ q. es.0 ++ entries_after machine capture q) (sym to) in
      let fewer : length (entries_after machine capture w.place) ≡ length es.0 + length (entries_after machine capture v.place) =
      ap length start ∙ length-append es.0 (entries_after machine capture v.place) in
      let made : after ≡ before + length es.0 =
      omega (arith, fewer, h.spent, step, ap (λ (q : Place). q.step) to) in
      let long : length es.0 ≡ after - before = omega (arith, made) in
      let more : after - before < ahead = omega (arith, long, es.2, few) in (
        omega (arith, made),
        more,
        record {
          passes = h;
          some = omega (arith, more);
          sought = ap (λ xs. slice_get xs (ahead - 1)) start
              ∙ slice_get-past es.0 (entries_after machine capture v.place) (after - before) ahead long more;
          fewer = omega (arith, fewer);
        },
      )

-- on in a packet
module _ (machine : Machine) (capture : List Record) (w : Cursor) (r : Record) (h : Stands machine capture w)
    (at : slice_get capture (w.place.packet - 1) ≡ Some r) where
  -- past n of the packet's entries
  ahead_past : (n k m : ℕ) → k + n ≤ length (trace machine r.bytes r.wire)
      → slice_get (entries_after machine capture (place_at w.place.packet k)) (n + m)
      ≡ slice_get (entries_after machine capture (place_at w.place.packet (k + n))) m
  ahead_past zero k m within =
      let i : k + 0 ≡ k = omega arith in
      let j : 0 + m ≡ m = omega arith in
      rw (i, j) refl
  ahead_past (suc n) k m within =
      let s = item_within (trace machine r.bytes r.wire) k (omega (arith, within)) in
      let first = ahead-entry machine capture w.place.packet k r s.0 (packet_from_one machine capture w r h at) at s.1 in
      let i : k + suc n ≡ k + 1 + n = omega arith in
      let j : suc n + m ≡ suc (n + m) = omega arith in
      rw (i, j, first) (ahead_past n (k + 1) m (omega (arith, within)))

  module _ (v : Cursor) (n before after : ℕ) (stands : Stands machine capture v) (origin : v.origin ≡ w.origin) where
    -- to the entry that is sought
    pub finds : v.place ≡ record { packet = w.place.packet; step = w.place.step + n } → 1 ≤ n
        → slice_get (entries_after machine capture w.place) (n - 1) ≡ Some (entry_here machine r v)
    finds place some =
        let packet : v.place.packet ≡ w.place.packet = ap (λ (q : Place). q.packet) place in
        let step : v.place.step ≡ w.place.step + n = ap (λ (q : Place). q.step) place in
        let entry = entry_at_place machine capture v r stands (rw packet at) (omega (arith, step, some)) in
        let i : v.place.step - 1 ≡ w.place.step + (n - 1) = omega (arith, step, some) in
        let there = rw i at entry in
        let within = slice_get_within (trace machine r.bytes r.wire) (w.place.step + (n - 1)) v.state there in
        let j : n - 1 + 0 ≡ n - 1 = omega arith in
        let k : w.place.step + (n - 1) + 1 ≡ w.place.step + n = omega (arith, some) in
        let first = ahead-entry machine capture w.place.packet (w.place.step + (n - 1)) r v.state
        (packet_from_one machine capture w r h at) at there in
        rw j at (ahead_past (n - 1) w.place.step 0 (omega (arith, within)))
        ∙ rw first (rw (k, ← place) refl)

    pub passes_on : v.place ≡ record { packet = w.place.packet; step = w.place.step + n } → 1 ≤ n
        → after + 1 ≡ before + n + min w.place.step 1 → Passes machine capture w v before after
    passes_on place some turns =
        let packet : v.place.packet ≡ w.place.packet = ap (λ (q : Place). q.packet) place in
        let step : v.place.step ≡ w.place.step + n = ap (λ (q : Place). q.step) place in
        let entry = entry_at_place machine capture v r stands (rw packet at) (omega (arith, step, some)) in
        let within = slice_get_within (trace machine r.bytes r.wire) (v.place.step - 1) v.state entry in
        record {
          stands = stands;
          origin = origin;
          order = not_before_on w.place v.place packet (omega (arith, step));
          spent = rw place (omega (
            arith,
            turns,
            some,
            step,
            ahead_long machine capture w r h at w.place.step (step_within machine capture w r h at),
            ahead_long machine capture w r h at (w.place.step + n) (omega (arith, within, step, some)),
          ));
        }

    -- out of the packet
    pub nears_out : (ahead : ℕ) → v.place ≡ record { packet = w.place.packet + 1; step = 0 } → 1 ≤ ahead
        → w.place.step + n ≡ length (trace machine r.bytes r.wire) + ahead
        → after + w.place.step ≡ before + length (trace machine r.bytes r.wire) + min w.place.step 1
        → Nears machine capture w v n ahead before after
    nears_out ahead place some sum turns =
        let long = length (trace machine r.bytes r.wire) in
        let within = step_within machine capture w r h at in
        let all = ahead_long machine capture w r h at w.place.step within in
        let leave = ahead-leave machine capture w.place.packet (length (trace machine r.bytes r.wire)) r
        (packet_from_one machine capture w r h at) at (omega arith) in
        let i : n - 1 ≡ length (trace machine r.bytes r.wire) - w.place.step + (ahead - 1) = omega (arith, sum, within, some) in
        let k : w.place.step + (length (trace machine r.bytes r.wire) - w.place.step) ≡ length (trace machine r.bytes r.wire) =
        omega (arith, within) in
        record {
          passes = record {
            stands = stands;
            origin = origin;
            order = not_before_past w.place v.place (omega (arith, ap (λ (q : Place). q.packet) place));
            spent = rw place (omega (arith, turns, all, ap length leave, within));
          };
          some = some;
          sought = rw (place, i) (ahead_past (length (trace machine r.bytes r.wire) - w.place.step) w.place.step (ahead - 1)
              (omega (arith, within)) ∙ rw (k, leave) refl);
          fewer = rw place (omega (arith, all, ap length leave, within));
        }

-- into a packet, unless it has begun, and on there
module _ (machine : Machine) (capture : List Record) (w : Cursor) (r : Record) (h : Stands machine capture w)
    (at : slice_get capture (w.place.packet - 1) ≡ Some r) (mid v : Cursor) (ahead further before after : ℕ)
    (stands : Stands machine capture v) (origin : v.origin ≡ w.origin) (packet : mid.place.packet ≡ w.place.packet)
    (step : mid.place.step + min w.place.step 1 ≡ w.place.step + 1) (sum : mid.place.step + further ≡ w.place.step + ahead)
    (some : 1 ≤ ahead) where
  pub steps_to : GoesOnBy mid v further before after → Passes machine capture w v before after
      × (slice_get (entries_after machine capture w.place) (ahead - 1) ≡ Some (entry_here machine r v))
  steps_to on =
      let place : v.place ≡ record { packet = w.place.packet; step = w.place.step + ahead } =
      on.place ∙ rw (packet, sum) refl in (
        passes_on machine capture w r h at v ahead before after stands origin place some (omega (arith, on.spent, sum, step)),
        finds machine capture w r h at v ahead before after stands origin place some,
      )

  pub steps_out : (more : ℕ) → GoesOut (length (trace machine r.bytes r.wire)) mid v further more before after
      → Nears machine capture w v ahead more before after
  steps_out more out =
      let place : v.place ≡ record { packet = w.place.packet + 1; step = 0 } = out.place ∙ rw packet refl in
      nears_out machine capture w r h at v ahead before after stands origin more place out.some
      (omega (arith, out.sum, sum)) (omega (arith, out.spent, step))

-- from an entry of a packet on
module _ (machine : Machine) (capture : List Record) (w : Cursor) (r : Record) (h : Stands machine capture w)
    (at : slice_get capture (w.place.packet - 1) ≡ Some r) (begun : 0 < w.place.step) where
  abbrev steps : List Registers
  steps = trace machine r.bytes r.wire

  -- the steps can be counted
  pub steps_fit_by : (most m : ℕ) (s : Registers)
      → (Paused m, s) ≡ follow_by most (drop w.place.step steps) (outcome machine r.bytes r.wire) w.state
      → w.place.step + m ≤ MAX_INSTRUCTIONS
  steps_fit_by most m s follows =
      let to = by_comes steps w.place.step begun _ w.state most m s (entry_at_place machine capture w r h at begun) follows in
      omega (arith, to.0, slice_get_within steps (w.place.step + most - 1) s to.1, steps_few machine capture w r h at, begun)

  module _ (s : Registers) (v : Cursor) (most n before after : ℕ) (is_most : most ≡ min n MAX_INSTRUCTIONS)
      (turns : after ≡ before + min most (length (drop w.place.step steps) + 1)) where
    -- by so many entries
    pub on_by : (f : Followed) → moved.Entry ≡ moved_by f → v ≡ followed (record w { state = s }) f
        → (f, s) ≡ follow_by most (drop w.place.step steps) (outcome machine r.bytes r.wire) w.state
        → Stands machine capture v × GoesOnBy w v n before after
    on_by (Paused m) moves e follows =
        let to = by_comes steps w.place.step begun _ w.state most m s (entry_at_place machine capture w r h at begun) follows in
        let within = slice_get_within steps (w.place.step + most - 1) s to.1 in
        let few = steps_few machine capture w r h at in
        let all : m ≡ n = omega (arith, to.0, is_most, within, few, begun) in
        let i : w.place.step + m - 1 ≡ w.place.step + most - 1 = omega (arith, to.0) in (
          subst (λ u. Stands machine capture u) (sym e) (stands_at machine capture w r h at (w.place.step + m) s (rw i to.1)),
          record {
            place = rw e (rw all refl);
            spent = omega (arith, turns, length-drop w.place.step steps, within, all, to.0, begun);
          },
        )
    on_by (Ended o) moves e follows = absurd cc

    -- or out of the packet
    pub out_by : (f : Followed) → moved.Packet ≡ moved_by f → v ≡ followed (record w { state = s }) f
        → (f, s) ≡ follow_by most (drop w.place.step steps) (outcome machine r.bytes r.wire) w.state
        → Stands machine capture v × GoesOut (length steps) w v n (n - (after - before - 1)) before after
    out_by (Paused m) moves e follows = absurd cc
    out_by (Ended o) moves e follows =
        let within = step_within machine capture w r h at in
        let of = by_ends steps w.place.step begun _ w.state most o s within follows in
        let same : passed w (outcome machine r.bytes r.wire) ≡ passed (record w { state = s }) o = rw (of.1, of.2) refl in
        let made : after ≡ before + (length steps - w.place.step) + 1 =
        omega (arith, turns, length-drop w.place.step steps, of.0, within) in (
          subst (λ u. Stands machine capture u) (same ∙ sym e) (stands-passed machine capture w r h at),
          record {
            some = omega (arith, made, of.0, is_most, within);
            sum = omega (arith, made, of.0, is_most, within);
            place = rw e refl;
            spent = omega (arith, made, within);
          },
        )

-- the end of so many packets as have fewer entries than are ahead
end_of_packets : (p ahead longest : ℕ) {sum past end : ℕ} → 0 < longest → longest < ahead → p < past
    → past ≤ 2 ^ 60 → sum ≡ min (p + (ahead - 1) / longest) (2 ^ 64 - 1) → end ≡ min sum past
    → (p < end) × ((end - p) * longest < ahead)
end_of_packets p ahead longest {sum} {past} {end} pos more before few is_sum is_end =
    let q : ℕ = (ahead - 1) / longest in
    let some : 1 ≤ q = le-div 1 (ahead - 1) longest pos (omega (arith, more)) in
    let within : end - p ≤ q = omega (arith, is_sum, is_end) in
    let most = mul-le (end - p) longest q longest within (omega arith) in (
      omega (arith, is_sum, is_end, some, before, few),
      omega (arith, most, div-mul-le_self (ahead - 1) longest, more),
    )

-- a run without a pause goes to the end of so many packets as have fewer entries than are ahead
pub record GoesPast {A : Type 0} (l : Loaded A) (old new : Walk) (ahead before after : ℕ) : Type 0 where
  pub early : old.cursor.place.packet < old.end
  pub to : new.cursor.place ≡ place_at old.end 0
  pub rises : before ≤ after
  pub fewer : after - before < ahead
  pub nears : Nears (machine_in l) (records_in l) old.cursor new.cursor ahead (ahead - (after - before)) before after

pub goes_past : {A : Type 0} (l : Loaded A) (old new : Walk) (ahead before after : ℕ) (paused : Bool)
    {past sum : ℕ} → Stands (machine_in l) (records_in l) old.cursor → old.cursor.place.step ≡ 0
    → length l.program.now < ahead → old.cursor.place.packet < past → past ≡ length (records_in l) + 1
    → sum ≡ min (old.cursor.place.packet + (ahead - 1) / length l.program.now) (2 ^ 64 - 1) → old.end ≡ min sum past
    → GoesOn l (λ s. false) old new before after paused → (paused ≡ false → new.cursor.place.packet ≡ new.end)
    → GoesPast l old new ahead before after
goes_past l old new ahead before after true stands step more early is_past is_sum is_end h none =
    let never = (h.entry refl).1 in absurd cc
goes_past l old new ahead before after false stands step more early is_past is_sum is_end h none =
    let p : ℕ = old.cursor.place.packet in
    let one : 1 ≤ p = omega (arith, stands.from_one, stands.ordered) in
    let ends = end_of_packets p ahead (length l.program.now) (sound_some _ l.sound) more early
    (omega (arith, l.few, is_past)) is_sum is_end in
    let to : new.cursor.place ≡ place_at old.end 0 =
    rw h.same at (at_end _ _ _ h.ends (none refl)) in
    let e : old.end ≡ old.end - p + p = omega (arith, ends.0) in
    let past = nears_past _ _ old.cursor new.cursor ahead (old.end - p) before after h.passes step
    (to ∙ ap (λ q. place_at q 0) e) ends.1 one in
    record { early = ends.0; to = to; rises = past.0; fewer = past.1; nears = past.2 }
