-- Moves to the next hit.
use Rattle.std.proofs.Common.{◌≡◌, ℕ, zero, suc, ◌+◌, ◌-◌, ◌<◌, ◌≤◌, List, ◌∷◌, length, drop, arith, ap, subst, ◌∙◌, refl, inl}
use Rattle.std.proofs.Common.{inr, length-append, length-drop, Bool, true, false}
use Rattle.std.specs.Prelude.{Some, slice_get, min}
use Rattle.std.proofs.lemmas.Bool.{cases_lt}
use Rattle.std.proofs.lemmas.Option.{slice_get_cases, slice_get_within}
use Rattle.cbpf_code.specs.declared.checker.TheConstants.{MAX_INSTRUCTIONS}
use Rattle.cbpf_machine.specs.Machine.{Machine}
use Rattle.cbpf_machine.specs.Registers.{Registers, zero_state}
use Rattle.cbpf_machine.specs.declared.follow.Followed.{Followed}
use Rattle.cbpf_machine.specs.declared.follow.Followed.TheVariants.{Paused, Ended}
use Rattle.cbpf_machine.specs.Trace.{trace, outcome}
use Rattle.cbpf_machine.specs.Turn.{turn}
use Rattle.cbpf_machine.specs.Follow.{follow_ahead, unpaused_len}
use Rattle.cbpf_machine.specs.Together.{Unpaused}
use Rattle.cbpf_machine.proofs.FollowLemmas.{PausesFirst, ended_of, paused_of}
use Rattle.cbpf_machine.proofs.TraceLemmas.{goes_from_entry, length-trace_from}
use Rattle.cbpf_machine.proofs.SoundLemmas.{sound_few}
use Rattle.pcap_classic.specs.Records.{Record}
use Rattle.cbpf_dbg.specs.declared.cursor.Cursor.{Cursor}
use Rattle.cbpf_dbg.specs.declared.loaded.Loaded.{Loaded}
use Rattle.cbpf_dbg.specs.Loaded.{machine_in, records_in}
use Rattle.cbpf_dbg.specs.declared.cursor.Moved.TheVariants as moved
use Rattle.cbpf_dbg.specs.Breakpoints.{Breakpoints}
use Rattle.cbpf_dbg.specs.Joined.{entries_after, entries_from, is_hit_by, joined_from, stops_after, stops_of}
use Rattle.cbpf_dbg.specs.Cursor.{AreLeft, IsEnd, Stands, followed, moved_by, owed, passed}
use Rattle.cbpf_dbg.specs.Going.{Covers, GoesOn}
use Rattle.cbpf_dbg.proofs.JoinedLemmas.{place_at, ahead-in, ahead-entry, ahead-leave, not_before_on, not_before_past}
use Rattle.cbpf_dbg.proofs.RecordsLeftLemmas.{left_here, left_past}
use Rattle.cbpf_dbg.proofs.TurnCountLemmas.{length_entries}
use Rattle.cbpf_dbg.proofs.CursorLemmas.{packet_from_one, stands_at, stands-passed, entry_at_place}

-- a cursor so many entries on, in the same packet
abbrev pub moved_on : Cursor → ℕ → Registers → Cursor
moved_on w n s = followed (record w { state = s }) (Paused n)

-- where no run pauses there is no hit
not_covered : (pauses : Registers → Bool) (hit : Bool) (s : Registers) → (hit ≡ true → pauses s ≡ true)
    → pauses s ≡ false → hit ≡ false
not_covered pauses false s covers none = refl
not_covered pauses true s covers none = let some = covers refl in absurd cc

pub item_within : {X : Type 0} (xs : List X) (i : ℕ) → i < length xs → (x : X) × (slice_get xs i ≡ Some x)
item_within xs i h = elim (slice_get_cases xs i).1 [ inl found ↦ (found.0, found.2) | inr past ↦ absurd (omega arith) ]

module _ (machine : Machine) (capture : List Record) (w : Cursor) (r : Record) (h : Stands machine capture w)
    (at : slice_get capture (w.place.packet - 1) ≡ Some r) where
  from_one : 1 ≤ w.place.packet
  from_one = packet_from_one machine capture w r h at

  abbrev pub xs : List Registers
  xs = trace machine r.bytes r.wire

  pub step_within : w.place.step ≤ length xs
  step_within = elim (cases_lt 0 w.place.step) [
    | inl begun ↦
        omega (arith, slice_get_within xs (w.place.step - 1) w.state (entry_at_place machine capture w r h at begun))
    | inr before ↦ omega (arith, before)
  ]

  pub steps_few : length xs ≤ MAX_INSTRUCTIONS
  steps_few = omega (arith, length-trace_from machine r.bytes r.wire zero_state, sound_few machine.list h.sound)

  -- the entries ahead are those of the packet, and those of the later packets
  pub ahead_long : (k : ℕ) → k ≤ length xs → length (entries_after machine capture (place_at w.place.packet k)) + k
      ≡ length xs + length (entries_after machine capture (place_at w.place.packet (length xs)))
  ahead_long k within =
      let later = joined_from machine (w.place.packet + 1) (drop w.place.packet capture) in
      omega (
        arith,
        ap length (ahead-in machine capture w.place.packet k r from_one at),
        ap length (ahead-in machine capture w.place.packet (length xs) r from_one at),
        length-append (entries_from machine r w.place.packet (k + 1) (drop k xs)) later,
        length-append (entries_from machine r w.place.packet (length xs + 1) (drop (length xs) xs)) later,
        length_entries machine r w.place.packet (k + 1) (drop k xs),
        length_entries machine r w.place.packet (length xs + 1) (drop (length xs) xs),
        length-drop k xs,
        length-drop (length xs) xs,
      )

  -- what is owed makes room for the turns to the packet's end
  pub room : length xs + min w.place.step 1 ≤ owed machine capture w.place + w.place.step
  room = omega (arith, ahead_long w.place.step step_within)

  module _ (breakpoints : Breakpoints) where
    -- none of the packet's entries from one place of its trace up to another is a hit
    abbrev pub NoHits : ℕ → ℕ → Type 0
    NoHits k m = (i : ℕ) (s : Registers) → k ≤ i → i < m → slice_get xs i ≡ Some s
        → is_hit_by breakpoints s (turn machine r.bytes r.wire s) ≡ false

    -- n entries from a step on that are no hits are passed
    entries-passed : (k n m : ℕ) → k + n ≡ m → m ≤ length xs → NoHits k m
        → stops_after machine capture breakpoints (place_at w.place.packet k)
        ≡ stops_after machine capture breakpoints (place_at w.place.packet m)
    entries-passed k zero m e within none =
        let same : k ≡ m = omega (arith, e) in
        rw same refl
    entries-passed k (suc n) m e within none =
        let s = item_within xs k (omega (arith, e, within)) in
        let first = ahead-entry machine capture w.place.packet k r s.0 from_one at s.1 in
        rw (first, none k s.0 (omega arith) (omega (arith, e)) s.1)
        (entries-passed (k + 1) n m (omega (arith, e)) within (λ i t from to is. none i t (omega (arith, from)) to is))

  module _ (breakpoints : Breakpoints) (pauses : Registers → Bool) (covers : Covers pauses machine breakpoints) where
    no_hits : (m : ℕ) → Unpaused pauses xs w.place.step m → NoHits breakpoints w.place.step m
    no_hits m unpaused = λ i s from to there.
        not_covered pauses (is_hit_by breakpoints s (turn machine r.bytes r.wire s)) s (covers r.bytes r.wire s
        (goes_from_entry _ h.sound i s there).inside)
        (unpaused i s from to there)

    on_hits : (n : ℕ) (s : Registers) → PausesFirst pauses xs w.place.step n s
        → stops_after machine capture breakpoints w.place
        ≡ stops_after machine capture breakpoints (place_at w.place.packet (w.place.step + n - 1))
    on_hits n s f =
        let m : ℕ = w.place.step + n - 1 in
        let within = slice_get_within xs m s f.at in
        entries-passed breakpoints w.place.step (n - 1) m (omega (arith, f.some)) (omega (arith, within)) (no_hits m f.unpaused)

    end_hits : Unpaused pauses xs w.place.step (length xs)
        → stops_after machine capture breakpoints w.place ≡ stops_after machine capture breakpoints (place_at (w.place.packet + 1) 0)
    end_hits unpaused =
        let leave = ahead-leave machine capture w.place.packet (length xs) r from_one at (omega arith) in
        entries-passed breakpoints w.place.step (length xs - w.place.step) (length xs) (omega (arith, step_within))
        (omega arith) (no_hits (length xs) unpaused)
        ∙ ap (stops_of breakpoints) leave

  module _ (pauses : Registers → Bool) where
    on_owed : (n : ℕ) (s : Registers) → PausesFirst pauses xs w.place.step n s
        → owed machine capture w.place + 1 ≡ n + owed machine capture (moved_on w n s).place + min w.place.step 1
    on_owed n s f =
        let some = f.some in
        omega (
          arith,
          ahead_long w.place.step step_within,
          ahead_long (w.place.step + n) (omega (arith, slice_get_within xs (w.place.step + n - 1) s f.at, some)),
          some,
        )

    -- the steps can be counted
    pub steps_fit : (n : ℕ) (s : Registers)
        → (Paused n, s) ≡ follow_ahead pauses (drop w.place.step xs) (outcome machine r.bytes r.wire) w.state
        → w.place.step + n ≤ MAX_INSTRUCTIONS
    steps_fit n s follows =
        let on = (paused_of pauses xs w.place.step n s _ _ follows).0 in
        omega (arith, slice_get_within xs (w.place.step + n - 1) s on.at, steps_few)

module _ {A : Type 0} (l : Loaded A) (w : Cursor) (r : Record) (h : Stands (machine_in l) (records_in l) w)
    (at : slice_get (records_in l) (w.place.packet - 1) ≡ Some r) (pauses : Registers → Bool) where
  abbrev entries : List Registers
  entries = trace (machine_in l) r.bytes r.wire

  -- where the packet was followed from the cursor on
  module _ (f : Followed) (s : Registers) (v : Cursor) (before after : ℕ) (left others : List Record) (end : ℕ)
      (there : AreLeft (records_in l) w.place left) (ends : IsEnd (records_in l) w.place end) (early : w.place.packet < end)
      (to : v ≡ followed (record w { state = s }) f)
      (follows : (f, s) ≡ follow_ahead pauses (drop w.place.step entries) (outcome (machine_in l) r.bytes r.wire) w.state)
      (turns : after ≡ before + unpaused_len pauses (drop w.place.step entries) + min w.place.step 1)
      (is : left ≡ r ∷ others) where
    pub goes_to_entry : moved.Entry ≡ moved_by f
        → GoesOn l pauses (record { cursor = w; left = left; end = end }) (record { cursor = v; left = left; end = end }) before after true
    goes_to_entry moves = go f refl moves
      where
        go : (g : Followed) → f ≡ g → moved.Entry ≡ moved_by g
            → GoesOn l pauses (record { cursor = w; left = left; end = end }) (record { cursor = v; left = left; end = end }) before after true
        go (Ended o) e moves = absurd cc
        go (Paused n) e moves =
            let of = paused_of pauses entries w.place.step n s _ _ (rw e at follows) in
            let on = of.0 in
            let some = on.some in
            rw (to, e) (record {
              passes = record {
                stands = stands_at _ _ w r h at (w.place.step + n) s on.at;
                origin = refl;
                order = not_before_on w.place _ refl (omega arith);
                spent = omega (arith, on_owed _ _ w r h at pauses n s on, turns, of.1);
              };
              hits = λ covers. on_hits _ _ w r h at _ pauses covers n s on;
              left = left_here (records_in l) w.place (moved_on w n s).place left there refl;
              ends = record { within = ends.within; most = ends.most; later = λ _. early };
              same = refl;
              entry = λ _. (omega (arith, some), on.here);
              out = λ (z : true ≡ false). absurd cc;
            })

    pub goes_out : moved.Packet ≡ moved_by f
        → GoesOn l pauses (record { cursor = w; left = left; end = end }) (record { cursor = v; left = others; end = end }) before after false
    goes_out moves = go f refl moves
      where
        go : (g : Followed) → f ≡ g → moved.Packet ≡ moved_by g
            → GoesOn l pauses (record { cursor = w; left = left; end = end }) (record { cursor = v; left = others; end = end }) before after false
        go (Paused n) e moves = absurd cc
        go (Ended o) e moves =
            let step_within = step_within _ _ w r h at in
            let of = ended_of pauses entries w.place.step o _ s _ step_within (rw e at follows) in
            let leave = ahead-leave (machine_in l) (records_in l) w.place.packet (length entries) r (from_one _ _ w r h at) at (omega arith) in
            let same : passed w (outcome (machine_in l) r.bytes r.wire) ≡ passed (record w { state = s }) o = rw (of.1, of.2) refl in
            rw (to, e) (record {
              passes = record {
                stands = subst (λ u. Stands (machine_in l) (records_in l) u) same (stands-passed _ _ w r h at);
                origin = refl;
                order = not_before_past w.place _ (omega arith);
                spent = omega (arith, ahead_long _ _ w r h at w.place.step step_within, ap length leave, turns, of.3, step_within);
              };
              hits = λ covers. end_hits _ _ w r h at _ pauses covers of.0;
              left = left_past (records_in l) w.place left r others is there (from_one _ _ w r h at);
              ends = record { within = ends.within; most = omega (arith, early); later = λ (z : 0 < 0). absurd (omega arith) };
              same = refl;
              entry = λ (z : false ≡ true). absurd cc;
              out = λ _. refl;
            })
