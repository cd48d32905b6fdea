-- What a run answers where it ends.
use Rattle.std.proofs.Common.{◌≡◌, ℕ, suc, ◌+◌, ◌-◌, ◌<◌, ◌≤◌, List, [], ◌∷◌, ◌++◌, length, true, false}
use Rattle.std.proofs.Common.{arith, sym, ap, ◌∙◌, refl}
use Rattle.std.specs.Prelude.{Option, Some, None, filter, min, slice_get, nat_lt, nat_le}
use Rattle.std.proofs.lemmas.Bool.Decides.{nat_tests}
use Rattle.std.proofs.lemmas.List.Elements.{All-filter, All-head, All-map, filter_passes}
use Rattle.cbpf_machine.specs.Machine.{Machine}
use Rattle.pcap_classic.specs.Records.{Record}
use Rattle.pcap_classic.specs.Savefile.{Savefile}
use Rattle.cbpf_reply.specs.declared.reply.Place.{Place}
use Rattle.cbpf_reply.specs.declared.reply.Stop.{Stop}
use Rattle.cbpf_reply.specs.declared.reply.Why.TheVariants as why
use Rattle.cbpf_reply.specs.declared.reply.RunReply.TheVariants.{Stopped, Limit, Finished}
use Rattle.cbpf_reply.specs.Places.{is_before}
use Rattle.cbpf_dbg.specs.declared.cursor.Cursor.{Cursor}
use Rattle.cbpf_dbg.specs.Joined.{Entry, joined, entries_after, is_hit, stops_of, stops_after, counts, stop_at}
use Rattle.cbpf_dbg.specs.View.{View, first_place}
use Rattle.cbpf_dbg.specs.Commands.{run_to, run_out, within_limit, finished, limited}
use Rattle.cbpf_dbg.specs.Cursor.{Stands, view_at, entry_here, RepliesBy, run_from, step_from, ComesTo}
use Rattle.cbpf_dbg.specs.Cursor.{owed}
use Rattle.cbpf_dbg.proofs.JoinedLemmas.{ahead-end}
use Rattle.cbpf_dbg.specs.Breakpoints.{Breakpoints}

-- ---- the limit

-- the packet before which a run from a packet ends that comes to no hit
abbrev pub end_of_run : Option ℕ → ℕ → ℕ → ℕ
end_of_run None first count = count + 1
end_of_run (Some n) first count = min (first + n) (count + 1)

-- before the end the limit is not reached
within_end : (limit : Option ℕ) (first packet count : ℕ) → packet < end_of_run limit first count → first ≤ packet
    → within_limit limit (packet - first) ≡ true
within_end None first packet count before forward = refl
within_end (Some n) first packet count before forward = grind (arith, nat_tests)

-- ---- the three ends

run_out_end : (m : View) (machine : Machine) (capture : List Record) (limit : Option ℕ)
    → length capture < end_of_run limit m.place.packet (length capture)
    → run_out m machine capture limit ≡ finished m machine capture
run_out_end m machine capture None past = refl
run_out_end m machine capture (Some n) past =
    let no : nat_le (m.place.packet + n) (length capture) ≡ false = grind (arith, nat_tests) in
    rw no refl

run_to_limit : (m : View) (machine : Machine) (capture : List Record) (limit : Option ℕ) (end : ℕ) (hs : List Stop)
    → end ≡ end_of_run limit m.place.packet (length capture) → end ≤ length capture
    → ((h : Stop) (more : List Stop) → hs ≡ h ∷ more → end ≤ h.place.packet)
    → run_to m machine capture limit hs ≡ limited m machine capture end
run_to_limit m machine capture None end hs is here later = absurd (omega (arith, is, here))
run_to_limit m machine capture (Some n) end [] is here later =
    let e : m.place.packet + n ≡ end = omega (arith, is, here) in
    let yes : nat_le end (length capture) ≡ true = grind (arith, nat_tests) in
    rw e (rw yes refl)
run_to_limit m machine capture (Some n) end (h ∷ more) is here later =
    let later_packet : end ≤ h.place.packet = later h more refl in
    let e : m.place.packet + n ≡ end = omega (arith, is, here) in
    let no : nat_lt (h.place.packet - m.place.packet) n ≡ false = grind (arith, nat_tests) in
    let yes : nat_le end (length capture) ≡ true = grind (arith, nat_tests) in
    rw no (rw e (rw yes refl))

pub rest-head : (machine : Machine) (capture : List Record) (breakpoints : Breakpoints) (place : Place) (h : Stop)
    (more : List Stop) → stops_after machine capture breakpoints place ≡ h ∷ more → is_before place h.place ≡ true
rest-head machine capture breakpoints place h more e =
    let entries = entries_after machine capture place in
    let after = All-filter (is_hit breakpoints) (λ (k : Entry). is_before place k.place ≡ true) entries
    (filter_passes (λ (k : Entry). is_before place k.place) (joined machine capture)) in
    All-head (λ (k : Stop). is_before place k.place ≡ true) h more (rw e at (All-map
    (λ (k : Stop). is_before place k.place ≡ true) (stop_at why.Break) (filter (is_hit breakpoints) entries) after))

rest-later : (machine : Machine) (capture : List Record) (breakpoints : Breakpoints) (place : Place) (h : Stop)
    (more : List Stop) → stops_after machine capture breakpoints place ≡ h ∷ more → place.packet ≤ h.place.packet
rest-later machine capture breakpoints place h more e =
    let after = rest-head machine capture breakpoints place h more e in grind (arith, nat_tests)

module _ (machine : Machine) (c : Savefile) (breakpoints : Breakpoints) (limit : Option ℕ) (w0 : Cursor) (end : ℕ)
    (is : end ≡ end_of_run limit w0.place.packet (length c.records)) where
  abbrev pub hits : Place → List Stop
  hits place = stops_after machine c.records breakpoints place

  abbrev pub view0 : View
  view0 = view_at machine c breakpoints w0

  pub run_stopped : (w2 : Cursor) (h : Stop) → w2.origin ≡ w0.origin
      → ComesTo machine c.records breakpoints end w0 (Some h) w2
      → RepliesBy machine c breakpoints (run_from machine c.records limit) w0 w2 (Stopped h)
  run_stopped w2 h origin comes =
      let inside = within_end limit w0.place.packet h.place.packet (length c.records) (rw is at comes.1)
      (rest-later machine c.records breakpoints w0.place h _ comes.2) in
      record {
        reply_is = rw (comes.2, inside) refl;
        place_is = rw (comes.2, inside) comes.0;
        origin_is = rw (comes.2, inside) origin;
      }

  pub run_limited : (w1 : Cursor) → Stands machine c.records w1 → w1.origin ≡ w0.origin
      → ComesTo machine c.records breakpoints end w0 None w1 → end ≤ length c.records
      → RepliesBy machine c breakpoints (run_from machine c.records limit) w0 w1 (Limit w1.counts)
  run_limited w1 stands origin comes here =
      let packet : w1.place.packet ≡ end = ap (λ (q : Place). q.packet) comes.0 in
      let out : run_to view0 machine c.records limit (hits w0.place) ≡ limited view0 machine c.records end =
      rw (← comes.1) (run_to_limit view0 machine c.records limit end (hits w1.place) is here
      (λ h more e. rw packet at (rest-later machine c.records breakpoints w1.place h more e))) in
      let counted : w1.counts ≡ counts machine c.records w0.origin end = rw (← origin, ← packet) stands.counted in
      record { reply_is = rw out (ap Limit counted); place_is = rw out comes.0; origin_is = rw out origin }

  -- after the last packet nothing is owed, and no hit is ahead
  pub none_ahead : (w1 : Cursor) → ComesTo machine c.records breakpoints end w0 None w1 → length c.records < end
      → (owed machine c.records w1.place ≡ 0) × (hits w0.place ≡ [])
  none_ahead w1 comes past =
      let none : entries_after machine c.records w1.place ≡ [] = rw comes.0 (ahead-end machine c.records end 0 past) in (
        rw comes.0 (rw (ahead-end machine c.records end 0 past) refl),
        sym comes.1 ∙ ap (stops_of breakpoints) none,
      )

  pub run_finished : (w1 w2 : Cursor) → Stands machine c.records w1 → w1.origin ≡ w0.origin
      → ComesTo machine c.records breakpoints end w0 None w1 → length c.records < end → w2.place ≡ first_place
      → w2.origin ≡ 1 → RepliesBy machine c breakpoints (run_from machine c.records limit) w0 w2 (Finished w1.counts)
  run_finished w1 w2 stands origin comes past place2 origin2 =
      let none = none_ahead w1 comes past in
      let out = run_out_end view0 machine c.records limit (rw is at past) in
      let packet : w1.place.packet ≡ end = ap (λ (q : Place). q.packet) comes.0 in
      let at_end : w1.place.packet ≡ length c.records + 1 = omega (arith, packet, past, stands.within) in
      let counted : w1.counts ≡ counts machine c.records w0.origin (length c.records + 1) =
      rw (← origin, ← at_end) stands.counted in
      record {
        reply_is = rw (none.1, out) (ap Finished counted);
        place_is = rw (none.1, out) place2;
        origin_is = rw (none.1, out) origin2;
      }

-- ---- a step on

-- past the first ones of a list
pub slice_get-past : {X : Type 0} (xs ys : List X) (k n : ℕ) → length xs ≡ k → k < n
    → slice_get (xs ++ ys) (n - 1) ≡ slice_get ys (n - k - 1)
slice_get-past [] ys k n e more = let i : n - 1 ≡ n - k - 1 = omega (arith, e) in ap (λ j. slice_get ys j) i
slice_get-past (x ∷ xs) ys k n e more =
    let i : n - 1 ≡ suc (n - 1 - 1) = omega (arith, e, more) in
    let rest : length xs ≡ k - 1 = omega (arith, e) in
    let j : n - 1 - (k - 1) - 1 ≡ n - k - 1 = omega (arith, e, more) in
    ap (λ m. slice_get (x ∷ (xs ++ ys)) m) i ∙ slice_get-past xs ys (k - 1) (n - 1) rest (omega (arith, e, more))
    ∙ ap (λ m. slice_get ys m) j

module _ (machine : Machine) (c : Savefile) (breakpoints : Breakpoints) (n : ℕ) (w0 : Cursor) where
  pub step_stopped : (w2 : Cursor) (r : Record) (stop : Stop)
      → slice_get (entries_after machine c.records w0.place) (n - 1) ≡ Some (entry_here machine r w2)
      → stop ≡ stop_at why.Step (entry_here machine r w2) → w2.origin ≡ w0.origin
      → RepliesBy machine c breakpoints (step_from machine c.records n) w0 w2 (Stopped stop)
  step_stopped w2 r stop sought is origin =
      record { reply_is = rw (sought, is) refl; place_is = rw sought refl; origin_is = rw sought origin }

  pub step_finished : (w1 w2 : Cursor) → slice_get (entries_after machine c.records w0.place) (n - 1) ≡ None
      → Stands machine c.records w1 → w1.origin ≡ w0.origin → w1.place.packet ≡ length c.records + 1 → w2.place ≡ first_place
      → w2.origin ≡ 1 → RepliesBy machine c breakpoints (step_from machine c.records n) w0 w2 (Finished w1.counts)
  step_finished w1 w2 sought stands origin end place2 origin2 =
      let counted : w1.counts ≡ counts machine c.records w0.origin (length c.records + 1) =
      rw (← origin, ← end) stands.counted in
      record { reply_is = rw sought (ap Finished counted); place_is = rw sought place2; origin_is = rw sought origin2 }
