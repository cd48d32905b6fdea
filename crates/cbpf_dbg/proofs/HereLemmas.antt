-- Entries stand at their places, so a session can go back to its stops.
use Rattle.std.proofs.Common.{◌≡◌, ℕ, zero, suc, ◌+◌, ◌-◌, ◌<◌, ◌≤◌, List, [], ◌∷◌, length, arith, refl, ap, ◌∙◌, subst}
use Rattle.std.proofs.Common.{Bool, true, false, cond, ℤ, pos, negsuc, sym, ◌++◌, append-nil}
use Rattle.std.specs.Prelude.{Option, Some, None, Result, Ok, Err, IfOk, slice_get, filter, nat_lt, nat_le, ◌==◌}
use Rattle.std.specs.List.{All}
use Rattle.std.specs.Option.{option_map}
use Rattle.std.proofs.lemmas.Bool.Decides.{nat_tests}
use Rattle.std.proofs.lemmas.List.Elements.{All-append, All-cons, All-filter, All-map, All-head, All-tail, All-weaker}
use Rattle.std.proofs.lemmas.List.Elements.{filter_passes}
use Rattle.std.proofs.lemmas.Option.{slice_get_within}
use Rattle.cbpf_machine.specs.Machine.{Machine}
use Rattle.cbpf_machine.specs.Registers.{Registers}
use Rattle.cbpf_machine.specs.Turn.{turn}
use Rattle.cbpf_machine.specs.Trace.{trace, entry_at}
use Rattle.cbpf_machine.proofs.TraceLemmas.{goes_from_entry}
use Rattle.pcap_classic.specs.Records.{Record}
use Rattle.pcap_classic.specs.Savefile.{Savefile}
use Rattle.cbpf_reply.specs.declared.reply.Place.{Place}
use Rattle.cbpf_reply.specs.declared.reply.Stop.{Stop}
use Rattle.cbpf_reply.specs.declared.reply.Why.TheVariants as why
use Rattle.cbpf_reply.specs.declared.reply.RunReply.{RunReply}
use Rattle.cbpf_reply.specs.declared.reply.SessionFault.{SessionFault}
use Rattle.cbpf_reply.specs.declared.reply.SessionFault.TheVariants.{NoPackets}
use Rattle.cbpf_reply.specs.Places.{is_before}
use Rattle.cbpf_dbg.specs.declared.cursor.Cursor.{Cursor}
use Rattle.cbpf_dbg.specs.Breakpoints.{Breakpoints}
use Rattle.cbpf_dbg.specs.Cursor.{Stands, entry_here}
use Rattle.cbpf_dbg.specs.Joined.{Entry, entries_from, packet_entries, joined_from, joined, entries_after, stops_after, is_hit, stop_at}
use Rattle.cbpf_dbg.specs.View.{View, first_place}
use Rattle.cbpf_dbg.specs.Commands.{Answer, reply_of, view_after, run, run_in, run_to, run_out, within_limit, stopped}
use Rattle.cbpf_dbg.specs.Commands.{finished, limited, step, step_in, step_to, entry_in, back_place, back_at, steps_of, run_to_end}
use Rattle.cbpf_dbg.specs.Here.{stop_of, entry_of, stop_here, CanReturn, RunStopsHere, StepStopsHere}
use Rattle.cbpf_dbg.proofs.JoinedLemmas.{entry}
use Rattle.cbpf_dbg.proofs.ResumeLemmas.{taken}
use Rattle.cbpf_dbg.proofs.ShownStops.{All-slice_get}
use Rattle.cbpf_dbg.proofs.WholeLemmas.{HasLoaded, Going}

-- an entry is the one at its place
record IsThere (machine : Machine) (capture : List Record) (e : Entry) : Type 0 where
  r : Record
  from_one : 1 ≤ e.place.packet
  begun : 0 < e.place.step
  at : slice_get capture (e.place.packet - 1) ≡ Some r
  entry_is : slice_get (trace machine r.bytes r.wire) (e.place.step - 1) ≡ Some e.state
  turn_is : turn machine r.bytes r.wire e.state ≡ e.turn

module _ (machine : Machine) (capture : List Record) where
  there-entries : (r : Record) (p k : ℕ) (xs : List Registers) → 1 ≤ p → 1 ≤ k → slice_get capture (p - 1) ≡ Some r
      → ((i j : ℕ) (s : Registers) → j + 1 ≡ k + i → slice_get xs i ≡ Some s
      → slice_get (trace machine r.bytes r.wire) j ≡ Some s)
      → All (IsThere machine capture) (entries_from machine r p k xs)
  there-entries r p k [] from_one some at states = λ i d h. absurd (omega arith)
  there-entries r p k (x ∷ xs) from_one some at states =
      All-cons (IsThere machine capture) (entry machine r p k x) (entries_from machine r p (k + 1) xs)
      (record {
        r = r;
        from_one = from_one;
        begun = omega arith;
        at = at;
        entry_is = states 0 (k - 1) x (omega arith) refl;
        turn_is = refl;
      })
      (there-entries r p (k + 1) xs from_one (omega arith) at (λ i j s e is. states (suc i) j s (omega arith) is))

  there-joined_from : (q : ℕ) (more : List Record) → 1 ≤ q
      → ((i j : ℕ) (r : Record) → j + 1 ≡ q + i → slice_get more i ≡ Some r → slice_get capture j ≡ Some r)
      → All (IsThere machine capture) (joined_from machine q more)
  there-joined_from q [] from_one records = λ i d h. absurd (omega arith)
  there-joined_from q (r ∷ more) from_one records =
      All-append (IsThere machine capture) (packet_entries machine r q) (joined_from machine (q + 1) more)
      (there-entries r q 1 (trace machine r.bytes r.wire) from_one (omega arith)
      (records 0 (q - 1) r (omega arith) refl)
      (λ i j s e is. let same : i ≡ j = omega arith in rw same at is))
      (there-joined_from (q + 1) more (omega arith) (λ i j s e is. records (suc i) j s (omega arith) is))

  there-joined : All (IsThere machine capture) (joined machine capture)
  unfolding joined
  there-joined = there-joined_from 1 capture (omega arith) (λ i j r e is. let same : i ≡ j = omega arith in rw same at is)

  there-ahead : (place : Place) → All (IsThere machine capture) (entries_after machine capture place)
  there-ahead place =
      All-filter (λ (e : Entry). is_before place e.place) (IsThere machine capture) (joined machine capture) there-joined

  there-at : (e : Entry) → IsThere machine capture e → entry_of machine capture e.place ≡ Some e
  there-at e there =
      let begun : nat_lt 0 e.place.step ≡ true = (let b = there.begun in grind (arith, nat_tests)) in
      rw (begun, there.at, there.entry_is, there.turn_is) refl

-- what holds of an answer's reply and the view after it
abbrev OfAnswer : (View → RunReply → Type 0) → Answer RunReply → Type 0
OfAnswer P (Ok a) = P a.1 a.0
OfAnswer P (Err e) = Unit {0}

-- holds of what a call gives that answers so
pub of-answer : (P : View → RunReply → Type 0) (a : Answer RunReply) (m new : View)
    (result : Result RunReply SessionFault) → result ≡ reply_of a → new ≡ view_after m a → OfAnswer P a
    → IfOk result (λ reply. P new reply)
of-answer P (Ok a) m new result r n h = rw (r, n) h
of-answer P (Err e) m new result r n h = rw r tt

module _ (machine : Machine) (c : Savefile) (v : View) (h : HasLoaded machine c v) where
  -- the stop at a place that has an entry
  pub here-entry : (breakpoints : Breakpoints) (e : Entry) → v.breakpoints ≡ breakpoints
      → entry_of machine c.records v.place ≡ Some e → stop_here v ≡ Some (stop_of breakpoints e)
  here-entry breakpoints e same is = rw (h.program, h.values, h.capture, is, same) refl

moved : (machine : Machine) (c : Savefile) (v : View) (place : Place) → HasLoaded machine c v
    → HasLoaded machine c (record v { place = place })
moved machine c v place h = record { program = h.program; values = h.values; capture = h.capture }

module _ (machine : Machine) (c : Savefile) (v : View) (h : HasLoaded machine c v) where
  here-there : (e : Entry) → IsThere machine c.records e
      → stop_here (record v { place = e.place }) ≡ Some (stop_of v.breakpoints e)
  here-there e there =
      here-entry machine c (record v { place = e.place }) (moved machine c v e.place h) v.breakpoints
      e refl (there-at machine c.records e there)

  can-return : (e : Entry) → IsThere machine c.records e → is_hit v.breakpoints e ≡ true
      → CanReturn v (stop_at why.Break e)
  can-return e there hit =
      let packet = slice_get_within c.records (e.place.packet - 1) there.r there.at in
      let step = slice_get_within (trace machine there.r.bytes there.r.wire) (e.place.step - 1) e.state there.entry_is in
      let steps : e.place.step ≤ steps_of machine (slice_get c.records (e.place.packet - 1)) =
      rw there.at (omega (arith, step)) in
      record {
        resumable = λ n np nv nc. rw (np ∙ h.program, nv ∙ h.values, nc ∙ h.capture)
            (taken machine c.records e.place _ there.from_one (λ _. omega (arith, packet, there.from_one)) steps);
        here_is = here-there e there ∙ rw hit refl;
      }

  rest-returns : (place : Place) → All (CanReturn v) (stops_after machine c.records v.breakpoints place)
  rest-returns place =
      let entries = entries_after machine c.records place in
      let there = All-filter (is_hit v.breakpoints) (IsThere machine c.records) entries (there-ahead machine c.records place) in
      let hits = filter_passes (is_hit v.breakpoints) entries in
      All-map (CanReturn v) (stop_at why.Break) (filter (is_hit v.breakpoints) entries)
      (λ k d inside. can-return _ (there k d inside) (hits k d inside))

  -- each hit ahead
  pub returns-rest : (breakpoints : Breakpoints) (place : Place) → v.breakpoints ≡ breakpoints
      → All (CanReturn v) (stops_after machine c.records breakpoints place)
  returns-rest breakpoints place same =
      subst (λ (b : Breakpoints). All (CanReturn v) (stops_after machine c.records b place)) same (rest-returns place)

  out-at : (n : ℕ) (b : Bool) → OfAnswer RunStopsHere (Ok (cond b (limited v machine c.records n) (finished v machine c.records)))
  out-at n true = tt
  out-at n false = tt

  out-returns : (limit : Option ℕ) → OfAnswer RunStopsHere (Ok (run_out v machine c.records limit))
  out-returns None = tt
  out-returns (Some n) = out-at (v.place.packet + n) (nat_le (v.place.packet + n) (length c.records))

  stop-returns : (limit : Option ℕ) (stop : Stop) (b : Bool) → CanReturn v stop
      → OfAnswer RunStopsHere (Ok (cond b (stopped v stop) (run_out v machine c.records limit)))
  stop-returns limit stop true can = (record { resumable = can.resumable; here_is = can.here_is }, can.here_is)
  stop-returns limit stop false can = out-returns limit

  to-returns : (limit : Option ℕ) (hits : List Stop) → All (CanReturn v) hits
      → OfAnswer RunStopsHere (Ok (run_to v machine c.records limit hits))
  to-returns limit [] all = out-returns limit
  to-returns limit (stop ∷ hits) all =
      stop-returns limit stop (within_limit limit (stop.place.packet - v.place.packet))
      (All-head (CanReturn v) stop hits all)

  in-returns : (limit : Option ℕ) → OfAnswer RunStopsHere (run_in v machine c.records limit)
  in-returns None = to-returns None _ (rest-returns v.place)
  in-returns (Some zero) = tt
  in-returns (Some (suc n)) = to-returns (Some (suc n)) _ (rest-returns v.place)

  -- what a run answers
  pub run-returns : (limit : Option ℕ) → OfAnswer RunStopsHere (run v limit)
  run-returns limit =
      let ran : run v limit ≡ run_in v machine c.records limit = rw (h.program, h.values, h.capture) refl in
      subst (OfAnswer RunStopsHere) (sym ran) (in-returns limit)

  on-here : (o : Option Entry) → ((e : Entry) → o ≡ Some e → IsThere machine c.records e)
      → OfAnswer StepStopsHere (Ok (step_to v machine c.records o))
  on-here None there = tt
  on-here (Some e) there = ((stop_of v.breakpoints e).why, here-there e (there e refl))

  place-of : (place : Place) (r : Record) (o : Option Registers) (e : Entry)
      → option_map (λ (s : Registers). entry machine r place.packet place.step s) o ≡ Some e → e.place ≡ place
  place-of place r None e is = absurd cc
  place-of place r (Some s) e is =
      let same : entry machine r place.packet place.step s ≡ e = cc in ap (λ (x : Entry). x.place) (sym same)

  place-in : (place : Place) (o : Option Record) (e : Entry) → entry_in machine o place ≡ Some e → e.place ≡ place
  place-in place None e is = absurd cc
  place-in place (Some r) e is = place-of place r (entry_at (trace machine r.bytes r.wire) place.step) e is

  back-at : (place : Place) (o : Option Entry) → 0 < place.step
      → entry_in machine (slice_get c.records (place.packet - 1)) place ≡ o → OfAnswer StepStopsHere (back_at v o)
  back-at place None begun is = tt
  back-at place (Some e) begun is =
      let at = place-in place (slice_get c.records (place.packet - 1)) e is in
      let some : nat_lt 0 place.step ≡ true = grind (arith, nat_tests) in
      let here : entry_of machine c.records place ≡ Some e = rw some is in
      let there = subst (λ (q : Place). entry_of machine c.records q ≡ Some e) (sym at) here in (
        (stop_of v.breakpoints e).why,
        here-entry machine c (record v { place = e.place }) (moved machine c v e.place h) v.breakpoints e refl there,
      )

  back-here : (b : ℕ) (within : Bool) → nat_lt b v.place.step ≡ within → OfAnswer StepStopsHere (back_at v
      (cond within (entry_in machine (slice_get c.records (v.place.packet - 1)) (back_place v.place b)) None))
  back-here b true within = back-at (back_place v.place b) _ (grind (arith, nat_tests)) refl
  back-here b false within = tt

  in-here : (n : ℤ) (none : Bool) → OfAnswer StepStopsHere (cond none (Err NoPackets) (step_in v machine c.records n))
  in-here n true = tt
  in-here (pos zero) false = tt
  in-here (pos (suc n)) false = on-here (slice_get (entries_after machine c.records v.place) n)
      (λ e is. All-slice_get (IsThere machine c.records) (entries_after machine c.records v.place) n e
      (there-ahead machine c.records v.place) is)
  in-here (negsuc n) false = back-here (n + 1) (nat_lt (n + 1) v.place.step) refl

  -- what a step answers
  pub step-here : (n : ℤ) → OfAnswer StepStopsHere (step v n)
  step-here n =
      let stepped : step v n ≡ cond (length c.records == 0) (Err NoPackets) (step_in v machine c.records n) =
      rw (h.program, h.values, h.capture) refl in
      subst (OfAnswer StepStopsHere) (sym stepped) (in-here n (length c.records == 0))

-- what is known of a cursor at an entry
pub record IsAtEntry (machine : Machine) (capture : List Record) (w : Cursor) : Type 0 where
  pub r : Record
  pub entry_is : entry_of machine capture w.place ≡ Some (entry_here machine r w)
  pub from_one : 1 ≤ w.place.packet
  pub packet : w.place.packet ≤ length capture
  pub pc : w.state.pc < length machine.list

pub at_entry : (machine : Machine) (capture : List Record) (w : Cursor) → Stands machine capture w → 0 < w.place.step
    → IsAtEntry machine capture w
at_entry machine capture w stands begun =
    let e = stands.at begun in
    let some : nat_lt 0 w.place.step ≡ true = grind (arith, nat_tests) in
    let inside = slice_get_within capture (w.place.packet - 1) e.0 e.1 in
    let one : 1 ≤ w.place.packet = omega (arith, stands.from_one, stands.ordered) in
    record {
      r = e.0;
      entry_is = rw (some, e.1, e.2) refl;
      from_one = one;
      packet = omega (arith, inside, one);
      pc = (goes_from_entry _ stands.sound (w.place.step - 1) w.state e.2).inside;
    }

first-all : {X : Type 0} (P : X → Type 0) (xs ys : List X) → All P (xs ++ ys) → All P xs
first-all P [] ys all = λ i d h. absurd (omega arith)
first-all P (x ∷ xs) ys all =
    All-cons P x xs (All-head P x (xs ++ ys) all) (first-all P xs ys (All-tail P x (xs ++ ys) all))

-- the first of the hits ahead are found, and a session can go back to each
module _ (machine : Machine) (c : Savefile) (old new : View) (h : HasLoaded machine c old) (f : List Stop) where
  more-return : (place : Place) (origin : ℕ) (passed left : List Stop)
      → new ≡ record old { place = place; origin = origin }
      → stops_after machine c.records old.breakpoints old.place ≡ passed ++ left → All (CanReturn old) f
      → All (CanReturn new) (f ++ passed)
  more-return place origin passed left moves hits all =
      let found = first-all (CanReturn old) passed left (rw hits at (rest-returns machine c old h old.place)) in
      All-weaker (CanReturn old) (CanReturn new)
      (λ stop can. rw moves (record { resumable = can.resumable; here_is = can.here_is })) (f ++ passed)
      (All-append (CanReturn old) f passed all found)

  -- up to the last one
  pub going-returns : (g : List Stop) (m n : ℕ) → Going machine c old new f g m n → All (CanReturn old) f
      → All (CanReturn new) g
  going-returns g m n going all = rw going.found
      (more-return _ old.origin going.passed _ going.place going.hits all)

  -- all of them
  pub end-returns : (g : List Stop) → new ≡ view_after old (run_to_end old)
      → g ≡ f ++ stops_after machine c.records old.breakpoints old.place → All (CanReturn old) f → All (CanReturn new) g
  end-returns g after found all =
      let moves : new ≡ record old { place = first_place; origin = 1 } = after ∙ rw (h.program, h.capture) refl in
      rw found (more-return first_place 1 (stops_after machine c.records old.breakpoints old.place) [] moves (sym (append-nil _)) all)
