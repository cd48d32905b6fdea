-- How many turns lead from one place to another.
use Rattle.std.proofs.Common.{◌≡◌, ℕ, suc, ◌+◌, ◌-◌, ◌<◌, ◌≤◌, List, [], ◌∷◌, length, Bool, true, false}
use Rattle.std.proofs.Common.{arith, ap, ◌∙◌, refl, inl, inr, cond, ◌*◌, ◌^◌, length-append}
use Rattle.std.specs.Prelude.{filter}
use Rattle.std.proofs.lemmas.Bool.{cases_lt}
use Rattle.std.proofs.lemmas.Bool.Decides.{nat_tests}
use Rattle.std.proofs.lemmas.List.Sums.{count_by-le-length, length-filter}
use Rattle.cbpf_code.specs.Sound.{IsSound}
use Rattle.cbpf_machine.specs.Registers.{zero_state, Registers}
use Rattle.cbpf_machine.proofs.SoundLemmas.{sound_few}
use Rattle.cbpf_machine.proofs.TraceLemmas.{length-trace_from}
use Rattle.cbpf_code.specs.declared.checker.TheConstants.{MAX_INSTRUCTIONS}
use Rattle.cbpf_machine.specs.Machine.{Machine}
use Rattle.cbpf_machine.specs.Trace.{trace}
use Rattle.pcap_classic.specs.Records.{Record}
use Rattle.pcap_classic.specs.Savefile.{Savefile}
use Rattle.cbpf_reply.specs.declared.reply.Place.{Place}
use Rattle.cbpf_reply.specs.declared.reply.RunReply.{RunReply}
use Rattle.cbpf_reply.specs.declared.reply.RunReply.TheVariants.{Stopped, Limit, Finished}
use Rattle.cbpf_reply.specs.Places.{is_before}
use Rattle.cbpf_dbg.specs.declared.cursor.Cursor.{Cursor}
use Rattle.cbpf_dbg.specs.Joined.{Entry, entries_from, packet_entries, joined_from, joined, entries_after, stops_after, is_hit}
use Rattle.cbpf_dbg.specs.Joined.{stop_at, place_before, turns_between, turns_to_end}
use Rattle.cbpf_reply.specs.declared.reply.Why.TheVariants as why
use Rattle.std.proofs.lemmas.List.{length-map}
use Rattle.cbpf_dbg.specs.View.{View}
use Rattle.cbpf_dbg.specs.Commands.{turns_in}
use Rattle.cbpf_dbg.specs.Cursor.{Stands, Passes, owed, view_at, RepliesBy, turns_of}
use Rattle.cbpf_dbg.proofs.GoingLemmas.{entry_first}
use Rattle.cbpf_dbg.specs.Breakpoints.{Breakpoints}

-- what a cursor owes is what it takes to the end
pub owed-turns : (machine : Machine) (capture : List Record) (w : Cursor) → Stands machine capture w
    → turns_to_end machine capture w.place ≡ owed machine capture w.place
owed-turns machine capture w h = elim (cases_lt 0 w.place.step) [
  | inl begun ↦
      let at = h.at begun in omega (arith, ap length (entry_first machine capture w at.0 h begun at.1), begun)
  | inr none ↦ let same : w.place.step - 1 ≡ w.place.step = omega (arith, none) in rw same (omega (arith, none))
]

fewer_kept : {X : Type 0} (x : X) (us vs : List X) (b c : Bool) → (b ≡ true → c ≡ true) → length us ≤ length vs
    → length (cond b (x ∷ us) us) ≤ length (cond c (x ∷ vs) vs)
fewer_kept x us vs true true h fewer = omega (arith, fewer)
fewer_kept x us vs true false h fewer = let e : false ≡ true = h refl in absurd cc
fewer_kept x us vs false true h fewer = omega (arith, fewer)
fewer_kept x us vs false false h fewer = fewer

length_filter-fewer : {X : Type 0} (f g : X → Bool) (xs : List X) → ((x : X) → f x ≡ true → g x ≡ true)
    → length (filter f xs) ≤ length (filter g xs)
length_filter-fewer f g [] h = omega arith
length_filter-fewer f g (x ∷ xs) h = fewer_kept x _ _ (f x) (g x) (h x) (length_filter-fewer f g xs h)

after_later : (old new e : Place) → is_before new old ≡ false → is_before (place_before new) e ≡ true
    → is_before (place_before old) e ≡ true
after_later old new e h k = grind (arith, nat_tests)

-- from a place that is not before another no more turns lead to the end
pub turns-fewer : (machine : Machine) (capture : List Record) (old new : Place) → is_before new old ≡ false
    → turns_to_end machine capture new ≤ turns_to_end machine capture old
turns-fewer machine capture old new h =
    length_filter-fewer (λ (e : Entry). is_before (place_before new) e.place) (λ (e : Entry). is_before (place_before old) e.place)
    (joined machine capture) (λ e k. after_later old new e.place h k)

-- ---- by a run's answer

-- of the view after it they ask for the place alone
turns_place : (m : View) (machine : Machine) (capture : List Record) (r : RunReply) (v u : View) → u.place ≡ v.place
    → turns_in m machine capture (r, v) ≡ turns_in m machine capture (r, u)
turns_place m machine capture (Stopped s) v u e = rw e refl
turns_place m machine capture (Limit n) v u e = rw e refl
turns_place m machine capture (Finished n) v u e = refl

pub turns-reply : (machine : Machine) (c : Savefile) (breakpoints : Breakpoints) (answer : View → RunReply × View)
    (old new : Cursor) (reply : RunReply) → RepliesBy machine c breakpoints answer old new reply
    → turns_of machine c breakpoints answer old
    ≡ turns_in (view_at machine c breakpoints old) machine c.records (reply, view_at machine c breakpoints new)
turns-reply machine c breakpoints answer old new reply h =
    let m : View = view_at machine c breakpoints old in
    turns_place m machine c.records (answer m).0 (answer m).1 (view_at machine c breakpoints new) h.place_is
    ∙ rw h.reply_is refl

-- the turns of a cursor to where it went on
pub spent_between : (machine : Machine) (capture : List Record) (old new : Cursor) (before after : ℕ)
    → Stands machine capture old → Passes machine capture old new before after
    → after ≡ before + turns_between machine capture old.place new.place
spent_between machine capture old new before after h passes =
    omega (
      arith,
      owed-turns machine capture old h,
      owed-turns machine capture new passes.stands,
      passes.spent,
      turns-fewer machine capture old.place new.place passes.order,
    )

length_filter : {X : Type 0} (f : X → Bool) (xs : List X) → length (filter f xs) ≤ length xs
length_filter f xs = omega (arith, length-filter f xs, count_by-le-length f xs)

pub length_entries : (machine : Machine) (r : Record) (p k : ℕ) (xs : List Registers)
    → length (entries_from machine r p k xs) ≡ length xs
length_entries machine r p k [] = refl
length_entries machine r p k (x ∷ xs) = ap suc (length_entries machine r p (k + 1) xs)

pub length_joined : (machine : Machine) (p : ℕ) (capture : List Record) → IsSound machine.list
    → length (joined_from machine p capture) ≤ MAX_INSTRUCTIONS * length capture
length_joined machine p [] h = omega arith
length_joined machine p (r ∷ rest) h =
    omega (
      arith,
      length-append (packet_entries machine r p) (joined_from machine (p + 1) rest),
      length_joined machine (p + 1) rest h,
      length_entries machine r p 1 (trace machine r.bytes r.wire),
      length-trace_from machine r.bytes r.wire zero_state,
      sound_few machine.list h,
    )

-- few entries come after a place
pub few_after : (machine : Machine) (capture : List Record) (place : Place) → IsSound machine.list
    → length capture < 2 ^ 60 → length (entries_after machine capture place) < 2 ^ 76
unfolding joined
few_after machine capture place sound few =
    omega (
      arith,
      length_filter (λ (e : Entry). is_before place e.place) (joined_from machine 1 capture),
      length_joined machine 1 capture sound,
    )

-- the hits ahead can be counted
pub few_hits : (machine : Machine) (capture : List Record) (breakpoints : Breakpoints) (place : Place)
    → IsSound machine.list → length capture < 2 ^ 60 → length (stops_after machine capture breakpoints place) < 2 ^ 128
few_hits machine capture breakpoints place sound few =
    omega (
      arith,
      length-map (filter (is_hit breakpoints) (entries_after machine capture place)) (stop_at why.Break),
      length_filter (is_hit breakpoints) (entries_after machine capture place),
      few_after machine capture place sound few,
    )
