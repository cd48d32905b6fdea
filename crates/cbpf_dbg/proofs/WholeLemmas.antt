-- Runs without a limit, one after another.
use Rattle.std.proofs.Common.{◌≡◌, ℕ, ◌+◌, ◌^◌, ◌<◌, ◌≤◌, List, [], ◌∷◌, ◌++◌, length, arith, sym, ap, ◌∙◌, refl, true, false}
use Rattle.std.specs.Prelude.{Option, Some, None, Result, Ok, Err, map}
use Rattle.std.proofs.lemmas.Bool.Decides.{nat_tests}
use Rattle.cbpf_code.specs.declared.insn.Insn.{Insn}
use Rattle.cbpf_machine.specs.Machine.{Machine, machine_of}
use Rattle.cbpf_machine.specs.Trace.{last_or}
use Rattle.cbpf_code.specs.Sound.{IsSound}
use Rattle.pcap_classic.specs.Records.{Record}
use Rattle.pcap_classic.specs.Savefile.{Savefile}
use Rattle.cbpf_reply.specs.declared.reply.Place.{Place}
use Rattle.cbpf_reply.specs.declared.reply.Stop.{Stop}
use Rattle.cbpf_reply.specs.declared.reply.RunReply.TheVariants.{Stopped, Finished}
use Rattle.cbpf_reply.specs.declared.reply.SessionFault.{SessionFault}
use Rattle.cbpf_reply.specs.declared.reply.Counts.{Counts}
use Rattle.cbpf_reply.specs.Places.{is_before}
use Rattle.cbpf_dbg.specs.Joined.{joined, entries_after, stops_of, stops_in, stops_after}
use Rattle.cbpf_dbg.specs.Joined.{place_before, turns_between, turns_to_end, counts}
use Rattle.cbpf_dbg.specs.View.{View, first_place}
use Rattle.cbpf_dbg.specs.Commands.{reply_of, view_after, run, run_to_end, stops, all_stops, Found}
use Rattle.cbpf_dbg.specs.Commands.{turns_forward, turns_left, Continues, stopped, finished}
use Rattle.cbpf_dbg.proofs.TurnCountLemmas.{turns-fewer, few_after}
use Rattle.cbpf_dbg.proofs.RunLemmas.{rest-head}
use Rattle.cbpf_dbg.proofs.JoinedLemmas.{ahead-in}
use Rattle.std.proofs.Common.{append_assoc, append-nil}
use Rattle.cbpf_dbg.specs.Breakpoints.{Breakpoints}

-- what is known of a session with a program and a capture
pub record HasLoaded (machine : Machine) (c : Savefile) (v : View) : Type 0 where
  pub program : v.program ≡ Some machine.list
  pub values : v.values ≡ machine.values
  pub capture : v.capture ≡ Some c

module _ (machine : Machine) (c : Savefile) (v : View) (h : HasLoaded machine c v) where
  pub stops-held : stops v ≡ Ok (stops_after machine c.records v.breakpoints v.place)
  stops-held = rw (h.program, h.values, h.capture) refl

  -- a run without a limit that has a hit ahead
  run-first : (stop : Stop) (left : List Stop) → stops_after machine c.records v.breakpoints v.place ≡ stop ∷ left
      → run v None ≡ Ok (stopped v stop)
  run-first stop left e = rw (h.program, h.values, h.capture, e) refl

  turns-first : (stop : Stop) (left : List Stop) → stops_after machine c.records v.breakpoints v.place ≡ stop ∷ left
      → turns_forward v (run v None) ≡ turns_between machine c.records v.place stop.place
  turns-first stop left e = rw (run-first stop left e, h.program, h.values, h.capture) refl

  -- and one that has none
  run-last : stops_after machine c.records v.breakpoints v.place ≡ [] → run v None ≡ Ok (finished v machine c.records)
  run-last e = rw (h.program, h.values, h.capture, e) refl

  turns-last : stops_after machine c.records v.breakpoints v.place ≡ []
      → turns_forward v (run v None) ≡ turns_to_end machine c.records v.place
  turns-last e = rw (run-last e, h.program, h.values, h.capture) refl

  turns_left-held : turns_left v ≡ turns_to_end machine c.records v.place
  turns_left-held = rw (h.program, h.values, h.capture) refl

  -- a stop
  first-hit : (new : View) (stop : Stop) → Continues v new (Stopped stop)
      → (left : List Stop) × (stops_after machine c.records v.breakpoints v.place ≡ stop ∷ left) × (stops new ≡ Ok left)
  first-hit new stop k =
      let here = stops-held in
      let before_are = k.before_are in
      let same : stops_after machine c.records v.breakpoints v.place ≡ k.before = cc in
      (k.after, same ∙ k.passes, k.after_are)

  -- the end
  no-hit : (new : View) (counted : Counts) → Continues v new (Finished counted)
      → stops_after machine c.records v.breakpoints v.place ≡ []
  no-hit new counted k =
      let here = stops-held in
      let before_are = k.before_are in
      let same : stops_after machine c.records v.breakpoints v.place ≡ k.before = cc in
      same ∙ k.passes

after_is : (a b : Place) → is_before a b ≡ true → is_before b a ≡ false
after_is a b h = grind (arith, nat_tests)

-- the turns to a hit and from it to the end
pub turns-rest : (machine : Machine) (c : Savefile) (v : View) (stop : Stop) (left : List Stop)
    → stops_after machine c.records v.breakpoints v.place ≡ stop ∷ left → turns_to_end machine c.records v.place
    ≡ turns_between machine c.records v.place stop.place + turns_to_end machine c.records stop.place
turns-rest machine c v stop left e =
    let fewer = turns-fewer machine c.records v.place stop.place
    (after_is v.place stop.place (rest-head machine c.records v.breakpoints v.place stop left e)) in omega (arith, fewer)

-- from the start all hits are ahead
ahead-start : (machine : Machine) (capture : List Record) → entries_after machine capture first_place ≡ joined machine capture
unfolding joined
ahead-start machine [] = refl
ahead-start machine (r ∷ more) = ahead-in machine (r ∷ more) 1 0 r (omega arith) refl

rest-start : (machine : Machine) (capture : List Record) (breakpoints : Breakpoints)
    → stops_after machine capture breakpoints first_place ≡ stops_in machine capture breakpoints
rest-start machine capture breakpoints = ap (stops_of breakpoints) (ahead-start machine capture)

from_start-held : (program : Option (List Insn)) (capture : Option Savefile) (v : View) → v.program ≡ program
    → v.capture ≡ capture → v.place ≡ first_place → stops v ≡ all_stops v
from_start-held None capture v p c e = rw p refl
from_start-held (Some list) None v p c e = rw (p, c) refl
from_start-held (Some list) (Some s) v p c e =
    rw (p, c, e) (ap Ok (rest-start (machine_of list v.values) s.records v.breakpoints))

pub from_start : (v : View) → v.place ≡ first_place → stops v ≡ all_stops v
from_start v e = from_start-held v.program v.capture v refl refl e

-- how far runs from a view have come
pub record Going (machine : Machine) (c : Savefile) (old new : View) (old_found new_found : List Stop)
    (before after : ℕ) : Type 0 where
  pub sound : IsSound machine.list
  pub few : length c.records < 2 ^ 60
  pub old_holds : HasLoaded machine c old
  pub new_holds : HasLoaded machine c new
  pub passed : List Stop
  pub place : new ≡ record old { place = last_or old.place (map (λ stop. stop.place) passed) }
  pub found : new_found ≡ old_found ++ passed
  pub hits : stops_after machine c.records old.breakpoints old.place
      ≡ passed ++ stops_after machine c.records new.breakpoints new.place
  pub spent : after + turns_to_end machine c.records new.place ≡ before + turns_to_end machine c.records old.place
  pub spare : before ≤ 2 ^ 126

last-append : (place : Place) (hits : List Stop) (stop : Stop)
    → last_or place (map (λ s. s.place) (hits ++ stop ∷ [])) ≡ stop.place
last-append place [] stop = refl
last-append place (h ∷ hits) stop = last-append h.place hits stop

module _ (machine : Machine) (c : Savefile) (old v : View) (f g : List Stop) (m n : ℕ)
    (h : Going machine c old v f g m n) where
  pub going-spare : n ≤ 2 ^ 127
  going-spare = omega (arith, few_after machine c.records (place_before old.place) h.sound h.few, h.spent, h.spare)

  pub going-found : Found old v f g
  going-found = record {
    first = h.passed;
    after = stops_after machine c.records v.breakpoints v.place;
    before_are = stops-held machine c old h.old_holds ∙ ap Ok h.hits;
    after_are = stops-held machine c v h.new_holds;
    found_are = h.found;
    moves = h.place;
  }

  -- the turns so far
  pub going-turns : n + turns_left v ≡ m + turns_left old
  going-turns = rw (turns_left-held machine c v h.new_holds, turns_left-held machine c old h.old_holds) h.spent

  pub going-stop : (new : View) (stop : Stop) (g2 : List Stop) (k : ℕ) → Continues v new (Stopped stop)
      → new ≡ view_after v (run v None) → k ≡ n + turns_forward v (run v None) → g2 ≡ g ++ stop ∷ []
      → Going machine c old new f g2 m k
  going-stop new stop g2 k ahead_is after turns pushed =
      let first = first-hit machine c v h.new_holds new stop ahead_is in
      let there : new ≡ record v { place = stop.place } =
      after ∙ ap (view_after v) (run-first machine c v h.new_holds stop first.0 first.1) in
      let holds : HasLoaded machine c new = rw there
      (record { program = h.new_holds.program; values = h.new_holds.values; capture = h.new_holds.capture }) in
      let left : stops_after machine c.records new.breakpoints new.place ≡ first.0 =
      (let s = stops-held machine c new holds in let t = first.2 in cc) in
      let spent = turns ∙ ap (λ t. n + t) (turns-first machine c v h.new_holds stop first.0 first.1) in
      let place : new.place ≡ stop.place = rw there refl in
      record {
        sound = h.sound;
        few = h.few;
        old_holds = h.old_holds;
        new_holds = holds;
        passed = h.passed ++ stop ∷ [];
        place = rw (last-append old.place h.passed stop)
            (there ∙ ap (λ (x : View). record x { place = stop.place }) h.place);
        found = pushed ∙ ap (λ xs. xs ++ stop ∷ []) h.found ∙ append_assoc f h.passed (stop ∷ []);
        hits = rw left ((rw first.1 at h.hits) ∙ sym (append_assoc h.passed (stop ∷ []) first.0));
        spent = rw place (omega (arith, spent, turns-rest machine c v stop first.0 first.1, h.spent));
        spare = h.spare;
      }

  module _ (new : View) (counted : Counts) (ahead_is : Continues v new (Finished counted)) where
    none : stops_after machine c.records v.breakpoints v.place ≡ []
    none = no-hit machine c v h.new_holds new counted ahead_is

    pub going-end : Ok (Finished counted) ≡ reply_of (run v None) → new ≡ view_after v (run v None)
        → (Ok counted ≡ reply_of (run_to_end old)) × (new ≡ view_after old (run_to_end old))
        × (g ≡ f ++ stops_after machine c.records old.breakpoints old.place)
    going-end reply after =
        let ran = run-last machine c v h.new_holds none in
        let there : new ≡ record v { place = first_place; origin = 1 } = after ∙ ap (view_after v) ran in
        let answered : Ok (Finished counted) ≡ Ok (Finished (counts machine c.records v.origin (length c.records + 1))) =
        reply ∙ ap reply_of ran in
        let all : counted ≡ counts machine c.records old.origin (length c.records + 1) =
        (let first : v.origin ≡ old.origin = ap (λ (x : View). x.origin) h.place in
        let e : counted ≡ counts machine c.records v.origin (length c.records + 1) = cc in rw first at e) in
        let o = h.old_holds in
        let i = h.new_holds in
        let same : v.breakpoints ≡ old.breakpoints = ap (λ (x : View). x.breakpoints) h.place in (
          rw (o.program, o.values, o.capture, all) refl,
          rw (o.program, o.values, o.capture, there, i.program, i.values, i.capture, same) refl,
          h.found ∙ ap (λ xs. f ++ xs) (sym ((rw none at h.hits) ∙ append-nil h.passed)),
        )

    -- and all turns
    pub end-turns : (k : ℕ) → k ≡ n + turns_forward v (run v None) → k ≡ m + turns_left old
    end-turns k turns = omega (
      arith,
      turns,
      turns-last machine c v h.new_holds none,
      turns_left-held machine c old h.old_holds,
      h.spent,
    )

-- how many hits are ahead
abbrev pub how_many : Result (List Stop) SessionFault → ℕ
how_many (Ok hits) = length hits
how_many (Err e) = 0

pub fewer : (old new : View) (stop : Stop) → Continues old new (Stopped stop)
    → how_many (stops new) < how_many (stops old)
fewer old new stop k = rw (k.before_are, k.after_are, k.passes) (omega arith)
