-- The outcomes of a run of packets.
use Rattle.std.proofs.Common.{◌≡◌, ℕ, zero, suc, ◌+◌, ◌-◌, ◌<◌, ◌≤◌, ◌^◌, List, [], ◌∷◌, ◌++◌, length, drop, take}
use Rattle.std.proofs.Common.{Bool, arith, ap, refl, cond, add-zero, length-drop, length-take}
use Rattle.std.proofs.lemmas.List.Sums.{sum_by-append, count_by-le-length}
use Rattle.std.proofs.Math.ListN.{length-map}
use Rattle.std.proofs.lemmas.List.{map-append}
use Rattle.cbpf_reply.specs.declared.reply.Counts.{Counts}
use Rattle.std.specs.Prelude.{Some, slice_get, count_by}
use Rattle.cbpf_machine.specs.Machine.{Machine}
use Rattle.cbpf_machine.specs.declared.outcome.Outcome.{Outcome}
use Rattle.cbpf_machine.specs.declared.outcome.Outcome.TheVariants as outcome_is
use Rattle.cbpf_machine.specs.Trace.{outcome}
use Rattle.pcap_classic.specs.Records.{Record}
use Rattle.cbpf_machine.proofs.ListLemmas.{take-slice_get}
use Rattle.cbpf_machine.specs.Outcomes.{is_fail, is_pass, is_unknown}
use Rattle.cbpf_dbg.specs.Joined.{outcomes, counts}
use Rattle.cbpf_dbg.specs.Cursor.{Stands, Countable, with_outcome}
use Rattle.cbpf_dbg.specs.declared.cursor.Cursor.{Cursor}

slice_get-drop : {X : Type 0} (xs : List X) (n i : ℕ) → slice_get (drop n xs) i ≡ slice_get xs (n + i)
slice_get-drop xs zero i = let e : 0 + i ≡ i = omega arith in rw e refl
slice_get-drop [] (suc n) i = refl
slice_get-drop (x ∷ xs) (suc n) i = let e : suc n + i ≡ suc (n + i) = omega arith in rw e (slice_get-drop xs n i)

pub outcomes-more : (machine : Machine) (capture : List Record) (from p : ℕ) (r : Record) → 1 ≤ from → from ≤ p
    → slice_get capture (p - 1) ≡ Some r
    → outcomes machine capture from (p + 1) ≡ outcomes machine capture from p ++ outcome machine r.bytes r.wire ∷ []
outcomes-more machine capture from p r from_one ordered at =
    let e : p + 1 - from ≡ p - from + 1 = omega arith in
    let i : from - 1 + (p - from) ≡ p - 1 = omega arith in
    let here : slice_get (drop (from - 1) capture) (p - from) ≡ Some r =
    rw (slice_get-drop capture (from - 1) (p - from), i) at in
    rw e (rw (take-slice_get (drop (from - 1) capture) (p - from) r here)
    (map-append (λ (q : Record). outcome machine q.bytes q.wire) (take (p - from) (drop (from - 1) capture)) (r ∷ [])))

count_more : {X : Type 0} (f : X → Bool) (xs : List X) (x : X)
    → count_by f (xs ++ x ∷ []) ≡ count_by f xs + cond (f x) 1 0
count_more f xs x =
    let e = sum_by-append (λ y. cond (f y) 1 0) xs (x ∷ []) in
    let z : 0 + cond (f x) 1 0 ≡ cond (f x) 1 0 = omega arith in
    rw z at e

added : (passes fails unknown : ℕ) (o : Outcome) → ◌≡◌ {A = Counts} (record {
  passes = passes + cond (is_pass o) 1 0;
  fails = fails + cond (is_fail o) 1 0;
  unknown = unknown + cond (is_unknown o) 1 0;
}) (with_outcome (record { passes = passes; fails = fails; unknown = unknown }) o)
added passes fails unknown (outcome_is.Pass v) = rw (add-zero fails, add-zero unknown) refl
added passes fails unknown outcome_is.Fail = rw (add-zero passes, add-zero unknown) refl
added passes fails unknown (outcome_is.Unknown e) = rw (add-zero passes, add-zero fails) refl

-- one more packet is one more outcome
pub counts-more : (machine : Machine) (capture : List Record) (from p : ℕ) (r : Record) → 1 ≤ from → from ≤ p
    → slice_get capture (p - 1) ≡ Some r → counts machine capture from (p + 1)
    ≡ with_outcome (counts machine capture from p) (outcome machine r.bytes r.wire)
unfolding counts
counts-more machine capture from p r from_one ordered at =
    let sofar = outcomes machine capture from p in
    let o = outcome machine r.bytes r.wire in
    rw (
      outcomes-more machine capture from p r from_one ordered at,
      count_more is_pass sofar o,
      count_more is_fail sofar o,
      count_more is_unknown sofar o,
    ) (added (count_by is_pass sofar) (count_by is_fail sofar) (count_by is_unknown sofar) o)

length-outcomes : (machine : Machine) (capture : List Record) (from to : ℕ)
    → length (outcomes machine capture from to) ≤ length capture
length-outcomes machine capture from to =
    omega (
      arith,
      length-map (take (to - from) (drop (from - 1) capture)) (λ (r : Record). outcome machine r.bytes r.wire),
      length-take (to - from) (drop (from - 1) capture),
      length-drop (from - 1) capture,
    )

-- no count is above the number of packets
pub record AtMost (n : Counts) (k : ℕ) : Type 0 where
  pub passes : n.passes ≤ k
  pub fails : n.fails ≤ k
  pub unknown : n.unknown ≤ k

pub counts-at_most : (machine : Machine) (capture : List Record) (from to : ℕ)
    → AtMost (counts machine capture from to) (length capture)
unfolding counts
counts-at_most machine capture from to =
    let all : List Outcome = outcomes machine capture from to in
    let l = length-outcomes machine capture from to in
    record {
      passes = omega (arith, l, count_by-le-length is_pass all);
      fails = omega (arith, l, count_by-le-length is_fail all);
      unknown = omega (arith, l, count_by-le-length is_unknown all);
    }

pub countable : (machine : Machine) (capture : List Record) (w : Cursor) → Stands machine capture w
    → length capture < 2 ^ 60 → Countable w.place.packet w.counts
countable machine capture w h few =
    let most = counts-at_most machine capture w.origin w.place.packet in
    record {
      packets = omega (arith, h.within, few);
      passes = omega (arith, most.passes, ap (λ (n : Counts). n.passes) h.counted, few);
      fails = omega (arith, most.fails, ap (λ (n : Counts). n.fails) h.counted, few);
      unknown = omega (arith, most.unknown, ap (λ (n : Counts). n.unknown) h.counted, few);
    }
