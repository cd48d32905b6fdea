-- The joined list from a place on.
use Rattle.std.proofs.Common.{◌≡◌, ℕ, zero, suc, ◌+◌, ◌-◌, ◌<◌, ◌≤◌, List, [], ◌∷◌, ◌++◌, length, drop, true}
use Rattle.std.proofs.Common.{false, arith, sym, ap, ◌∙◌, refl, inl, inr}
use Rattle.std.specs.Prelude.{Some, slice_get, filter}
use Rattle.std.proofs.lemmas.Bool.Decides.{nat_tests}
use Rattle.std.proofs.lemmas.List.{drop_all}
use Rattle.std.proofs.lemmas.List.Elements.{filter-append}
use Rattle.cbpf_machine.specs.Machine.{Machine}
use Rattle.cbpf_machine.specs.Registers.{Registers}
use Rattle.cbpf_machine.specs.Turn.{turn}
use Rattle.cbpf_machine.specs.Trace.{trace}
use Rattle.pcap_classic.specs.Records.{Record}
use Rattle.cbpf_reply.specs.declared.reply.Place.{Place}
use Rattle.cbpf_reply.specs.Places.{is_before}
use Rattle.cbpf_dbg.specs.Joined.{Entry, entries_from, packet_entries, joined_from, joined, entries_after}
use Rattle.std.proofs.lemmas.Option.{slice_get_cases}

-- the entry of a packet at a step
abbrev pub entry : Machine → Record → ℕ → ℕ → Registers → Entry
entry machine r packet step s = record {
  place = record { packet = packet; step = step };
  state = s;
  turn = turn machine r.bytes r.wire s;
}

abbrev pub place_at : ℕ → ℕ → Place
place_at p s = record { packet = p; step = s }

abbrev pub later : ℕ → ℕ → List Entry → List Entry
later p s es = filter (λ e. is_before (place_at p s) e.place) es

-- what the order says of two places
after_packet : (p s q k : ℕ) → p < q → is_before (place_at p s) (place_at q k) ≡ true
after_packet p s q k h = grind (arith, nat_tests)

not_after_packet : (p s q k : ℕ) → q < p → is_before (place_at p s) (place_at q k) ≡ false
not_after_packet p s q k h = grind (arith, nat_tests)

after_step : (p s k : ℕ) → s < k → is_before (place_at p s) (place_at p k) ≡ true
after_step p s k h = grind (arith, nat_tests)

not_after_step : (p s k : ℕ) → k ≤ s → is_before (place_at p s) (place_at p k) ≡ false
not_after_step p s k h = grind (arith, nat_tests)

-- a place that is not before another
pub not_before_on : (old new : Place) → new.packet ≡ old.packet → old.step ≤ new.step → is_before new old ≡ false
not_before_on old new p h = grind (arith, nat_tests)

pub not_before_past : (old new : Place) → old.packet < new.packet → is_before new old ≡ false
not_before_past old new h = grind (arith, nat_tests)

pub not_before_after : (old mid new : Place) → is_before mid old ≡ false → is_before new mid ≡ false
    → is_before new old ≡ false
not_before_after old mid new h k = grind (arith, nat_tests)

-- entries of an earlier packet are not after the place
later-packet_before : (machine : Machine) (r : Record) (p s q k : ℕ) (xs : List Registers) → q < p
    → later p s (entries_from machine r q k xs) ≡ []
later-packet_before machine r p s q k [] h = refl
later-packet_before machine r p s q k (x ∷ xs) h =
    rw (not_after_packet p s q k h) (later-packet_before machine r p s q (k + 1) xs h)

-- entries from a step on that are all after the place
later-all : (machine : Machine) (r : Record) (p s q k : ℕ) (xs : List Registers)
    → ((j : ℕ) → k ≤ j → is_before (place_at p s) (place_at q j) ≡ true)
    → later p s (entries_from machine r q k xs) ≡ entries_from machine r q k xs
later-all machine r p s q k [] after = refl
later-all machine r p s q k (x ∷ xs) after =
    rw (after k (omega arith), later-all machine r p s q (k + 1) xs (λ j more. after j (omega (arith, more)))) refl

-- of the packet's own entries, those that n more steps pass are not
later-step : (machine : Machine) (r : Record) (p s k n : ℕ) (xs : List Registers) → k + n ≡ s + 1
    → later p s (entries_from machine r p k xs) ≡ entries_from machine r p (s + 1) (drop n xs)
later-step machine r p s k zero xs h =
    let e : k ≡ s + 1 = omega arith in
    rw e (later-all machine r p s p (s + 1) xs (λ j more. after_step p s j (omega (arith, more))))
later-step machine r p s k (suc n) [] h = refl
later-step machine r p s k (suc n) (x ∷ xs) h =
    rw (not_after_step p s k (omega arith)) (later-step machine r p s (k + 1) n xs (omega arith))

-- all packets from a later one on
later-joined_after : (machine : Machine) (p s q : ℕ) (capture : List Record) → p < q
    → later p s (joined_from machine q capture) ≡ joined_from machine q capture
later-joined_after machine p s q [] h = refl
later-joined_after machine p s q (r ∷ rest) h =
    filter-append (λ (e : Entry). is_before (place_at p s) e.place) (packet_entries machine r q)
    (joined_from machine (q + 1) rest) ∙ rw (
      later-all machine r p s q 1 (trace machine r.bytes r.wire) (λ j _. after_packet p s q j h),
      later-joined_after machine p s (q + 1) rest (omega arith),
    ) refl

-- all packets, where the place is in the n-th of them
later-joined : (machine : Machine) (p s q n : ℕ) (capture : List Record) (r : Record) → q + n ≡ p
    → slice_get capture n ≡ Some r → later p s (joined_from machine q capture) ≡ entries_from machine r p (s + 1)
    (drop s (trace machine r.bytes r.wire)) ++ joined_from machine (p + 1) (drop (n + 1) capture)
later-joined machine p s q n [] r h g = absurd cc
later-joined machine p s q zero (x ∷ rest) r h g =
    let same : x ≡ r = cc in
    let at : q ≡ p = omega arith in
    filter-append (λ (e : Entry). is_before (place_at p s) e.place) (packet_entries machine x q)
    (joined_from machine (q + 1) rest) ∙ rw (at, same) (rw (
      later-step machine r p s 1 s (trace machine r.bytes r.wire) (omega arith),
      later-joined_after machine p s (p + 1) rest (omega arith),
    ) refl)
later-joined machine p s q (suc n) (x ∷ rest) r h g =
    let ih = later-joined machine p s (q + 1) n rest r (omega arith) g in
    filter-append (λ (e : Entry). is_before (place_at p s) e.place) (packet_entries machine x q)
    (joined_from machine (q + 1) rest) ∙ (let e : suc n + 1 ≡ suc (n + 1) = omega arith in
    rw (later-packet_before machine x p s q 1 (trace machine x.bytes x.wire) (omega arith), e) ih)

-- a place after all packets
later-joined_none : (machine : Machine) (p s q : ℕ) (capture : List Record) → q + length capture ≤ p
    → later p s (joined_from machine q capture) ≡ []
later-joined_none machine p s q [] h = refl
later-joined_none machine p s q (x ∷ rest) h =
    filter-append (λ (e : Entry). is_before (place_at p s) e.place) (packet_entries machine x q)
    (joined_from machine (q + 1) rest) ∙ rw (
      later-packet_before machine x p s q 1 (trace machine x.bytes x.wire) (omega arith),
      later-joined_none machine p s (q + 1) rest (omega arith),
    ) refl

-- what is ahead of a step of a packet of the capture
pub ahead-in : (machine : Machine) (capture : List Record) (p s : ℕ) (r : Record) → 1 ≤ p
    → slice_get capture (p - 1) ≡ Some r
    → entries_after machine capture (place_at p s) ≡ entries_from machine r p (s + 1) (drop s (trace machine r.bytes r.wire))
    ++ joined_from machine (p + 1) (drop p capture)
unfolding joined
ahead-in machine capture p s r from_one at =
    let e : p - 1 + 1 ≡ p = omega arith in
    rw e at (later-joined machine p s 1 (p - 1) capture r (omega arith) at)

-- nothing is ahead after the last packet
pub ahead-end : (machine : Machine) (capture : List Record) (p s : ℕ) → length capture < p
    → entries_after machine capture (place_at p s) ≡ []
unfolding joined
ahead-end machine capture p s h = later-joined_none machine p s 1 capture (omega arith)

drop-slice_get : {X : Type 0} (xs : List X) (i : ℕ) (x : X) → slice_get xs i ≡ Some x → drop i xs ≡ x ∷ drop (i + 1) xs
drop-slice_get [] i x h = cc
drop-slice_get (y ∷ ys) zero x h = let same : y ≡ x = cc in rw same refl
drop-slice_get (y ∷ ys) (suc i) x h =
    let ih = drop-slice_get ys i x h in
    let e : suc i + 1 ≡ suc (i + 1) = omega arith in
    rw e ih

-- the packet's next entry is the first ahead
pub ahead-entry : (machine : Machine) (capture : List Record) (p s : ℕ) (r : Record) (t : Registers) → 1 ≤ p
    → slice_get capture (p - 1) ≡ Some r → slice_get (trace machine r.bytes r.wire) s ≡ Some t
    → entries_after machine capture (place_at p s) ≡ entry machine r p (s + 1) t ∷ entries_after machine capture (place_at p (s + 1))
ahead-entry machine capture p s r t from_one at entry_is =
    ahead-in machine capture p s r from_one at ∙ rw (drop-slice_get (trace machine r.bytes r.wire) s t entry_is)
    (ap (λ rest. entry machine r p (s + 1) t ∷ rest) (sym (ahead-in machine capture p (s + 1) r from_one at)))

joined-next : (machine : Machine) (capture : List Record) (p : ℕ) → 1 ≤ p
    → joined_from machine (p + 1) (drop p capture) ≡ entries_after machine capture (place_at (p + 1) 0)
joined-next machine capture p from_one =
    elim (slice_get_cases capture p).1 [
      | inl found ↦
          let e : p + 1 - 1 ≡ p = omega arith in
          let at : slice_get capture (p + 1 - 1) ≡ Some found.0 = rw e found.2 in
          rw (drop-slice_get capture p found.0 found.2)
          (sym (ahead-in machine capture (p + 1) 0 found.0 (omega arith) at))
      | inr past ↦ rw (drop_all p capture past.0) (sym (ahead-end machine capture (p + 1) 0 (omega arith)))
    ]

-- after a packet's last entry comes the next packet
pub ahead-leave : (machine : Machine) (capture : List Record) (p s : ℕ) (r : Record) → 1 ≤ p
    → slice_get capture (p - 1) ≡ Some r → length (trace machine r.bytes r.wire) ≤ s
    → entries_after machine capture (place_at p s) ≡ entries_after machine capture (place_at (p + 1) 0)
ahead-leave machine capture p s r from_one at long =
    ahead-in machine capture p s r from_one at
    ∙ rw (drop_all s (trace machine r.bytes r.wire) long) (joined-next machine capture p from_one)

-- before a packet's first entry, its entries and those of the later packets
pub ahead-whole : (machine : Machine) (capture : List Record) (p : ℕ) (r : Record) → 1 ≤ p
    → slice_get capture (p - 1) ≡ Some r
    → entries_after machine capture (place_at p 0) ≡ packet_entries machine r p ++ entries_after machine capture (place_at (p + 1) 0)
ahead-whole machine capture p r from_one at =
    ahead-in machine capture p 0 r from_one at
    ∙ ap (λ later. packet_entries machine r p ++ later) (joined-next machine capture p from_one)
