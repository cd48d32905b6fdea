-- Packets of ranges, which are taken one range after another.
use Rattle.std.proofs.Common.{◌≡◌, ℕ, zero, suc, ◌<◌, ◌≤◌, List, [], ◌∷◌, ◌++◌, length, take, arith, refl, sym, ap, ◌∙◌}
use Rattle.std.proofs.Common.{length-append, append_assoc, inl, inr, take_all}
use Rattle.std.specs.Prelude.{Bool, true, false, Option, Some, None, filter, nat_le, slice_get, if◌then◌else◌}
use Rattle.std.specs.List.{All, list_any}
use Rattle.std.proofs.lemmas.Bool.{cases_lt, or_parts}
use Rattle.std.proofs.lemmas.Bool.Decides.{nat_tests}
use Rattle.std.proofs.lemmas.Grind.{flat_map-append}
use Rattle.std.proofs.lemmas.List.Elements.{filter-append}
use Rattle.std.proofs.lemmas.List.Folds.{list_any_at, list_any_none}
use Rattle.std.proofs.lemmas.Option.{get_or_from_slice_get, slice_get_within}
use Rattle.cbpf_code.proofs.WrittenLemmas.{appended-then, part-then}
use Rattle.cbpf_code.specs.Writing.{Appended}
use Rattle.pcap_classic.specs.Reading.{Reading}
use Rattle.pcap_classic.specs.Records.{Record}
use Rattle.pcap_classic.specs.Savefile.{Savefile}
use Rattle.cbpf_why.specs.Chosen.{AreSorted, chosen, is_chosen, is_within}
use Rattle.cbpf_why.specs.Taking.{Broke, HasCause, RangeFault, IsOver, Looked, LookedKnown, Ranged, TookFrom, TookFromKnown, LeftAfter, HasGathered, Went}
use Rattle.cbpf_why.specs.Question.{machine_in}
use Rattle.cbpf_why.specs.Reports.{ends_beyond, goes_to_end, packet_text, packets_text}
use Rattle.cbpf_why.specs.declared.chosen.PacketRange.{PacketRange}
use Rattle.cbpf_why.specs.declared.gathered.Gathered.{Gathered}
use Rattle.cbpf_why.specs.declared.question.Question.{Question}
use Rattle.cbpf_why.specs.declared.reporting.WhyFault.{WhyFault}
use Rattle.cbpf_why.specs.declared.reporting.WhyFault.TheVariants as why

-- ---- which ranges a number stands in

-- a range ends by a number of packets
abbrev pub EndsBy : ℕ → PacketRange → Type 0
EndsBy count range = range.last ≤ count

rest_of : {X : Type 0} (P : X → Type 0) (x : X) (xs : List X) → All P (x ∷ xs) → All P xs
rest_of P x xs h = λ k d l. h (suc k) d (omega (arith, l))

beyond : (count n : ℕ) (x : PacketRange) → EndsBy count x → count < n → is_within n x ≡ false
beyond count n x h above = grind (arith, nat_tests)

pub none_above : (count n : ℕ) (ranges : List PacketRange) → All (EndsBy count) ranges → count < n
    → list_any (is_within n) ranges ≡ false
none_above count n [] h above = refl
none_above count n (x ∷ xs) h above =
    let here = beyond count n x (h 0 x (omega arith)) above in
    rw here (none_above count n xs (rest_of (EndsBy count) x xs h) above)

outside : (n : ℕ) (x : PacketRange) → n < x.first → is_within n x ≡ false
outside n x h = grind (arith, nat_tests)

none_below : (n first : ℕ) (ranges : List PacketRange) → All (λ r. first ≤ r.first) ranges → n < first
    → list_any (is_within n) ranges ≡ false
none_below n first [] h below = refl
none_below n first (x ∷ xs) h below =
    let least : first ≤ x.first = h 0 x (omega arith) in
    rw (outside n x (omega (arith, least, below)))
    (none_below n first xs (rest_of (λ (r : PacketRange). first ≤ r.first) x xs h) below)

-- a number above those that the ranges before one end by, and below its first one
none_before : (ranges : List PacketRange) (i : ℕ) (range : PacketRange) (count n : ℕ) → AreSorted ranges
    → slice_get ranges i ≡ Some range → All (EndsBy count) (take i ranges) → count < n → n < range.first
    → list_any (is_within n) ranges ≡ false
none_before [] i range count n sorted at ended above below = refl
none_before (x ∷ xs) zero range count n sorted at ended above below =
    let same : x ≡ range = cc in
    let first : n < x.first = rw same below in
    rw (outside n x first) (none_below n x.first xs (λ k d l. (sorted.0 k d l).0) first)
none_before (x ∷ xs) (suc i) range count n sorted at ended above below =
    rw (beyond count n x (ended 0 x (omega arith)) above)
    (none_before xs i range count n sorted.1 at (rest_of (EndsBy count) x (take i xs) ended) above below)

within_some : (ranges : List PacketRange) (i : ℕ) (range : PacketRange) (n : ℕ) → slice_get ranges i ≡ Some range
    → is_within n range ≡ true → list_any (is_within n) ranges ≡ true
within_some ranges i range n at is =
    list_any_at (is_within n) ranges i range (slice_get_within ranges i range at)
    (ap (is_within n) (get_or_from_slice_get ranges i range range at) ∙ is)

-- one up to a range's last one is looked at where it is in the range
chosen_here : (ranges : List PacketRange) (i : ℕ) (range : PacketRange) (count n : ℕ) → AreSorted ranges
    → slice_get ranges i ≡ Some range → All (EndsBy count) (take i ranges) → count < n → n ≤ range.last
    → is_chosen ranges n ≡ nat_le range.first n
chosen_here ranges i range count n sorted at ended above up_to =
    elim (cases_lt n range.first) [
      | inl below ↦
          (let no : nat_le range.first n ≡ false = grind (arith, nat_tests) in
          none_before ranges i range count n sorted at ended above below ∙ sym no)
      | inr from ↦
          (let yes : nat_le range.first n ≡ true = grind (arith, nat_tests) in
          let is : is_within n range ≡ true = grind (arith, nat_tests) in
          within_some ranges i range n at is ∙ sym yes)
    ]

pub ends-later : (a b : ℕ) (ranges : List PacketRange) → All (EndsBy a) ranges → a ≤ b → All (EndsBy b) ranges
ends-later a b ranges h le = λ k d l. let most = h k d l in omega (arith, most, le)

-- a range that ends beyond so many packets, and none that does
pub asks-end : (ranges : List PacketRange) (i : ℕ) (range : PacketRange) (count : ℕ) → slice_get ranges i ≡ Some range
    → count < range.last → true ≡ goes_to_end ranges count
asks-end ranges i range count at below =
    let is : ends_beyond count range ≡ true = grind (arith, nat_tests) in
    sym (list_any_at (ends_beyond count) ranges i range (slice_get_within ranges i range at)
    (ap (ends_beyond count) (get_or_from_slice_get ranges i range range at) ∙ is))

pub asks-no-end : (ranges : List PacketRange) (count : ℕ) → All (EndsBy count) ranges → false ≡ goes_to_end ranges count
asks-no-end ranges count h =
    sym (list_any_none (ends_beyond count) ranges (λ k d l. let most = h k d l in grind (arith, nat_tests)))

any_none : (ranges : List PacketRange) (count : ℕ) → list_any (ends_beyond count) ranges ≡ false
    → All (EndsBy count) ranges
any_none [] count none = λ k d l. absurd (omega (arith, l))
any_none (x ∷ xs) count none =
    let parts = or_parts (ends_beyond count x) (list_any (ends_beyond count) xs) none in
    by parts.0 (any_none xs count parts.1)
  where
    by : ends_beyond count x ≡ false → All (EndsBy count) xs → All (EndsBy count) (x ∷ xs)
    by here rest zero d l = grind (arith, nat_tests)
    by here rest (suc k) d l = rest k d (omega (arith, l))

pub all-end : (ranges : List PacketRange) (count : ℕ) → false ≡ goes_to_end ranges count → All (EndsBy count) ranges
all-end ranges count none = any_none ranges count (sym none)

-- ---- records

filter_like : (p q : Record → Bool) (xs : List Record) → ((i : ℕ) (r : Record) → slice_get xs i ≡ Some r → p r ≡ q r)
    → filter p xs ≡ filter q xs
filter_like p q [] h = refl
filter_like p q (x ∷ xs) h =
    let rest = filter_like p q xs (λ i r at. h (suc i) r at) in
    let here = h 0 x refl in
    ap (λ b. if b then x ∷ filter p xs else filter p xs) here ∙ ap (λ l. if q x then x ∷ l else l) rest

abbrev with_records : Savefile → List Record → Savefile
with_records s l = record s { records = l }

looked_more : (ranges : List PacketRange) (i : ℕ) (range : PacketRange) (s mid rest : Savefile) (before after : ℕ)
    (records more : List Record) → AreSorted ranges → slice_get ranges i ≡ Some range
    → All (EndsBy before) (take i ranges) → (before < after → after ≤ range.last)
    → Looked ranges s mid before records → TookFrom range.first mid rest before after more
    → Looked ranges s rest after (records ++ more)
looked_more ranges i range s mid rest before after records more sorted at ended up_to looked reads = record {
  front = looked.front ++ reads.front;
  split = looked.split
      ∙ ap (λ (x : Savefile). with_records x (looked.front ++ x.records)) reads.split
      ∙ ap (with_records rest) (sym (append_assoc looked.front reads.front rest.records));
  counted = omega (arith, looked.counted, reads.counted, length-append looked.front reads.front);
  among =
      let here : filter (λ r. nat_le range.first r.number) reads.front ≡ chosen ranges reads.front =
      filter_like (λ r. nat_le range.first r.number) (λ r. is_chosen ranges r.number) reads.front (λ j r there.
      let within = slice_get_within reads.front j r there in
      let number = reads.numbered j r there in
      let most = up_to (omega (arith, within, reads.counted)) in
      sym (chosen_here ranges i range before r.number sorted at ended (omega (arith, number))
      (omega (arith, number, within, reads.counted, most)))) in
      ap (λ l. l ++ more) looked.among
      ∙ ap (λ l. chosen ranges looked.front ++ l) (reads.taken ∙ here)
      ∙ sym (filter-append (λ r. is_chosen ranges r.number) looked.front reads.front);
}

known_more : (ranges : List PacketRange) (i : ℕ) (range : PacketRange) (old mid new : Option Savefile) (before after : ℕ)
    (records more : List Record) → AreSorted ranges → slice_get ranges i ≡ Some range
    → All (EndsBy before) (take i ranges) → (before < after → after ≤ range.last)
    → LookedKnown ranges old mid before records → TookFromKnown range.first mid new before after more
    → LookedKnown ranges old new after (records ++ more)
known_more ranges i range None mid new before after records more sorted at ended up_to looked reads = tt
known_more ranges i range (Some s) mid new before after records more sorted at ended up_to looked reads =
    let next = rw looked.1 at reads in (
      next.0,
      next.1,
      looked_more ranges i range s looked.0 next.0 before after records more sorted at ended up_to looked.2 next.2,
    )

-- ---- what was taken

cause_known : (fault : WhyFault) (ranges : List PacketRange) (old mid : Option Savefile) (new : Reading) (count : ℕ)
    (records : List Record) → LookedKnown ranges old mid count records → HasCause fault mid new → HasCause fault old new
cause_known why.Write ranges old mid new count records known h = tt
cause_known why.Read ranges old mid new count records known h = tt
cause_known why.Memory ranges None mid new count records known h = tt
cause_known why.Memory ranges (Some s) mid new count records known h = rw known.1 at h

pub went-nothing : {A P : Type 0} (q : Question P) (old : Reading) (c : Gathered A) (w : Option (List ℕ)) → HasGathered q c []
    → old.count ≡ 0 → Appended w w [] → Went q old old c w w
went-nothing q old c w took count nothing = record {
  records = [];
  took = took;
  few = omega arith;
  within = λ n ends. omega (arith, count);
  known = rw count (starts q.packets.now old.left);
  wrote = nothing;
}
  where
    starts : (ranges : List PacketRange) (o : Option Savefile) → LookedKnown ranges o o 0 []
    starts ranges None = tt
    starts ranges (Some s) = (s, refl, record { front = []; split = refl; counted = refl; among = refl })

module _ {A P : Type 0} (q : Question P) (i : ℕ) (range : PacketRange) (old mid new : Reading)
    (c d : Gathered A) (u v w : Option (List ℕ)) (sorted : AreSorted q.packets.now)
    (at : slice_get q.packets.now i ≡ Some range) (ended : All (EndsBy mid.count) (take i q.packets.now))
    (went : Went q old mid c u v) where
  by_last : (n : ℕ) → goes_to_end q.packets.now n ≡ false → (mid.count < new.count → new.count ≤ range.last)
      → new.count ≤ n
  by_last n ends up_to =
      let same = ap (λ (r : PacketRange). r.last) (get_or_from_slice_get q.packets.now i range range at) in
      let most = all-end q.packets.now n (sym ends) i range (slice_get_within q.packets.now i range at) in
      let before = went.within n ends in
      elim (cases_lt mid.count new.count) [
        | inl more ↦ (let last = up_to more in omega (arith, last, same, most))
        | inr none ↦ omega (arith, none, before)
      ]

  pub went-more : Ranged q range went.records mid new d v w → Went q old new d u w
  went-more ranged = record {
    records = went.records ++ ranged.going.more;
    took = ranged.going.took;
    few = ranged.going.few;
    within = λ n ends. by_last n ends ranged.up_to;
    known = known_more q.packets.now i range old.left mid.left new.left mid.count new.count went.records
        ranged.going.more sorted at ended ranged.up_to went.known ranged.going.reads;
    wrote = rw (flat_map-append (packet_text q.report (machine_in q)) went.records ranged.going.more)
        (appended-then _ _ _ _ _ went.wrote ranged.going.wrote);
  }

  pub broke-more : (fault : WhyFault) → RangeFault q range mid new v w fault → Broke q old.left new u w fault
  broke-more fault faulted = record {
    records = went.records ++ faulted.more;
    within = λ n ends. by_last n ends faulted.up_to;
    known = known_more q.packets.now i range old.left mid.left new.left mid.count new.count went.records
        faulted.more sorted at ended faulted.up_to went.known faulted.reads;
    cause = cause_known fault q.packets.now old.left mid.left new mid.count went.records went.known faulted.cause;
    stopped = rw (flat_map-append (packet_text q.report (machine_in q)) went.records faulted.more)
        (stopped_more fault u v w (packets_text q.report (machine_in q) went.records) _ went.wrote faulted.stopped);
  }
    where
      stopped_more : (e : WhyFault) (u v w : Option (List ℕ)) (a b : List ℕ) → Appended u v a → LeftAfter e v w b
          → LeftAfter e u w (a ++ b)
      stopped_more why.Write u v w a b x y = part-then u v w a b x y
      stopped_more why.Read u v w a b x y = appended-then u v w a b x y
      stopped_more why.Memory u v w a b x y = appended-then u v w a b x y

pub all-ended : (ranges : List PacketRange) (count i : ℕ) → length ranges ≤ i → All (EndsBy count) (take i ranges)
    → All (EndsBy count) ranges
all-ended ranges count i past h = rw (take_all i ranges past) at h

-- the end of what was left is that of the capture
pub is-over : {A P : Type 0} (q : Question P) (old mid new : Reading) (c : Gathered A) (u v : Option (List ℕ))
    → Went q old mid c u v → IsOver mid.left new → IsOver old.left new
is-over q old mid new c u v went over = by q.packets.now old.left mid.left new mid.count went.records went.known over
  where
    by : (ranges : List PacketRange) (a b : Option Savefile) (r : Reading) (n : ℕ) (records : List Record)
        → LookedKnown ranges a b n records → IsOver b r → IsOver a r
    by ranges None b r n records known h = tt
    by ranges (Some s) b r n records known h = rw known.1 at h
