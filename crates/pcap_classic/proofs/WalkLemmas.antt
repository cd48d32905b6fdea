-- A walk from record to record.
use Rattle.std.proofs.Common.{◌≡◌, ℕ, zero, suc, ◌+◌, ◌-◌, ◌<◌, ◌≤◌, List, [], ◌∷◌, length, drop, take, min, arith, refl, add-one}
use Rattle.std.proofs.lemmas.Grind.{common_steps}
use Rattle.std.specs.Prelude.{Some, None, slice_get}
use Rattle.pcap_classic.specs.declared.captured.{Endianness.Endianness, TheConstants.RECORD_HEADER}
use Rattle.pcap_classic.specs.Index.{AreRecordsFrom}
use Rattle.pcap_classic.specs.Records.{Record}
use Rattle.pcap_classic.specs.Contents.{contents}
use Rattle.pcap_classic.proofs.ReachLemmas.{after}

pub nothing_left : {X : Type 0} (xs : List X) → slice_get xs 0 ≡ None → xs ≡ []
nothing_left [] h = refl
nothing_left (x ∷ xs) h = cc

-- the first of those that are left stands before the end
record IsFirst {X : Type 0} (xs : List X) (i e : ℕ) (x : X) : Type 0 where
  pub before : i < e
  pub is : slice_get xs i ≡ Some x
  pub left : drop i (take e xs) ≡ x ∷ drop (i + 1) (take e xs)

is_first : {X : Type 0} (xs : List X) (i e : ℕ) (x : X) → slice_get (drop i (take e xs)) 0 ≡ Some x → IsFirst xs i e x
is_first [] zero zero x h = cc
is_first [] zero (suc e) x h = cc
is_first [] (suc i) zero x h = cc
is_first [] (suc i) (suc e) x h = cc
is_first (y ∷ xs) zero zero x h = cc
is_first (y ∷ xs) (suc i) zero x h = cc
is_first (y ∷ xs) zero (suc e) x h = record { before = omega arith; is = h; left = cc }
is_first (y ∷ xs) (suc i) (suc e) x h =
    let rest = is_first xs i e x h in
    record { before = omega (arith, rest.before); is = rest.is; left = rw add-one (rw add-one at rest.left) }

-- the records left before an end, which may be far behind the last, and before the first
pub left_of : {X : Type 0} (xs : List X) (from end : ℕ) → 1 ≤ from
    → drop (min from (min end (length xs + 1)) - 1) (take (min end (length xs + 1) - 1) xs)
    ≡ drop (from - 1) (take (end - 1) xs)
left_of xs from end one = grind (arith, common_steps)

-- past the first record there are the records from the next number on
pub record Goes (order : Endianness) (file : List ℕ) (number end : ℕ) (r : Record) : Type 0 where
  pub left : drop (number - 1) (take (end - 1) (contents order file).records)
      ≡ r ∷ drop (number + 1 - 1) (take (end - 1) (contents order file).records)
  pub walk : AreRecordsFrom order file (r.start + RECORD_HEADER + length r.bytes) (number + 1) end
  pub inside : r.start + RECORD_HEADER + length r.bytes ≤ length file

pub goes : (order : Endianness) (file : List ℕ) (offset number end : ℕ) (r : Record)
    → AreRecordsFrom order file offset number end
    → slice_get (drop (number - 1) (take (end - 1) (contents order file).records)) 0 ≡ Some r
    → Goes order file number end r
goes order file offset number end r walk first =
    let head = is_first (contents order file).records (number - 1) (end - 1) r first in
    let before : number < end = omega (arith, head.before) in
    let one = walk.from_one before in
    let there = after order file (number - 1) r walk.long head.is in
    let on : number - 1 + 1 ≡ number + 1 - 1 = omega (arith, one) in
    let next = rw on at there.there in
    record {
      left = rw on at head.left;
      walk = record {
        long = walk.long;
        ordered = omega (arith, before);
        within = walk.within;
        from_one = λ h. omega arith;
        there = λ h. next;
      };
      inside = next.inside;
    }
