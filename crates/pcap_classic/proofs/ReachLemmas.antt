-- Steps from record to record.
use Rattle.std.proofs.Common.{◌≡◌, ℕ, zero, suc, ◌+◌, ◌-◌, ◌<◌, ◌≤◌, List, [], ◌∷◌, length, drop, arith, sym, ap, ◌∙◌}
use Rattle.std.proofs.Common.{length-drop, add-one, refl}
use Rattle.std.specs.Prelude.{Some, slice_get}
use Rattle.std.proofs.lemmas.List.{drop-drop, length-take-le}
use Rattle.std.proofs.lemmas.Option.{slice_get_within}
use Rattle.pcap_classic.specs.declared.captured.{Endianness.Endianness, Extent.Extent, TheConstants.RECORD_HEADER}
use Rattle.pcap_classic.specs.declared.header.TheConstants.{FILE_HEADER}
use Rattle.pcap_classic.specs.declared.captured.Extent.TheVariants.{Nothing, PartOfHeader, PartOfData, WholeRecord}
use Rattle.pcap_classic.specs.Records.{Record, StartsAt, record_at, record_length}
use Rattle.pcap_classic.specs.Contents.{extent_of, contents}
use Rattle.pcap_classic.specs.FileNumbers.{number_at}
use Rattle.pcap_classic.specs.Index.{IsRecordStart, ending_by}
use Rattle.pcap_classic.proofs.HoldsLemmas.{HasExtent, has_extent, contents-hold, more-whole}

slice_get-drop_head : {X : Type 0} (xs : List X) (i : ℕ) (x : X) (rest : List X) → drop i xs ≡ x ∷ rest
    → (slice_get xs i ≡ Some x) × (drop (i + 1) xs ≡ rest)
slice_get-drop_head [] zero x rest h = cc
slice_get-drop_head [] (suc i) x rest h = cc
slice_get-drop_head (y ∷ xs) zero x rest h = (cc, cc)
slice_get-drop_head (y ∷ xs) (suc i) x rest h = rw add-one (rw add-one at (slice_get-drop_head xs i x rest h))

-- the first record, or the end, stands after the file header
pub reaches_first : (order : Endianness) (file : List ℕ) → FILE_HEADER ≤ length file
    → IsRecordStart order file 0 FILE_HEADER
reaches_first order file h =
    record {
      inside = h;
      passed = omega arith;
      rest = contents-hold _ order 1 FILE_HEADER (drop FILE_HEADER file) (omega arith);
    }

-- a record that stands before the end, and the offset after it
pub record Onward (order : Endianness) (file : List ℕ) (i offset size : ℕ) : Type 0 where
  pub header : RECORD_HEADER ≤ size
  pub within : size ≤ length (drop offset file)
  pub inside : offset + size ≤ length file
  pub found : slice_get (contents order file).records i ≡ Some (record_at order (i + 1) offset (drop offset file))
  pub next : IsRecordStart order file (i + 1) (offset + size)

-- a whole record is the next one of the file, and the one after it, or the end, stands behind it
pub onward : (order : Endianness) (file : List ℕ) (i offset size : ℕ) → IsRecordStart order file i offset
    → extent_of order (drop offset file) ≡ WholeRecord size → Onward order file i offset size
onward order file i offset size here whole =
    let front = rw whole at (has_extent order _ _ _ _ _ here.rest) in
    let split = slice_get-drop_head _ i _ _ front.3 in
    let passed = slice_get_within _ i _ split.0 in
    let left = length-drop offset file in
    record {
      header = omega (arith, front.0);
      within = front.1;
      inside = omega (arith, front.1, here.inside);
      found = split.0;
      next = record {
        inside = omega (arith, front.1, here.inside);
        passed = omega (arith, passed);
        rest = rw (← drop-drop size offset file, split.1) front.4;
      };
    }

-- before the last record a whole record is in front
pub onward_more : (order : Endianness) (file : List ℕ) (i offset : ℕ) → IsRecordStart order file i offset
    → i < length (contents order file).records → Onward order file i offset (record_length order (drop offset file))
onward_more order file i offset here more =
    let left = length-drop i (contents order file).records in
    onward order file i offset _ here (more-whole order _ _ _ _ _ here.rest (omega arith))

pub record IsEnd (order : Endianness) (file : List ℕ) (i offset : ℕ) (extent : Extent) : Type 0 where
  pub count : i ≡ length (contents order file).records
  pub ending : ending_by extent offset ≡ (contents order file).ending

-- with no whole record in front the file ends
pub reaches_end : (order : Endianness) (file : List ℕ) (i offset : ℕ) → IsRecordStart order file i offset
    → ((size : ℕ) → extent_of order (drop offset file) ≡ WholeRecord size → ⊥)
    → IsEnd order file i offset (extent_of order (drop offset file))
reaches_end order file i offset here none =
    by (extent_of order (drop offset file)) none (has_extent order _ _ _ _ _ here.rest)
  where
    ended : (extent : Extent) → drop i (contents order file).records ≡ []
        → (contents order file).ending ≡ ending_by extent offset → IsEnd order file i offset extent
    ended extent nothing ending =
        let some = length-drop i (contents order file).records in
        record { count = omega (arith, ap length nothing, here.passed); ending = sym ending }

    by : (extent : Extent) → ((size : ℕ) → extent ≡ WholeRecord size → ⊥)
        → HasExtent order (i + 1) offset (drop offset file) (drop i (contents order file).records)
        (contents order file).ending extent → IsEnd order file i offset extent
    by (WholeRecord size) none there = absurd (none size refl)
    by Nothing none there = ended Nothing there.0 there.1
    by PartOfHeader none there = ended PartOfHeader there.0 there.1
    by PartOfData none there = ended PartOfData there.0 there.1

stands : (order : Endianness) (file : List ℕ) (i : ℕ) → FILE_HEADER ≤ length file
    → i ≤ length (contents order file).records → (offset : ℕ) × IsRecordStart order file i offset
stands order file zero long h = (FILE_HEADER, reaches_first order file long)
stands order file (suc i) long h =
    let before = stands order file i long (omega arith) in
    let on = onward_more order file i before.0 before.1 (omega arith) in
    (_, rw add-one at on.next)

-- the offset where record i + 1 is found is its start
pub start_once : (order : Endianness) (file : List ℕ) (i offset : ℕ) (r : Record) → IsRecordStart order file i offset
    → slice_get (contents order file).records i ≡ Some r → offset ≡ r.start
start_once order file i offset r here found =
    let on = onward_more order file i offset here (slice_get_within (contents order file).records i r found) in
    let is : record_at order (i + 1) offset (drop offset file) ≡ r = cc (found, on.found) in
    ap (λ (x : Record). x.start) is

-- where record n starts it is found
pub start_is : (order : Endianness) (file : List ℕ) (n offset : ℕ) → FILE_HEADER ≤ length file → 1 ≤ n
    → n ≤ length (contents order file).records → StartsAt (contents order file).records n offset
    → IsRecordStart order file (n - 1) offset
start_is order file n offset long one within there =
    let here = stands order file (n - 1) long (omega (arith, within)) in
    let on = onward_more order file (n - 1) here.0 here.1 (omega (arith, one, within)) in
    rw (there _ on.found) here.1

-- the number of a record of the file, and the offset after it
pub record After (order : Endianness) (file : List ℕ) (i : ℕ) (r : Record) : Type 0 where
  pub number : r.number ≡ i + 1
  pub there : IsRecordStart order file (i + 1) (r.start + RECORD_HEADER + length r.bytes)

pub after : (order : Endianness) (file : List ℕ) (i : ℕ) (r : Record) → FILE_HEADER ≤ length file
    → slice_get (contents order file).records i ≡ Some r → After order file i r
after order file i r long found =
    let inside = slice_get_within (contents order file).records i r found in
    let here = stands order file i long (omega (arith, inside)) in
    let on = onward_more order file i here.0 here.1 inside in
    let is : r ≡ record_at order (i + 1) here.0 (drop here.0 file) = cc (found, on.found) in
    let captured : length r.bytes ≡ number_at order 8 4 (drop here.0 file) =
    ap (λ (x : Record). length x.bytes) is
    ∙ length-take-le (number_at order 8 4 (drop here.0 file)) (drop RECORD_HEADER (drop here.0 file))
    (omega (arith, on.within, length-drop RECORD_HEADER (drop here.0 file))) in
    let offset : here.0 + record_length order (drop here.0 file) ≡ r.start + RECORD_HEADER + length r.bytes =
    omega (arith, ap (λ (x : Record). x.start) is, captured) in
    record { number = ap (λ (x : Record). x.number) is; there = rw offset at on.next }
