-- What some bytes hold, by what they begin with.
use Rattle.std.proofs.Common.{◌≡◌, ℕ, zero, suc, ◌+◌, ◌≤◌, ◌<◌, List, [], ◌∷◌, length, drop, arith, refl, inl, inr}
use Rattle.std.proofs.Common.{length-drop, Some}
use Rattle.std.specs.Prelude.{slice_get}
use Rattle.std.proofs.lemmas.Bool.{cases_lt}
use Rattle.std.proofs.lemmas.Bool.Decides.{nat_tests}
use Rattle.pcap_classic.specs.declared.captured.{Endianness.Endianness, Extent.Extent, TheConstants.RECORD_HEADER}
use Rattle.pcap_classic.specs.declared.ending.Ending.{Ending}
use Rattle.pcap_classic.specs.declared.captured.Extent.TheVariants.{PartOfHeader, PartOfData, WholeRecord}
use Rattle.pcap_classic.specs.Index.{ending_by}
use Rattle.pcap_classic.specs.Records.{Record, Holds, no_bytes, part_of_header, part_of_data, whole_record, record_at}
use Rattle.pcap_classic.specs.Records.{record_length}
use Rattle.pcap_classic.specs.Contents.{extent_of, contents_within}

extent-header : (order : Endianness) (bytes : List ℕ) → 0 < length bytes → length bytes < RECORD_HEADER
    → extent_of order bytes ≡ PartOfHeader
extent-header order bytes some short = grind (arith, nat_tests)

pub extent-data : (order : Endianness) (bytes : List ℕ) → RECORD_HEADER ≤ length bytes
    → length bytes < record_length order bytes → extent_of order bytes ≡ PartOfData
extent-data order bytes long cut = grind (arith, nat_tests)

pub extent-whole : (order : Endianness) (bytes : List ℕ) → record_length order bytes ≤ length bytes
    → extent_of order bytes ≡ WholeRecord (record_length order bytes)
extent-whole order bytes whole = grind (arith, nat_tests)

-- what the function gives, the relation says
pub contents-hold : (most : ℕ) (order : Endianness) (n offset : ℕ) (bytes : List ℕ) → length bytes ≤ most
    → Holds order n offset bytes (contents_within most order n offset bytes).records
    (contents_within most order n offset bytes).ending
unfolding contents_within
contents-hold zero order n offset [] h = no_bytes
contents-hold zero order n offset (b ∷ bytes) h = absurd (omega arith)
contents-hold (suc most) order n offset [] h = no_bytes
contents-hold (suc most) order n offset (b ∷ rest) h =
    let bytes : List ℕ = b ∷ rest in
    elim (cases_lt (length bytes) RECORD_HEADER) [
      | inl short ↦ rw (extent-header order bytes (omega arith) short) (part_of_header bytes (omega arith) short)
      | inr long ↦ elim (cases_lt (length bytes) (record_length order bytes)) [
        | inl cut ↦ rw (extent-data order bytes long cut) (part_of_data bytes long cut)
        | inr whole ↦
            (let left = length-drop (record_length order bytes) bytes in
            rw (extent-whole order bytes whole)
            (whole_record bytes whole (contents-hold most order _ _ _ (omega arith))))
      ]
    ]

-- what the relation says where so much of a record is in front
abbrev pub HasExtent : Endianness → ℕ → ℕ → List ℕ → List Record → Ending → Extent → Type 0
HasExtent order n offset bytes rs how (WholeRecord size) = (size ≡ record_length order bytes) × (size ≤ length bytes)
    × (rest : List Record) × (rs ≡ record_at order n offset bytes ∷ rest)
    × Holds order (n + 1) (offset + size) (drop size bytes) rest how
HasExtent order n offset bytes rs how extent = (rs ≡ []) × (how ≡ ending_by extent offset)

pub has_extent : (order : Endianness) (n offset : ℕ) (bytes : List ℕ) (rs : List Record) (how : Ending)
    → Holds order n offset bytes rs how → HasExtent order n offset bytes rs how (extent_of order bytes)
has_extent order n offset _ _ _ no_bytes = (refl, refl)
has_extent order n offset _ _ _ (part_of_header bytes a b) = rw (extent-header order bytes a b) (refl, refl)
has_extent order n offset _ _ _ (part_of_data bytes a b) = rw (extent-data order bytes a b) (refl, refl)
has_extent order n offset _ _ _ (whole_record bytes a h) = rw (extent-whole order bytes a) (refl, a, _, refl, h)

-- before the last record a whole one is in front
pub more-whole : (order : Endianness) (n offset : ℕ) (bytes : List ℕ) (rs : List Record) (how : Ending)
    → Holds order n offset bytes rs how → 0 < length rs → extent_of order bytes ≡ WholeRecord (record_length order bytes)
more-whole order n offset _ _ _ (whole_record bytes a h) some = extent-whole order bytes a
more-whole order n offset _ _ _ _ some = absurd (omega arith)

-- some bytes hold one list of records alone
pub holds-once : (order : Endianness) (n offset : ℕ) (bytes : List ℕ) (rs rs' : List Record) (how how' : Ending)
    → Holds order n offset bytes rs how → Holds order n offset bytes rs' how' → (rs' ≡ rs) × (how' ≡ how)
holds-once order n offset _ _ rs' _ how' no_bytes k = has_extent order n offset [] rs' how' k
holds-once order n offset _ _ rs' _ how' (part_of_header bytes a b) k =
    rw (extent-header order bytes a b) at (has_extent order n offset bytes rs' how' k)
holds-once order n offset _ _ rs' _ how' (part_of_data bytes a b) k =
    rw (extent-data order bytes a b) at (has_extent order n offset bytes rs' how' k)
holds-once order n offset _ _ rs' how how' (whole_record bytes a h) k =
    let there = rw (extent-whole order bytes a) at (has_extent order n offset bytes rs' how' k) in
    let rest = holds-once order _ _ _ _ there.2 how how' h there.4 in
    (cc, rest.1)

-- the records of some bytes are numbered on
pub holds-numbered : (order : Endianness) (n offset : ℕ) (bytes : List ℕ) (rs : List Record) (how : Ending)
    → Holds order n offset bytes rs how → (i : ℕ) (r : Record) → slice_get rs i ≡ Some r → r.number ≡ n + i
holds-numbered order n offset _ _ _ no_bytes i r at = absurd cc
holds-numbered order n offset _ _ _ (part_of_header bytes a b) i r at = absurd cc
holds-numbered order n offset _ _ _ (part_of_data bytes a b) i r at = absurd cc
holds-numbered order n offset _ _ _ (whole_record bytes a h) zero r at =
    let same : record_at order n offset bytes ≡ r = cc in rw (← same) (omega arith)
holds-numbered order n offset _ _ _ (whole_record bytes a h) (suc i) r at =
    let is = holds-numbered order _ _ _ _ _ h i r at in omega (arith, is)
