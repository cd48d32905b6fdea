-- The records after the file header of a capture, and how they end (pcap-savefile(5), the per-packet header; that a cut
-- last record is reported by its offset is this crate's rule).
use Rattle.std.specs.Prelude.{◌≡◌, ℕ, ◌+◌, ◌-◌, ◌≤◌, ◌<◌, List, [], ◌∷◌, length, take, drop, slice_get, Some}
use Rattle.pcap_classic.specs.FileNumbers.{number_at}
use Rattle.pcap_classic.specs.declared.captured.{Endianness.Endianness, TheConstants.RECORD_HEADER}
use Rattle.pcap_classic.specs.declared.ending.Ending.{Ending, TheVariants.Whole, TheVariants.CutHeader, TheVariants.CutData}

-- a record: its number, counted from 1, the byte offset of its header in the file, its time stamp in
-- seconds and fractions, the packet's original length, and the captured bytes
pub record Record : Type 0 where
  pub number : ℕ
  pub start : ℕ
  pub seconds : ℕ
  pub fraction : ℕ
  pub wire : ℕ
  pub bytes : List ℕ

-- record n, counted from 1, stands at this offset of the file, if there is one
abbrev pub StartsAt : List Record → ℕ → ℕ → Type 0
StartsAt records n start = (r : Record) → slice_get records (n - 1) ≡ Some r → start ≡ r.start

-- the records have the numbers after this one, one after another
abbrev pub AreNumbered : ℕ → List Record → Type 0
AreNumbered before records = (i : ℕ) (r : Record) → slice_get records i ≡ Some r → r.number ≡ before + i + 1

-- the length of a record with its header of 16 bytes, whose third number is the captured length
abbrev pub record_length : Endianness → List ℕ → ℕ
record_length order bytes = RECORD_HEADER + number_at order 8 4 bytes

-- the record that the bytes begin with
abbrev pub record_at : Endianness → ℕ → ℕ → List ℕ → Record
record_at order n offset bytes =
    record {
      number = n;
      start = offset;
      seconds = number_at order 0 4 bytes;
      fraction = number_at order 4 4 bytes;
      wire = number_at order 12 4 bytes;
      bytes = take (number_at order 8 4 bytes) (drop RECORD_HEADER bytes);
    }

-- bytes that stand at an offset of the file hold these whole records, the first of which has number n, and
-- end in this way: there are none; they are a part of a header; they are a header with too few bytes
-- after it; or they begin with a whole record, and the bytes after it hold the others
pub data Holds (order : Endianness) : ℕ → ℕ → List ℕ → List Record → Ending → Type 0 where
  no_bytes : {n offset : ℕ} → Holds order n offset [] [] Whole
  part_of_header : {n offset : ℕ} (bytes : List ℕ) → 0 < length bytes → length bytes < RECORD_HEADER
      → Holds order n offset bytes [] (CutHeader offset)
  part_of_data : {n offset : ℕ} (bytes : List ℕ) → RECORD_HEADER ≤ length bytes
      → length bytes < record_length order bytes → Holds order n offset bytes [] (CutData offset)
  whole_record : {n offset : ℕ} {rest : List Record} {how : Ending} (bytes : List ℕ)
      → record_length order bytes ≤ length bytes
      → Holds order (n + 1) (offset + record_length order bytes) (drop (record_length order bytes) bytes) rest how
      → Holds order n offset bytes (record_at order n offset bytes ∷ rest) how
