-- What the index of a capture says of its bytes. No public clause names it.
use Rattle.std.specs.Prelude.{◌≡◌, ℕ, ◌+◌, ◌-◌, ◌*◌, ◌≤◌, ◌<◌, ◌^◌, List, length, drop, slice_index}
use Rattle.pcap_classic.specs.Records.{Holds}
use Rattle.pcap_classic.specs.Contents.{contents}
use Rattle.pcap_classic.specs.declared.captured.{Endianness.Endianness, Extent.Extent, TheConstants.RECORD_HEADER}
use Rattle.pcap_classic.specs.declared.ending.Ending.{Ending, TheVariants.Whole, TheVariants.CutHeader, TheVariants.CutData}
use Rattle.pcap_classic.specs.declared.captured.Extent.TheVariants.{Nothing, PartOfHeader, PartOfData, WholeRecord}
use Rattle.pcap_classic.specs.declared.{header.TheConstants.FILE_HEADER, index.TheConstants.STRIDE}

-- the record after the first i ones stands at this offset of the file, or would if there were one more
pub record IsRecordStart (order : Endianness) (file : List ℕ) (i offset : ℕ) : Type 0 where
  pub inside : offset ≤ length file
  pub passed : i ≤ length (contents order file).records
  pub rest : Holds order (i + 1) offset (drop offset file) (drop i (contents order file).records)
      (contents order file).ending

-- the starts are the offsets of the records 1, 65, 129 and so on of the first `count` ones
pub record AreKept (order : Endianness) (file : List ℕ) (starts : List ℕ) (count : ℕ) : Type 0 where
  pub enough : count ≤ STRIDE * length starts
  pub no_more : STRIDE * length starts < count + STRIDE
  pub each : (j : ℕ) → j < length starts → IsRecordStart order file (STRIDE * j) (slice_index starts j)

-- the first `count` records stand before this offset, and the starts are kept of them
pub record ArePassed (order : Endianness) (file : List ℕ) (count : ℕ) (starts : List ℕ) (offset : ℕ) : Type 0 where
  pub here : IsRecordStart order file count offset
  pub kept : AreKept order file starts count
  pub few : RECORD_HEADER * count + FILE_HEADER ≤ offset

-- the number of records, the offsets of the records 1, 65, 129 and so on, and how the file ends
pub record IsIndex (order : Endianness) (file : List ℕ) (count : ℕ) (starts : List ℕ) (how : Ending) : Type 0 where
  pub long : FILE_HEADER ≤ length file
  pub counted : count ≡ length (contents order file).records
  pub few : count < 2 ^ 60
  pub kept : AreKept order file starts count
  pub ended : how ≡ (contents order file).ending

-- how the file ends where no whole record is in front
abbrev pub ending_by : Extent → ℕ → Ending
ending_by Nothing offset = Whole
ending_by PartOfHeader offset = CutHeader offset
ending_by PartOfData offset = CutData offset
ending_by (WholeRecord size) offset = Whole

-- the records from this number on, up to, not including, `end`, where the first of them, if there is one, stands at this
-- offset
pub record AreRecordsFrom (order : Endianness) (file : List ℕ) (offset number end : ℕ) : Type 0 where
  pub long : FILE_HEADER ≤ length file
  pub ordered : number ≤ end
  pub within : end ≤ length (contents order file).records + 1
  pub from_one : number < end → 1 ≤ number
  pub there : number < end → IsRecordStart order file (number - 1) offset
