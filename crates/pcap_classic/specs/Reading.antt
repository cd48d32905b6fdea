-- What a reader of a capture has read, and what is left of the capture.
use Rattle.std.specs.Prelude.{◌≡◌, ◌≢◌, ℕ, ◌+◌, ◌<◌, ◌^◌, List, [], ◌∷◌, length, Option, Some, None, Result, Ok, Err, IsSome}
use Rattle.pcap_classic.specs.Contents.{extent_of}
use Rattle.pcap_classic.specs.Lent.{record_of}
use Rattle.pcap_classic.specs.Records.{Record}
use Rattle.pcap_classic.specs.Savefile.{Savefile, IsHeaderRefusal}
use Rattle.pcap_classic.specs.declared.captured.Captured.{Captured}
use Rattle.pcap_classic.specs.declared.captured.Endianness.{Endianness}
use Rattle.pcap_classic.specs.declared.captured.Extent.TheVariants.{WholeRecord}
use Rattle.pcap_classic.specs.declared.captured.TheConstants.{RECORD_HEADER}
use Rattle.pcap_classic.specs.declared.ending.Ending.{Ending, TheVariants.CutData}
use Rattle.pcap_classic.specs.declared.reading.ReadFault.{ReadFault, TheVariants.Memory, TheVariants.Read}
use Rattle.pcap_classic.specs.declared.reading.OpenFault.{OpenFault}
use Rattle.pcap_classic.specs.declared.reading.OpenFault.TheVariants as open_fault
use Rattle.pcap_classic.specs.declared.window.TheConstants.{ROOM}

-- the bytes that were read and not yet taken, and the offset in the file where they stand
pub record Unread : Type 0 where
  pub offset : ℕ
  pub bytes : List ℕ

-- how many records were read; how the capture ends, where the last call came to its end; and the capture without the
-- records that were read, where the reader's bytes are known
pub record Reading : Type 0 where
  pub count : ℕ
  pub ended : Option Ending
  pub left : Option Savefile

-- the next record takes with its header more than ROOM, which is 131,072 bytes, or it is cut in its data
abbrev pub NeedsRoom : List Record → Ending → Type 0
NeedsRoom (next ∷ rest) how = ROOM < RECORD_HEADER + length next.bytes
NeedsRoom [] how = (offset : ℕ) × (how ≡ CutData offset)

-- where `s` was left of a capture: its first record is lent, and the rest is left; or it has no record, and its ending
-- is known; or a read failed or memory ran out, and it is left as it was. Memory runs out only where the next record needs
-- room.
abbrev pub Gives : Savefile → Result (Option Captured) ReadFault → Reading → Type 0
Gives s (Ok (Some item)) new = (rest : Savefile) × (new.left ≡ Some rest)
    × (s ≡ record rest { records = record_of item ∷ rest.records })
Gives s (Ok None) new = (s.records ≡ []) × (new.ended ≡ Some s.ending) × (new.left ≡ Some s)
Gives s (Err (Read e)) new = new.left ≡ Some s
Gives s (Err Memory) new = (new.left ≡ Some s) × NeedsRoom s.records s.ending

-- whatever the reader's bytes are: a record has the next number, which is below 2^60; after `None` and after an `Err`
-- the count stays; and an ending is known exactly after `None`
abbrev pub Proceeds : ℕ → Result (Option Captured) ReadFault → Reading → Type 0
Proceeds before (Ok (Some item)) new = (item.number ≡ before + 1) × (new.count ≡ before + 1) × (new.count < 2 ^ 60)
    × (new.ended ≡ None)
Proceeds before (Ok None) new = (new.count ≡ before) × IsSome new.ended
Proceeds before (Err e) new = (new.count ≡ before) × (new.ended ≡ None)

-- a whole record is left of a capture, so that a read that does not fail gives it
abbrev pub HasRecord : Savefile → Type 0
HasRecord s = s.records ≢ []

-- the bytes have this fault of the header; of another fault nothing is said
abbrev pub IsOpenFault : List ℕ → OpenFault → Type 0
IsOpenFault file (open_fault.Header fault) = IsHeaderRefusal fault file
IsOpenFault file (open_fault.Read fault) = Unit {0}

-- where the end of a capture was found, no whole record stands in front
abbrev pub NoneLeftWhere : Option Ending → Endianness → List ℕ → Type 0
NoneLeftWhere None order bytes = Unit {0}
NoneLeftWhere (Some how) order bytes = (size : ℕ) → extent_of order bytes ≡ WholeRecord size → ⊥
