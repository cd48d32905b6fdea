-- What the bytes of a capture file say, or why they are no capture (pcap-savefile(5), version 2.4, with the magics
-- below).
use Rattle.std.specs.Prelude.{◌≡◌, ◌≤◌, ◌<◌, ◌⊎◌, ℕ, if◌then◌else◌, Bool, List, length, drop}
use Rattle.pcap_classic.specs.FileNumbers.{number_at}
use Rattle.pcap_classic.specs.Records.{Record, Holds}
use Rattle.pcap_classic.specs.declared.captured.Endianness.{Endianness}
use Rattle.pcap_classic.specs.declared.captured.Endianness.TheVariants.{Big}
use Rattle.pcap_classic.specs.declared.ending.Ending.{Ending}
use Rattle.pcap_classic.specs.declared.header.{CaptureFault.CaptureFault, TheConstants.FILE_HEADER}
use Rattle.pcap_classic.specs.declared.header.CaptureFault.TheVariants.{Header, Memory}
use Rattle.pcap_classic.specs.declared.header.HeaderFault.{HeaderFault}
use Rattle.pcap_classic.specs.declared.header.HeaderFault.TheVariants.{FileHeaderCut, UnknownMagic, UnknownVersion}

-- the magic number of time stamps in microseconds
abbrev pub micros_magic : ℕ
micros_magic = 0xa1b2c3d4

-- the magic number of time stamps in nanoseconds
abbrev pub nanos_magic : ℕ
nanos_magic = 0xa1b23c4d

-- the first four bytes are, in this byte order, the magic number of nanoseconds where `nanos` is true, and else that of
-- microseconds
abbrev pub HasMagic : Endianness → Bool → List ℕ → Type 0
HasMagic order nanos file = number_at order 0 4 file ≡ (if nanos then nanos_magic else micros_magic)

-- the two numbers after the magic are those of version 2.4
abbrev pub HasVersion : Endianness → List ℕ → Type 0
HasVersion order file = (number_at order 4 2 file ≡ 2) × (number_at order 6 2 file ≡ 4)

-- what a file holds, which the other crates call a capture: whether fractions of a second are nanoseconds, the link
-- type, the whole records in order, and how the file ends after them
pub record Savefile : Type 0 where
  pub nanos : Bool
  pub link : ℕ
  pub records : List Record
  pub ending : Ending

-- a file holds a capture, where `file` are its bytes and `c` is what they hold: a header of 24 bytes, whose last number
-- is the link type, and the records after it
pub record IsSavefile (file : List ℕ) (c : Savefile) : Type 0 where
  pub order : Endianness
  pub long : FILE_HEADER ≤ length file
  pub magic : HasMagic order c.nanos file
  pub version : HasVersion order file
  pub link : c.link ≡ number_at order 20 4 file
  pub contents : Holds order 1 FILE_HEADER (drop FILE_HEADER file) c.records c.ending

-- a file has no header of a capture, for this reason
abbrev pub IsHeaderRefusal : HeaderFault → List ℕ → Type 0
IsHeaderRefusal FileHeaderCut file = length file < FILE_HEADER
IsHeaderRefusal (UnknownMagic magic) file = (FILE_HEADER ≤ length file)
    × ((order : Endianness) (nanos : Bool) → ¬ HasMagic order nanos file) × (magic ≡ number_at Big 0 4 file)
IsHeaderRefusal UnknownVersion file = (FILE_HEADER ≤ length file) × (order : Endianness) × (nanos : Bool)
    × HasMagic order nanos file × (¬ HasVersion order file)

-- a file is refused with this fault: why it holds no capture, or `Memory`, where the file does hold a capture with a record
abbrev pub IsRefusal : CaptureFault → List ℕ → Type 0
IsRefusal (Header fault) file = IsHeaderRefusal fault file
IsRefusal Memory file = (c : Savefile) × IsSavefile file c × (0 < length c.records)

-- a file holds one capture at most
abbrev pub OneCapture : Type 0
OneCapture = (file : List ℕ) (c d : Savefile) → IsSavefile file c → IsSavefile file d → d ≡ c

-- a file has one fault at most
abbrev pub OneRefusal : Type 0
OneRefusal = (file : List ℕ) (e f : CaptureFault) → IsRefusal e file → IsRefusal f file → f ≡ e

-- a file that holds a capture has no fault but `Memory`
abbrev pub OnlyMemory : Type 0
OnlyMemory = (file : List ℕ) (c : Savefile) (e : CaptureFault) → IsSavefile file c → IsRefusal e file → e ≡ Memory

-- each file holds a capture, or has a fault
abbrev pub HasAnswer : Type 0
HasAnswer = (file : List ℕ) → ((c : Savefile) × IsSavefile file c) ⊎ ((e : CaptureFault) × IsRefusal e file)
