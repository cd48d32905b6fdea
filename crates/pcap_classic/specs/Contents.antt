-- What a file holds, as a function of its bytes, of which the model of a capture is made. That it gives what the
-- relations of Records and Savefile say is proved.
use Rattle.std.specs.Prelude.{ℕ, zero, suc, ◌+◌, ◌==◌, ◌&&◌, nat_lt, if◌then◌else◌, Bool, true, false, List, [], ◌∷◌}
use Rattle.std.specs.Prelude.{length, drop, Option, Some, None, Result, Ok, Err}
use Rattle.pcap_classic.specs.FileNumbers.{number_at}
use Rattle.pcap_classic.specs.Records.{Record, record_length, record_at}
use Rattle.pcap_classic.specs.Savefile.{Savefile, micros_magic, nanos_magic}
use Rattle.pcap_classic.specs.declared.captured.{Endianness.Endianness, TheConstants.RECORD_HEADER}
use Rattle.pcap_classic.specs.declared.captured.Endianness.TheVariants.{Big, Little}
use Rattle.pcap_classic.specs.declared.ending.Ending.{Ending, TheVariants.Whole, TheVariants.CutHeader, TheVariants.CutData}
use Rattle.pcap_classic.specs.declared.header.HeaderFault.{HeaderFault}
use Rattle.pcap_classic.specs.declared.header.HeaderFault.TheVariants.{FileHeaderCut, UnknownMagic, UnknownVersion}
use Rattle.pcap_classic.specs.declared.captured.Extent.{Extent}
use Rattle.pcap_classic.specs.declared.captured.Extent.TheVariants.{Nothing, PartOfHeader, PartOfData, WholeRecord}
use Rattle.pcap_classic.specs.declared.header.{Magic.Magic, FileHeader.FileHeader, TheConstants.FILE_HEADER}

-- how much of a record the bytes begin with
abbrev pub extent_of : Endianness → List ℕ → Extent
extent_of order bytes =
    if length bytes == 0 then Nothing
    else if nat_lt (length bytes) RECORD_HEADER then PartOfHeader
    else if nat_lt (length bytes) (record_length order bytes) then PartOfData
    else WholeRecord (record_length order bytes)

-- the whole records of some bytes, and how the bytes end after them
pub record Contents : Type 0 where
  pub records : List Record
  pub ending : Ending

-- the contents of bytes that stand at an offset of the file, by how much of a record they begin with, where the last
-- argument gives the contents after a whole record of this length
abbrev pub by_extent : Extent → ℕ → Record → (ℕ → Contents) → Contents
by_extent Nothing offset r rest = record { records = []; ending = Whole }
by_extent PartOfHeader offset r rest = record { records = []; ending = CutHeader offset }
by_extent PartOfData offset r rest = record { records = []; ending = CutData offset }
by_extent (WholeRecord size) offset r rest = record { records = r ∷ (rest size).records; ending = (rest size).ending }

-- the contents of bytes that stand at an offset of the file, the next record having number n. A record
-- takes at least one byte, so `most` is large enough where there are at most that many bytes
unfoldable pub contents_within : ℕ → Endianness → ℕ → ℕ → List ℕ → Contents
contents_within zero order n offset bytes = record { records = []; ending = Whole }
contents_within (suc most) order n offset bytes =
    by_extent (extent_of order bytes) offset (record_at order n offset bytes)
    (λ size. contents_within most order (n + 1) (offset + size) (drop size bytes))

-- the contents of all bytes from an offset of the file on, the next record having number n
abbrev pub contents_from : Endianness → ℕ → ℕ → List ℕ → Contents
contents_from order n offset bytes = contents_within (length bytes) order n offset bytes

-- the contents of a file, after its header
abbrev pub contents : Endianness → List ℕ → Contents
contents order file = contents_from order 1 FILE_HEADER (drop FILE_HEADER file)

-- the byte order in which the first four bytes are one of the magic numbers, and whether it is that of nanoseconds
abbrev pub magic_of : List ℕ → Option Magic
magic_of file =
    if number_at Big 0 4 file == micros_magic then Some (record { order = Big; nanos = false })
    else if number_at Big 0 4 file == nanos_magic then Some (record { order = Big; nanos = true })
    else if number_at Little 0 4 file == micros_magic then Some (record { order = Little; nanos = false })
    else if number_at Little 0 4 file == nanos_magic then Some (record { order = Little; nanos = true })
    else None

-- whether the two numbers after the magic are those of version 2.4
abbrev pub is_version_2_4 : Endianness → List ℕ → Bool
is_version_2_4 order file = (number_at order 4 2 file == 2) && (number_at order 6 2 file == 4)

-- the header, its last number being the link type; or the first reason why it is none
abbrev pub header_by_magic : Option Magic → List ℕ → Result FileHeader HeaderFault
header_by_magic None file = Err (UnknownMagic (number_at Big 0 4 file))
header_by_magic (Some magic) file =
    if is_version_2_4 magic.order file then Ok (record { magic = magic; link = number_at magic.order 20 4 file })
    else Err UnknownVersion

abbrev pub header_of : List ℕ → Result FileHeader HeaderFault
header_of file = if nat_lt (length file) FILE_HEADER then Err FileHeaderCut else header_by_magic (magic_of file) file

-- a capture without its first records, by the header and the bytes from an offset on, the next record having number n
abbrev pub savefile_from : FileHeader → ℕ → ℕ → List ℕ → Savefile
savefile_from header n offset bytes =
    let after = contents_from header.magic.order n offset bytes in
    record { nanos = header.magic.nanos; link = header.link; records = after.records; ending = after.ending }

-- the capture of a whole file, by its header
abbrev pub savefile_with : FileHeader → List ℕ → Savefile
savefile_with header file = savefile_from header 1 FILE_HEADER (drop FILE_HEADER file)
