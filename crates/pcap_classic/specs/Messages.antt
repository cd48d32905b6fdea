-- What the faults of a capture say, without `error: ` (this project's own).
use Rattle.std.specs.Prelude.{List, ℕ, codes}
use Rattle.pcap_classic.specs.declared.header.CaptureFault.{CaptureFault}
use Rattle.pcap_classic.specs.declared.header.CaptureFault.TheVariants as capture
use Rattle.pcap_classic.specs.declared.header.HeaderFault.{HeaderFault}
use Rattle.pcap_classic.specs.declared.header.HeaderFault.TheVariants.{FileHeaderCut, UnknownMagic, UnknownVersion}
use Rattle.pcap_classic.specs.declared.reading.OpenFault.{OpenFault}
use Rattle.pcap_classic.specs.declared.reading.OpenFault.TheVariants as opening
use Rattle.pcap_classic.specs.declared.reading.ReadFault.{ReadFault}
use Rattle.pcap_classic.specs.declared.reading.ReadFault.TheVariants as reading

-- what the fault of a growth that is refused says
abbrev pub out_of_memory : List ℕ
out_of_memory = codes "out of memory"

-- what the refusal of a header says
abbrev pub header_message : HeaderFault → List ℕ
header_message FileHeaderCut = codes "P1 file header is cut"
header_message (UnknownMagic magic) = codes "P2 unknown magic"
header_message UnknownVersion = codes "P3 version is not 2.4"

-- and that of a capture
abbrev pub capture_message : CaptureFault → List ℕ
capture_message (capture.Header fault) = header_message fault
capture_message capture.Memory = out_of_memory

-- what the fault of a read says
abbrev pub read_message : ReadFault → List ℕ
read_message (reading.Read cause) = codes "read fault"
read_message reading.Memory = out_of_memory

-- what the fault of a reader that can't begin says
abbrev pub open_message : OpenFault → List ℕ
open_message (opening.Header fault) = header_message fault
open_message (opening.Read fault) = read_message fault
