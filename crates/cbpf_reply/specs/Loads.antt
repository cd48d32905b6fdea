-- The replies to a program and to a capture that were loaded, and what a summary of `cbpf why` says of a cut capture (this
-- project's own).
use Rattle.std.specs.Prelude.{ℕ, ◌++◌, List, [], length, codes}
use Rattle.pcap_classic.specs.Savefile.{Savefile}
use Rattle.pcap_classic.specs.declared.ending.Ending.{Ending}
use Rattle.pcap_classic.specs.declared.ending.Ending.TheVariants.{Whole, CutHeader, CutData}
use Rattle.cbpf_code.specs.Text.{with_number}

-- how many instructions the program has
abbrev pub program_text : ℕ → List ℕ
program_text count = with_number (codes "bpf: ") count (codes " instructions\n")

-- where a capture is cut, if it is, and the line's end
abbrev pub ending_text : Ending → List ℕ
ending_text Whole = codes "\n"
ending_text (CutHeader offset) = with_number (codes ", cut record header at ") offset (codes "\n")
ending_text (CutData offset) = with_number (codes ", cut record data at ") offset (codes "\n")

-- how many packets a capture has, and where it is cut, if it is
abbrev pub packet_count_text : ℕ → Ending → List ℕ
packet_count_text count how = with_number (codes "pcap: ") count (codes " packets") ++ ending_text how

-- the reply to a capture
abbrev pub capture_text : Savefile → List ℕ
capture_text c = packet_count_text (length c.records) c.ending

-- The same line where the capture is cut, and nothing where it isn't. A summary by `cbpf why` that read the capture to its
-- end ends with it. After another report that did, it goes to standard error.
abbrev pub cut_text : ℕ → Ending → List ℕ
cut_text count Whole = []
cut_text count (CutHeader offset) = packet_count_text count (CutHeader offset)
cut_text count (CutData offset) = packet_count_text count (CutData offset)
