-- The lines below some faults, with what to do about them (this project's own; the magic numbers are those of
-- pcap-savefile(5), pcapng and the formats that are named).
use Rattle.std.specs.Prelude.{ℕ, ◌==◌, ◌/◌, nat_eq, Bool, if◌then◌else◌, List, [], ◌∷◌, codes, Option, Some, None}
use Rattle.std.specs.List.{list_any, starts_with}
use Rattle.cbpf_code.specs.Text.{concat}
use Rattle.cbpf_text.specs.declared.fault.AsmFault.{AsmFault}
use Rattle.cbpf_text.specs.declared.fault.AsmFault.TheVariants as asm
use Rattle.cbpf_why.specs.declared.filter.FilterFault.{FilterFault}
use Rattle.cbpf_why.specs.declared.filter.FilterFault.TheVariants as filter
use Rattle.pcap_classic.specs.declared.header.HeaderFault.{HeaderFault}
use Rattle.pcap_classic.specs.declared.header.HeaderFault.TheVariants as header
use Rattle.cbpf_tool.specs.SourceLine.{line_at, column, shown_line}

-- the line of a fault of a source, which stands at this position
abbrev pub source_hint : List ℕ → AsmFault → ℕ → List ℕ
source_hint text asm.Memory at = []
source_hint text (asm.At kind line) at = shown_line (line_at text line) (column text line at)

-- how captures begin: with a magic number in either byte order, or as pcapng or gzip do
abbrev pub magics : List (List ℕ)
magics = (0xa1 ∷ 0xb2 ∷ 0xc3 ∷ 0xd4 ∷ []) ∷ (0xd4 ∷ 0xc3 ∷ 0xb2 ∷ 0xa1 ∷ [])
    ∷ (0xa1 ∷ 0xb2 ∷ 0x3c ∷ 0x4d ∷ []) ∷ (0x4d ∷ 0x3c ∷ 0xb2 ∷ 0xa1 ∷ [])
    ∷ (0x0a ∷ 0x0d ∷ 0x0d ∷ 0x0a ∷ []) ∷ (0x1f ∷ 0x8b ∷ []) ∷ []

-- a text begins as a capture does
abbrev pub is_capture : List ℕ → Bool
is_capture text = list_any (λ magic. starts_with nat_eq text magic) magics

-- the end of a line with the name of a filter that can't be opened, and the line below
abbrev pub no_filter_hint : List ℕ
no_filter_hint = codes "\n    FILTER is a file, such as <(tcpdump -r CAPTURE -ddd 'port 53')\n"

-- a filter that is a capture
abbrev pub swapped_hint : List ℕ
swapped_hint = codes "    this is a capture, and FILTER stands before CAPTURE\n"

-- a filter that is refused
abbrev pub filter_hint : List ℕ → FilterFault → List ℕ
filter_hint text (filter.Source fault at) = if is_capture text then swapped_hint else source_hint text fault at
filter_hint text (filter.Words fault) = []
filter_hint text (filter.Check fault) = []
filter_hint text filter.Memory = []

-- the name of a format by its first four bytes, and the command that converts or unpacks such a file
abbrev pub format_of : ℕ → Option (List ℕ × List ℕ)
format_of magic =
    if magic == 0x0a0d0d0a then Some (codes "pcapng", codes "tcpdump -w - -r")
    else if magic == 0x28b52ffd then Some (codes "zstd", codes "zstd -dc")
    else if magic == 0xfd377a58 then Some (codes "xz", codes "xz -dc")
    else if magic == 0x04224d18 then Some (codes "lz4", codes "lz4 -dc")
    else if magic / 65536 == 0x1f8b then Some (codes "gzip", codes "gzip -dc")
    else if magic / 256 == 0x425a68 then Some (codes "bzip2", codes "bzip2 -dc")
    else None

-- a capture in another format
abbrev pub format_hint : Option (List ℕ × List ℕ) → List ℕ
format_hint None = []
format_hint (Some f) =
    concat (codes "    this is " ∷ f.0 ∷ codes ": " ∷ f.1 ∷ codes " CAPTURE | cbpf why FILTER\n" ∷ [])

-- a capture that is refused
abbrev pub capture_hint : HeaderFault → List ℕ
capture_hint header.FileHeaderCut = []
capture_hint (header.UnknownMagic magic) = format_hint (format_of magic)
capture_hint header.UnknownVersion = []
