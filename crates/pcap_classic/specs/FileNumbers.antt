-- Numbers of a capture file, whose bytes stand in the order that the file's magic says (pcap-savefile(5), the per-file
-- header).
use Rattle.std.specs.Prelude.{ℕ, zero, suc, ◌+◌, ◌*◌, ◌^◌, List, slice_index}
use Rattle.pcap_classic.specs.declared.captured.Endianness.{Endianness, TheVariants.Big, TheVariants.Little}

-- the number of the n bytes from an offset on, the highest byte first
abbrev pub big_endian : List ℕ → ℕ → ℕ → ℕ
big_endian bytes at zero = 0
big_endian bytes at (suc n) = slice_index bytes at * 256 ^ n + big_endian bytes (at + 1) n

-- the same with the lowest byte first
abbrev pub little_endian : List ℕ → ℕ → ℕ → ℕ
little_endian bytes at zero = 0
little_endian bytes at (suc n) = slice_index bytes at + 256 * little_endian bytes (at + 1) n

-- the number in the n bytes from an offset on
unfoldable pub number_at : Endianness → ℕ → ℕ → List ℕ → ℕ
number_at Big offset n bytes = big_endian bytes offset n
number_at Little offset n bytes = little_endian bytes offset n
