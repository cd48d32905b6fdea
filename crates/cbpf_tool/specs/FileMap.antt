-- What a source of files holds.
use Rattle.std.specs.Prelude.{ℕ, Bool, true, false, List}
use Rattle.std.specs.Ordering.{nat_cmp}
use Rattle.std.specs.Cmp.Lexicographic.{slice_cmp}
use Rattle.std.specs.FinMap as map

-- from the bytes of a name to the bytes of the file
abbrev pub FileMap : Type 0
FileMap = map.FinMap (slice_cmp nat_cmp) (List ℕ)

-- what a source holds, and whether its count of failures rises by one, up to its greatest value, at each load that ends in
-- `Device`, and at nothing else. `Device` is F2: the file could not be read
pub record Held : Type 0 where
  pub by_name : FileMap
  pub counts_exactly : Bool

-- a source of files: what it holds, its count of failures, and whether it is known what it holds
pub record FileSource : Type 0 where
  pub held : Held
  pub failures : ℕ
  pub is_known : Bool

-- a source that counts exactly, of which it is known what it holds
abbrev pub known_source : FileMap → ℕ → FileSource
known_source files failures =
    record { held = record { by_name = files; counts_exactly = true }; failures = failures; is_known = true }

-- one that counts exactly, of which it is not known what it holds, as a file system is
abbrev pub unknown_source : ℕ → FileSource
unknown_source failures =
    record { held = record { by_name = map.empty; counts_exactly = true }; failures = failures; is_known = false }

-- the map of a list of files, of which the first of a name counts
abbrev pub files_of : List (List ℕ × List ℕ) → FileMap
files_of es = map.from_entries es
