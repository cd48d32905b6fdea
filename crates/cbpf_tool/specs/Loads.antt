-- What a load from a source of files may answer, and what a failure of the file system is reported as.
use Rattle.std.specs.Prelude.{◌≡◌, ◌≤◌, ◌<◌, ◌+◌, ◌-◌, ◌^◌, ◌⊎◌, min, ℕ, List, Some, None, Result, Err}
use Rattle.std.specs.Prelude.{MatchResult, IsTrue}
use Rattle.std.specs.FinMap as map
use Rattle.std.specs.declared.io.ErrorKind.{ErrorKind}
use Rattle.std.specs.declared.io.ErrorKind.TheVariants.{NotFound, OutOfMemory}
use Rattle.cbpf_tool.specs.FileMap.{FileSource}
use Rattle.cbpf_reply.specs.declared.errors.LoadFault.{LoadFault}
use Rattle.cbpf_reply.specs.declared.errors.LoadFault.TheVariants.{Absent, Device, Memory}

-- why a load failed: where the source says what it holds, an absent name is not in its map;
-- `Device` raises the count, which stops at its greatest value
abbrev pub Faults : FileSource → FileSource → List ℕ → LoadFault → Type 0
Faults old new name Absent = IsTrue old.is_known → map.get old.held.by_name name ≡ None
Faults old new name Device = (old.failures < new.failures) ⊎ (old.failures ≡ 2 ^ 64 - 1)
Faults old new name Memory = Unit {0}

-- the count with one failure more, which stops at its greatest value
abbrev pub with_failure : ℕ → ℕ
with_failure failures = min (failures + 1) (2 ^ 64 - 1)

-- the count of failures after a load, where each `Device` is counted once, and nothing else
abbrev pub counted : {V : Type 0} → Result V LoadFault → ℕ → ℕ
counted (Err Device) failures = with_failure failures
counted _ failures = failures

-- a load of the name with bytes `name`. The count never falls, and at its greatest value it stays there
pub record Loads {V : Type 0} (items : V → List ℕ) (old new : FileSource) (name : List ℕ) (r : Result V LoadFault) :
    Type 0 where
  pub same_files : new.held ≡ old.held
  pub same_known : new.is_known ≡ old.is_known
  pub rises : old.failures ≤ new.failures
  pub stays : old.failures ≡ 2 ^ 64 - 1 → new.failures ≡ 2 ^ 64 - 1
  pub counts : IsTrue old.held.counts_exactly → new.failures ≡ counted r old.failures
  pub gives : MatchResult r (λ v. IsTrue old.is_known → map.get old.held.by_name name ≡ Some (items v))
      (λ e. Faults old new name e)

-- a failure to read a file that is open, or to find room for its bytes
abbrev pub reading_fault : ErrorKind → LoadFault
reading_fault OutOfMemory = Memory
reading_fault _ = Device

-- a failure to open a file: only that there is none of the name is reported as absent
abbrev pub opening_fault : ErrorKind → LoadFault
opening_fault NotFound = Absent
opening_fault OutOfMemory = Memory
opening_fault _ = Device
