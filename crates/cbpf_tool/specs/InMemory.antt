-- Files in memory, of which one load may be chosen to fail.
use Rattle.std.specs.Prelude.{ℕ, refl}
use Rattle.std.specs.Coded.{Coded, code_by, coded×, coded_ℕ, coded_list}
use Rattle.std.specs.FinMap as map
use Rattle.cbpf_tool.specs.FileMap.{FileMap, FileSource, known_source}

-- the files, how many loads failed by `Device`, and the number of the load that is to fail, counted from 1 from now
-- on; 0 for none
pub record InMemory : Type 0 where
  pub files : FileMap
  pub failures : ℕ
  pub failing : ℕ

-- files in memory are encoded as the tuple of their fields. The toolchain asks for an encoding of a type that another
-- one is seen as; no clause rests on it
abbrev pub in_memory_code : Coded InMemory
in_memory_code =
    code_by ((FileMap × ℕ) × ℕ)
    (coded× (coded× (map.code (coded_list coded_ℕ) (coded_list coded_ℕ)) coded_ℕ) coded_ℕ)
    (λ m. ((m.files, m.failures), m.failing))
    (λ p. record { files = p.0.0; failures = p.0.1; failing = p.1 }) (λ _. refl)

-- files in memory say what they hold
abbrev pub source_of : InMemory → FileSource
source_of m = known_source m.files m.failures
