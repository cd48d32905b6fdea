use Rattle.std.proofs.Common.{◌≡◌, ◌<◌, ℕ, get_or}
use Rattle.cbpf_code.specs.Extension.{ext_name}
use Rattle.cbpf_code.specs.declared.extension.Ext.TheVariants.{Proto}
use Rattle.cbpf_code.proofs.extension.ext_named.Given as goal

-- none of the extensions before has the name
abbrev pub invariant-loop-e : goal.invariant-loop-e
invariant-loop-e l = (k : ℕ) → k < l.e-index → l.name ≡ ext_name (get_or l.e-items k Proto) → ⊥
