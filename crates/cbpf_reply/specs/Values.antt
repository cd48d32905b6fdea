-- The reply to a value that an extension was given (this project's own).
use Rattle.std.specs.Prelude.{ℕ, List, [], ◌∷◌, codes, decimal}
use Rattle.cbpf_code.specs.Text.{concat}
use Rattle.cbpf_code.specs.Extension.{ext_name}
use Rattle.cbpf_code.specs.declared.extension.Ext.{Ext}

-- the reply to a value that was set
abbrev pub value_text : Ext → ℕ → List ℕ
value_text e n = concat (codes "value " ∷ ext_name e ∷ codes " " ∷ decimal n ∷ codes "\n" ∷ [])
