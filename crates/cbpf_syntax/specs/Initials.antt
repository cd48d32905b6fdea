-- The first bytes of mnemonics, by which the reader looks them up. No public clause names it.
use Rattle.std.specs.Prelude.{ℕ, Bool, false, ◌==◌, List, [], ◌∷◌}
use Rattle.cbpf_syntax.specs.Table.{Mnemonic}

abbrev pub is_first : ℕ → List ℕ → Bool
is_first first [] = false
is_first first (b ∷ bs) = first == b

-- the mnemonic's word begins with the byte
abbrev pub begins_with : ℕ → Mnemonic → Bool
begins_with first m = is_first first m.word
