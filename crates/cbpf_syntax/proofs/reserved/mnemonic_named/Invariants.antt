use Rattle.std.proofs.Common.{◌≡◌, false, map, take}
use Rattle.cbpf_syntax.specs.Fits.{is_one_of}
use Rattle.cbpf_syntax.specs.Views.{mnemonic_view}
use Rattle.cbpf_syntax.specs.Table.{Mnemonic}
use Rattle.cbpf_syntax.proofs.reserved.mnemonic_named.Given as goal

abbrev pub invariant-loop-mnemonic : goal.invariant-loop-mnemonic
invariant-loop-mnemonic l =
    is_one_of (map (λ (m : Mnemonic). m.word) (map mnemonic_view (take l.mnemonic-index l.mnemonic-items))) l.word
    ≡ false
