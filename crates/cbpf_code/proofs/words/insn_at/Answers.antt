use Rattle.std.proofs.Common.{refl}
use Rattle.cbpf_code.specs.WordText.{code, jt, jf, k}
use Rattle.cbpf_code.proofs.WordStepLemmas.{passes-then}
use Rattle.cbpf_code.proofs.words.insn_at.Goals as goal

pub returns : goal.returns
returns c =
    let code_jt = passes-then (c.in_ok-code.ensures.step code refl) (c.in_ok-jt.ensures.step jt refl) in
    passes-then (passes-then code_jt (c.in_ok-jf.ensures.step jf refl)) (c.in_ok-k.ensures.step k refl)
