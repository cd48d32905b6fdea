use Rattle.std.proofs.Common.{length, refl, arith}
use Rattle.std.proofs.lemmas.List.{drop_all}
use Rattle.cbpf_code.proofs.word_form.prepend_word_lines.Goals as goal

pub loop-i-init : goal.loop-i-init
loop-i-init c =
    let full = rw c.told-text at (drop_all (length c.args.text.now) c.args.text.now (omega arith)) in (
      omega (arith, c.requires.few),
      omega arith,
      omega arith,
      rw (full, drop_all (length c.args.list.now) c.args.list.now (omega arith)) refl,
    )
