use Rattle.std.proofs.Common.{length-append, length-drop, arith}
use Rattle.cbpf_code.proofs.DigitLemmas.{ten_digits}
use Rattle.cbpf_code.proofs.writing.Line.prepend_u32.Goals as goal

pub write_digits-self-inside-requires : goal.write_digits-self-inside-requires
write_digits-self-inside-requires c = grind (arith, ten_digits, length-drop)

pub returns-clause-grown : goal.returns-clause-grown
returns-clause-grown c = grind (arith, ten_digits, length-append)
