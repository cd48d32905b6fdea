-- The table is held against the definition at each of the 256 bytes, by computing.
use Rattle.std.proofs.Common.{not, nat_eq, get_or, refl, arith}
use Rattle.std.proofs.lemmas.Bool.{agree_below_at}
use Rattle.cbpf_syntax.specs.declared.bytes.TheConstants.{NAME_BYTES}
use Rattle.cbpf_syntax.specs.Bytes.{is_name_byte}
use Rattle.cbpf_syntax.proofs.bytes.is_name_byte.Goals as goal

pub returns : goal.returns
returns c = agree_below_at (λ k. not (nat_eq (get_or NAME_BYTES k 0) 46)) is_name_byte 256 c.args.b refl (omega arith)
