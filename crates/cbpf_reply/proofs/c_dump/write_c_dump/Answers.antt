use Rattle.cbpf_code.proofs.WrittenLemmas.{first-failed, wrote-then}
use Rattle.cbpf_reply.specs.CDump.{c_head, c_dump_text}
use Rattle.cbpf_reply.proofs.c_dump.write_c_dump.Goals as goal

pub returns-in_err-write_bytes : goal.returns-in_err-write_bytes
unfolding c_head c_dump_text
returns-in_err-write_bytes g c = first-failed _ _ c_head _ _ c.from_residual.ensures.0 c.in_err-write_bytes.ensures

pub returns : goal.returns
unfolding c_head c_dump_text
returns g c = wrote-then _ _ _ c_head _ _ c.in_ok-write_bytes.ensures c.write_c.ensures
