use Rattle.cbpf_tool.proofs.AssemblyLemmas.{asm-unwritten, asm-unflushed, asm-done}
use Rattle.cbpf_tool.proofs.assembler.write_and_flush.Goals as goal

pub returns-in-Err-clause-wrote : goal.returns-in-Err-clause-wrote
returns-in-Err-clause-wrote g c = λ source a. asm-unwritten source _ _ _ a _ c.in-Err.ensures

pub returns-in-Ok-flush-clause-wrote : goal.returns-in-Ok-flush-clause-wrote
returns-in-Ok-flush-clause-wrote g c = λ source a. asm-done source _ _ _ a _ _ _ c.in-Ok.ensures c.flush.ensures.bytes

pub returns-in-Err-flush-clause-wrote : goal.returns-in-Err-flush-clause-wrote
returns-in-Err-flush-clause-wrote g c = λ source a. asm-unflushed source _ _ _ a _ _ c.in-Ok.ensures c.flush.ensures.bytes
