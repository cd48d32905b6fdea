use Rattle.cbpf_code.proofs.WrittenLemmas.{part-take, appended-kept}
use Rattle.cbpf_code.proofs.writing.write_rest.Goals as goal

pub returns-in-Err : goal.returns-in-Err
returns-in-Err g c =
    part-take _ _ c.loop-at.at _ (appended-kept _ _ _ _ c.loop-at.invariant.so_far c.in-Err.ensures.bytes)
