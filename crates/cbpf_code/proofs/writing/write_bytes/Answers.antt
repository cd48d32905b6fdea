use Rattle.std.proofs.Common.{[], take_all, arith}
use Rattle.std.proofs.lemmas.List.{nil_from_length}
use Rattle.cbpf_code.proofs.WrittenLemmas.{part-take, appended-by, appended-kept, appended-nil, rest-wrote}
use Rattle.cbpf_code.proofs.writing.write_bytes.Goals as goal

pub returns-then-is_empty : goal.returns-then-is_empty
returns-then-is_empty g c = grind (arith, nil_from_length, appended-nil)

pub returns-in-Ok-eq0 : goal.returns-in-Ok-eq0
returns-in-Ok-eq0 g c =
    part-take _ _ c.in-Ok-eq0.field-0 _ (appended-by _ _ _ [] _ (appended-nil _) c.in-Ok-eq0.ensures.bytes)

pub returns-in-Ok : goal.returns-in-Ok
returns-in-Ok g c =
    rest-wrote _ _ _ c.args.text.now c.in-Ok.n _ (appended-by _ _ _ [] _ (appended-nil _) c.in-Ok.ensures.bytes)
    c.write_rest.ensures

pub returns-in-Ok-2 : goal.returns-in-Ok-2
returns-in-Ok-2 g c =
    rw (← take_all c.in-Ok-2.field-0 c.args.text.now (omega arith))
    (appended-by _ _ _ [] _ (appended-nil _) c.in-Ok-2.ensures.bytes)

pub returns-in-Err : goal.returns-in-Err
returns-in-Err g c = part-take _ _ 0 _ (appended-kept _ _ _ [] (appended-nil _) c.in-Err.ensures.bytes)
