use Rattle.std.proofs.Common.{refl}
use Rattle.cbpf_tool.proofs.ReplyLemmas.{load-failed, load-refused, load-accepted}
use Rattle.cbpf_tool.proofs.loads.load_capture.Goals as goal

pub returns-in-Err : goal.returns-in-Err
returns-in-Err g c = load-failed (λ v. v.items) _ _ _ _ c.args.name.now _ c.in-Err.fault
    (c.in-Err.ensures {u = tt}) refl (rw c.message.ensures at c.write_error.ensures)

pub returns-in-Ok-from_bytes : goal.returns-in-Ok-from_bytes
returns-in-Ok-from_bytes g c = load-accepted (λ v. v.items) _ _ c.args.session.now _ c.args.name.now _ c.in-Ok.bytes
    (c.in-Ok.ensures {u = tt}) c.in-Ok-from_bytes.capture c.in-Ok-from_bytes.ensures.capture c.load_capture.ensures
    c.write_capture-written.ensures

pub returns : goal.returns
returns g c = load-refused (λ v. v.items) _ _ _ _ c.args.name.now _ c.in-Ok.bytes
    (c.in-Ok.ensures {u = tt}) c.in-Err-from_bytes.fault c.in-Err-from_bytes.ensures.refused refl
    (rw c.message-in-Err-from_bytes.ensures at c.write_error-in-Err-from_bytes.ensures)
