use Rattle.std.proofs.Common.{◌≡◌, [], Ok, Err, None, refl}
use Rattle.cbpf_code.proofs.WrittenLemmas.{appended-nil}
use Rattle.cbpf_tool.specs.Replies.{own}
use Rattle.cbpf_tool.proofs.FileLemmas.{none-counted}
use Rattle.cbpf_tool.proofs.ReplyLemmas.{kept-same, unwritten}
use Rattle.cbpf_tool.proofs.debugger.run_line.Goals as goal

pub returns-in-Ok-None : goal.returns-in-Ok-None
returns-in-Ok-None g c =
    let said : c.args.said ≡ Ok None = cc in
    rw said (kept-same _, λ t. ([], own (none-counted _) refl, appended-nil _))

pub returns-in_ok-write_error-in-Err : goal.returns-in_ok-write_error-in-Err
returns-in_ok-write_error-in-Err g c =
    let said : c.args.said ≡ Err c.in-Err.fault = cc in
    rw said (kept-same _, λ t. (_, own (none-counted _) refl, rw c.message.ensures at c.in_ok-write_error-in-Err.ensures))

pub returns-in_err-write_error-in-Err : goal.returns-in_err-write_error-in-Err
returns-in_err-write_error-in-Err g c =
    let said : c.args.said ≡ Err c.in-Err.fault = cc in
    rw said (unwritten _ _ _ _ _ _ _ _ c.from_residual.ensures.0
    (kept-same _, λ t. (_, own (none-counted _) refl, rw c.message.ensures at c.in_err-write_error-in-Err.ensures)))
