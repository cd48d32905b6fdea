use Rattle.cbpf_tool.proofs.SessionReplyLemmas.{reply-ok, own-reply, set-at, set-ok, set-refused}
use Rattle.cbpf_tool.proofs.reply_to.set_breakpoint.Goals as goal

pub write_set-requires : goal.write_set-requires
write_set-requires g c =
    set-at c.args.session.now c.breakpoint_when.new.self c.args.n c.args.when c.in-Ok.field-0
    (set-ok c.args.session.now c.args.n c.args.when c.in-Ok.field-0 c.in-Ok.ensures.reply) c.in-Ok.ensures.after

pub returns-in-Ok : goal.returns-in-Ok
returns-in-Ok g c =
    own-reply _ _ _ _ (reply-ok _ _ _ _ _ _ _ _
    (set-ok c.args.session.now c.args.n c.args.when c.in-Ok.field-0 c.in-Ok.ensures.reply) c.in-Ok.ensures.after
    c.write_set.ensures)

pub returns-in-Err : goal.returns-in-Err
returns-in-Err g c =
    set-refused c.args.session.now c.breakpoint_when.new.self c.args.n c.args.when c.in-Err.fault _ _ _
    c.in-Err.ensures.reply c.in-Err.ensures.memory c.in-Err.ensures.refused (rw c.message.ensures at c.write_error.ensures)
