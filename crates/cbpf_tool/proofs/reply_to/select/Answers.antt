use Rattle.cbpf_tool.proofs.SessionReplyLemmas.{reply-ok}
use Rattle.cbpf_tool.proofs.reply_to.select.Goals as goal

pub returns-in-Ok : goal.returns-in-Ok
returns-in-Ok g c = reply-ok _ _ _ _ _ _ _ _ c.in-Ok.ensures.reply c.in-Ok.ensures.after c.write_went_to.ensures
