use Rattle.std.proofs.Common.{◌≡◌, None, refl, rules}
use Rattle.cbpf_tool.proofs.SessionReplyLemmas.{writes-view}
use Rattle.cbpf_tool.proofs.reply_to.disassemble.Goals as goal

pub returns-in-None : goal.returns-in-None
returns-in-None g c =
    let none : None ≡ c.args.session.now.program = search rules in
    rw (← none) (writes-view _ _ _ _ _ _ refl (rw c.message.ensures at c.write_error.ensures))
