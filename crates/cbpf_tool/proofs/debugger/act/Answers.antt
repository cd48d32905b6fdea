use Rattle.std.proofs.Common.{refl, ap, Ok, Some}
use Rattle.cbpf_code.specs.Writing.{Wrote}
use Rattle.cbpf_code.proofs.WrittenLemmas.{appended-nil}
use Rattle.cbpf_tool.specs.Progress.{Replied}
use Rattle.cbpf_tool.proofs.ReplyLemmas.{kept-same, unwritten}
use Rattle.cbpf_tool.proofs.SessionReplyLemmas.{session-answered}
use Rattle.cbpf_tool.proofs.debugger.act.Given.{Over}
use Rattle.cbpf_tool.proofs.debugger.act.Goals.{Joined-command, in-LoadWords, in-LoadCapture, in-Session}
use Rattle.cbpf_tool.proofs.debugger.act.Goals as goal

-- each command but `quit` has a reply
ran : (g : Over) (c : Joined-command g)
    → Replied (g.F.Files.source c.args.files.now) (g.F.Files.source c.match-command.files) c.args.session.now
    c.match-command.session (Ok (Some c.args.command))
    (λ t. Wrote (g.W.Write.contents c.args.w.now) (g.W.Write.contents c.match-command.w) c.match-command.reply t)
ran g c = elim c.match-command.branch [
  | in-LoadWords w ↦ rw (w.in-LoadWords.is, w.files-is, w.session-is, w.w-is, w.reply-is, ← w.as_slice.ensures)
      (kept-same _, λ t. w.load_words-reply.ensures _ _)
  | in-LoadCapture w ↦ rw (w.in-LoadCapture.is, w.files-is, w.session-is, w.w-is, w.reply-is, ← w.as_str.ensures)
      w.load_capture-reply.ensures
  | in-Session w ↦ rw (w.in-Session.is, w.files-is, w.session-is, w.w-is, w.reply-is)
      (kept-same _, λ t. session-answered _ _ _ _ w.reply_to-reply.ensures _ _)
]

pub returns : goal.returns
returns g c = rw c.in_ok-reply.was at (ran g (goal.at.returns g c).Joined-command)

pub returns-in_err-reply : goal.returns-in_err-reply
returns-in_err-reply g c = unwritten _ _ _ _ _ _ _ _ c.from_residual.ensures.0
    (rw c.in_err-reply.was at (ran g (goal.at.returns-in_err-reply g c).Joined-command))

pub returns-in-Quit : goal.returns-in-Quit
returns-in-Quit g c = (kept-same _, λ t. (ap (λ x. Ok (Some x)) c.in-Quit.is, refl, appended-nil _))
