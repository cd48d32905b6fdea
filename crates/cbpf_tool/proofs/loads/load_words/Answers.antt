use Rattle.cbpf_tool.proofs.ReplyLemmas.{words-refused, words-unsound, words-accepted}
use Rattle.cbpf_tool.proofs.loads.load_words.Goals as goal

pub returns-in-Err : goal.returns-in-Err
returns-in-Err g c = words-refused c.args.session.now c.args.text.now c.in-Err.fault _ c.in-Err.ensures.answer
    (rw c.message.ensures at c.write_error.ensures)

pub returns-in-Ok-check : goal.returns-in-Ok-check
returns-in-Ok-check g c =
    words-accepted c.args.session.now _ c.args.text.now c.in-Ok.list.items c.in-Ok-check.program c.len-count.result _
    c.in-Ok.ensures.answer c.in-Ok-check.ensures.same c.len-count.ensures.sound c.len-count.ensures.value
    c.load_program.ensures c.write_program.ensures

pub returns : goal.returns
returns g c = words-unsound c.args.session.now c.args.text.now c.in-Ok.list.items c.in-Err-check.fault _
    c.in-Ok.ensures.answer c.in-Err-check.ensures.fault (rw c.message-in-Err-check.ensures at c.write_error-in-Err-check.ensures)
