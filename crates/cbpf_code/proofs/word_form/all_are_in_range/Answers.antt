use Rattle.std.proofs.Common.{take_all, arith}
use Rattle.std.proofs.lemmas.List.Elements.{All-more}
use Rattle.cbpf_code.specs.WordForm.{InRange}
use Rattle.cbpf_code.proofs.WordFormLemmas.{words-spell}
use Rattle.cbpf_code.proofs.word_form.all_are_in_range.Goals as goal

pub loop-insn-preserved : goal.loop-insn-preserved
loop-insn-preserved c = All-more InRange c.args.list.now c.loop-insn.insn-index _ (omega arith) c.loop-insn.invariant
    c.fields_are_in_range.ensures

pub returns : goal.returns
returns c =
    let all = take_all c.loop-insn.insn-index c.args.list.now (omega arith) in
    words-spell c.args.list.now (rw all at c.loop-insn.invariant)
