use Rattle.cbpf_code.proofs.AsciiLemmas.{operation_utf8}
use Rattle.cbpf_code.proofs.shown.InsnDisplay.fmt.Goals as goal

pub show_line-requires : goal.show_line-requires
show_line-requires g c =
    operation_utf8 _ _ 0 c.args.self.now c.in-Some.op c.prepend_operation.ensures.text c.new-line.ensures
