use Rattle.std.proofs.Common.{map}
use Rattle.cbpf_command_line.specs.CommandLine.{text_of}
use Rattle.cbpf_command_line.proofs.WithoutWhy.{answers-as-before}
use Rattle.cbpf_command_line.proofs.why.request_line.Goals as goal

pub returns-clause-before : goal.returns-clause-before
returns-clause-before c = answers-as-before (map text_of c.args.words.items) c.request_of.result
    (rw c.deref.ensures.value at c.request_of.ensures.request) (rw c.deref.ensures.value at c.request_of.ensures.taken)
    (rw c.deref.ensures.value at c.request_of.ensures.refused)
