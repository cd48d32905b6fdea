use Rattle.std.proofs.lemmas.Result.{IfOk-weaker}
use Rattle.cbpf_command_line.proofs.why.with_words.Goals as goal

pub returns-clause-app : goal.returns-clause-app
returns-clause-app c = λ local.
    let values = c.in_ok-arg.ensures.shape c.value_option.ensures.local in
    let filter = c.in_ok-arg-2.ensures.shape c.filter_file.ensures.local in
    let capture = c.in_ok-arg-3.ensures.shape c.file_name.ensures.local in
    IfOk-weaker c.arg-4.result _ _ (λ m h. let packets = h.shape c.packet_names.ensures.local in cc) c.arg-4.ensures
