use Rattle.std.proofs.lemmas.Result.{IfOk-weaker}
use Rattle.cbpf_command_line.proofs.why.with_flags.Goals as goal

pub returns-clause-app : goal.returns-clause-app
returns-clause-app c = λ local.
    let listing = c.in_ok-arg.ensures.shape c.flag.ensures.local in
    let graph = c.in_ok-arg-2.ensures.shape c.flag-2.ensures.local in
    IfOk-weaker c.arg-3.result _ _ (λ m h. let packets = h.shape c.flag-3.ensures.local in cc) c.arg-3.ensures
