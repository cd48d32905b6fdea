use Rattle.std.proofs.Common.{sym, ◌∙◌, ap, Some, arith}
use Rattle.std.proofs.lemmas.Grind.{common_steps}
use Rattle.cbpf_tool.specs.declared.command.Command.TheVariants.{LoadCapture}
use Rattle.cbpf_tool.proofs.CommandLemmas.{name-good, name-bad}
use Rattle.cbpf_tool.proofs.command.load_capture_by.Goals as goal

pub returns-in-Ok : goal.returns-in-Ok
returns-in-Ok c = ap (λ n. Some (LoadCapture n)) (c.of.ensures ∙ c.in-Ok.ensures.cases.0)
    ∙ sym (name-good c.args.text.now (grind (arith, common_steps)) c.in-Ok.ensures.cases.1)

pub returns-in-Err : goal.returns-in-Err
returns-in-Err c = sym (name-bad c.args.text.now c.in-Err.ensures.cases.0)
