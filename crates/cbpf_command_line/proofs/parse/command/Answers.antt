use Rattle.std.proofs.Common.{ap, ap₂, ◌≡◌, ◌∙◌}
use Rattle.std.proofs.lemmas.Result.{IfOk-weaker}
use Rattle.clap.specs.Words.{App, app_of, with_subcommand}
use Rattle.cbpf_command_line.specs.CommandLine.{asm_app, bare_app}
use Rattle.cbpf_command_line.proofs.parse.command.Goals as goal

pub returns : goal.returns
returns c =
    let with_asm : app_of c.in_ok-subcommand.field-0 ≡ with_subcommand bare_app asm_app.top =
    c.in_ok-subcommand.ensures.shape c.in_ok-asm_command.ensures.local
    ∙ ap₂ with_subcommand c.bare_command.ensures (ap (λ (a : App). a.top) c.in_ok-asm_command.ensures.app) in
    IfOk-weaker c.subcommand-2.result _ _
    (λ m h. h.shape c.in_ok-dbg_command.ensures.local
    ∙ ap₂ with_subcommand with_asm (ap (λ (a : App). a.top) c.in_ok-dbg_command.ensures.app))
    c.subcommand-2.ensures
