use Rattle.std.proofs.Common.{ap, ◌∙◌}
use Rattle.std.specs.Prelude.{ℕ}
use Rattle.std.specs.Option.{option_map}
use Rattle.cbpf_machine.specs.declared.pause.When.{When}
use Rattle.cbpf_dbg.proofs.session.Session.breakpoint_when_at.Goals as goal

pub returns-in_err-when : goal.returns-in_err-when
returns-in_err-when g c = rw (← c.self.view_is)
    (c.from_residual.ensures ∙ ap (option_map (λ (b : ℕ × When). b.1)) c.in_err-when.ensures.entry)

pub returns : goal.returns
returns g c = rw (← c.self.view_is) (ap (option_map (λ (b : ℕ × When). b.1)) c.in_ok-when.ensures.entry)
