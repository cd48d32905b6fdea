use Rattle.std.proofs.Common.{[], ◌∷◌, inl, inr}
use Rattle.cbpf_command_line.proofs.why.refusal.Goals as goal

pub returns-in-Ok-error : goal.returns-in-Ok-error
returns-in-Ok-error c = c.line_fault.ensures (c.args.kind ∷ []) (inr (inl c.in-Ok-error.ensures.kind))
