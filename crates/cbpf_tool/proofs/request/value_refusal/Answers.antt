use Rattle.cbpf_tool.proofs.request.value_refusal.Goals as goal

pub returns : goal.returns
returns c = rw c.value_reason.ensures at c.refusal_text.ensures
