use Rattle.std.proofs.Common.{subst}
use Rattle.std.proofs.lemmas.Result.{IfOk-weaker, IfErr-weaker}
use Rattle.cbpf_text.specs.Assembled.{TokensAssemble}
use Rattle.cbpf_text.proofs.FaultParts.{tokens_assembled, items_refused}
use Rattle.cbpf_text.proofs.Forms.{items_forms}
use Rattle.cbpf_text.proofs.assembler.assemble_placed.Goals as goal

pub returns-clause-assembled : goal.returns-clause-assembled
returns-clause-assembled g c =
    let d = c.in_ok-draft.ensures.items in
    IfOk-weaker c.encode_draft.result _ _ (λ v e. record {
      tokens = d.2.tokens;
      lexed = d.2.lexed;
      assembled = subst (λ ts. TokensAssemble ts v.items) d.2.are
          (tokens_assembled d.0 d.1 v.items d.3 d.4 e.0 e.1);
    })
    (c.encode_draft.ensures.encoded d.1 d.5 (items_forms d.0 d.1 d.3))

pub returns-clause-refused : goal.returns-clause-refused
returns-clause-refused g c =
    let d = c.in_ok-draft.ensures.items in
    IfErr-weaker c.encode_draft.result _ _ (λ fault e. items_refused c.args.text.now d.0 d.1 fault d.2 d.3 d.4 e)
    (c.encode_draft.ensures.refused d.1 d.5 (items_forms d.0 d.1 d.3))
