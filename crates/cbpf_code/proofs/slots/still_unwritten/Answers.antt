use Rattle.std.proofs.Common.{refl, inl, inr}
use Rattle.std.specs.Prelude.{IsTrue}
use Rattle.cbpf_code.specs.ControlFlow.{stores_slot}
use Rattle.cbpf_code.proofs.SlotMaskLemmas.{leaves_unwritten-cleared}
use Rattle.cbpf_code.proofs.slots.still_unwritten.Goals as goal

pub returns-in-St : goal.returns-in-St
returns-in-St c =
    let stores : IsTrue (stores_slot c.args.op) = elim c.in-St.is [ inl e ↦ rw e refl | inr e ↦ rw e refl ] in
    leaves_unwritten-cleared c.args.mask c.args.op c.args.insn (c.requires stores) stores
