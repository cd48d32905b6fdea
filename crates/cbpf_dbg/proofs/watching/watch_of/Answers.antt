use Rattle.std.proofs.Common.{◌≡◌, sym, ap, ◌∙◌, true, false}
use Rattle.std.specs.Prelude.{is_some}
use Rattle.cbpf_machine.specs.Machine.{machine_of}
use Rattle.cbpf_machine.specs.Turn.{turn}
use Rattle.cbpf_dbg.specs.Joined.{asks}
use Rattle.cbpf_dbg.proofs.CarryLemmas.{hits_unknown, hits_carried, room-kept}
use Rattle.cbpf_dbg.proofs.watching.watch_of.Goals as goal

pub returns-then-is_some-clause-holds : goal.returns-then-is_some-clause-holds
returns-then-is_some-clause-holds g c = λ bytes wire s here.
    let missing = c.missing_extension.ensures c.args.p.now bytes wire s (rw here c.at_index.ensures.value) in
    let unknown : asks (turn (machine_of c.args.p.now c.args.values.now) bytes wire s) ≡ true =
    ap is_some (sym missing) ∙ sym c.is_some.ensures ∙ c.if-is_some.true in
    sym (hits_unknown _ _ _ _ _ unknown)

pub returns-clause-holds : goal.returns-clause-holds
returns-clause-holds g c = λ bytes wire s here.
    let missing = c.missing_extension.ensures c.args.p.now bytes wire s (rw here c.at_index.ensures.value) in
    let known : asks (turn (machine_of c.args.p.now c.args.values.now) bytes wire s) ≡ false =
    ap is_some (sym missing) ∙ sym c.is_some.ensures ∙ c.if-is_some.false in
    sym (hits_carried _ _ _ _ _ _ _ known here (sym c.get.ensures.value ∙ sym c.copied.ensures))

pub returns-clause-room : goal.returns-clause-room
returns-clause-room g c = λ room keeps. room-kept _ _ _
    (λ when is. keeps c.args.i when (sym c.get.ensures.value ∙ sym c.copied.ensures ∙ is))
