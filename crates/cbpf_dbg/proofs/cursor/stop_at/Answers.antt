use Rattle.std.proofs.Common.{◌≡◌, refl}
use Rattle.std.specs.Option.{option_map_or}
use Rattle.cbpf_machine.specs.Machine.{machine_of}
use Rattle.cbpf_machine.specs.Turn.{turn, asked}
use Rattle.cbpf_reply.specs.declared.reply.Why.TheVariants as why
use Rattle.cbpf_dbg.proofs.cursor.stop_at.Goals as goal
use Rattle.cbpf_dbg.proofs.cursor.stop_at.Goals.{in-Some, in-None}

pub returns : goal.returns
returns g c = λ r.
    let asks : c.missing_extension.result ≡ asked (turn (machine_of c.args.program.now c.args.values.now) r.bytes r.wire c.args.cursor.now.state) =
    c.missing_extension.ensures c.args.program.now r.bytes r.wire c.args.cursor.now.state
    (rw c.pc.ensures at c.at_index-insn.ensures.value) in
    let is : c.match-missing_extension.why ≡ option_map_or why.Unknown c.missing_extension.result c.args.reason = elim c.match-missing_extension.branch [
      | in-Some w ↦ rw (w.why-is, w.in-Some.is) refl
      | in-None w ↦ rw (w.why-is, w.in-None.is) refl
    ] in
    rw (is, asks) refl
