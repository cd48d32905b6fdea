use Rattle.cbpf_code.proofs.WrittenLemmas.{first-failed, wrote-then}
use Rattle.cbpf_reply.proofs.dump.write_stop.Goals as goal

pub returns-in_err-write_instruction : goal.returns-in_err-write_instruction
returns-in_err-write_instruction g c =
    first-failed _ _ _ _ _ c.from_residual.ensures.0 (rw c.pc.ensures at c.in_err-write_instruction.ensures)

pub returns-in_err-write_registers : goal.returns-in_err-write_registers
returns-in_err-write_registers g c = wrote-then _ _ _ _ _ _ (rw c.pc.ensures at c.in_ok-write_instruction.ensures)
    (first-failed _ _ _ _ _ c.from_residual-in_err-write_registers.ensures.0
    (rw (c.a.ensures, c.x.ensures, c.slots.ensures) at c.in_err-write_registers.ensures))

pub returns : goal.returns
returns g c = wrote-then _ _ _ _ _ _ (rw c.pc.ensures at c.in_ok-write_instruction.ensures) (wrote-then _ _ _ _ _ _
    (rw (c.a.ensures, c.x.ensures, c.slots.ensures) at c.in_ok-write_registers.ensures) c.write_packet.ensures)
