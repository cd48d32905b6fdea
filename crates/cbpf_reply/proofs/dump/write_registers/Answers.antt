use Rattle.std.proofs.Common.{◌≡◌, ◌-◌, length, arith}
use Rattle.cbpf_code.proofs.WrittenLemmas.{first-failed}
use Rattle.cbpf_reply.specs.Dump.{register_lines}
use Rattle.cbpf_reply.specs.Scratch.{slots_line}
use Rattle.cbpf_reply.proofs.TextLeftLemmas.{left-first, left-next, left-stop}
use Rattle.cbpf_reply.proofs.RowLemmas.{texts-next}
use Rattle.cbpf_reply.proofs.dump.write_registers.Goals as goal

pub returns-in_err-write : goal.returns-in_err-write
unfolding register_lines
returns-in_err-write g c = let text : c.prepend-5.new.self ≡ register_lines c.args.a c.args.x = cc in
    first-failed _ _ _ _ _ c.from_residual.ensures.0 (rw text at c.in_err-write.ensures)

pub loop-i-init : goal.loop-i-init
unfolding register_lines
loop-i-init g c = let text : c.prepend-5.new.self ≡ register_lines c.args.a c.args.x = cc in
    let all : length c.args.slots.now - 0 ≡ length c.args.slots.now = omega arith in
    rw all (left-first _ _ _ _ (rw text at c.in_ok-write.ensures))

pub loop-i-preserved : goal.loop-i-preserved
loop-i-preserved g c = left-next _ _ _ _ _ _ _ (texts-next (slots_line c.args.slots.now) c.loop-i.i _ (omega arith))
    c.loop-i.invariant c.in_ok-write_slots_at.ensures

pub returns-in_err-write_slots_at : goal.returns-in_err-write_slots_at
returns-in_err-write_slots_at g c = left-stop _ _ _ _ _ _ _ _ c.from_residual-in_err-write_slots_at.ensures.0
    (texts-next (slots_line c.args.slots.now) c.loop-i.i _ (omega arith)) c.loop-i.invariant c.in_err-write_slots_at.ensures
