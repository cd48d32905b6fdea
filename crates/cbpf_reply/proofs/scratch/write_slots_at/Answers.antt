use Rattle.std.proofs.Common.{◌≡◌, ◌+◌, ◌-◌, ◌==◌, true, drop, slice_index, arith}
use Rattle.std.specs.List.{prefix_len}
use Rattle.cbpf_reply.specs.Scratch.{begins_line}
use Rattle.cbpf_reply.proofs.RowLemmas.{runs}
use Rattle.cbpf_reply.proofs.scratch.write_slots_at.Goals as goal

pub returns : goal.returns
returns g c =
    let slots = c.args.slots.now in
    let i = c.args.i in
    let begins : begins_line slots i ≡ true = grind arith in
    let last : c.loop-end.end - 1 ≡ i + prefix_len (λ v. v == slice_index slots i) (drop (i + 1) slots) =
    grind (arith, runs) in
    rw (begins, ← last) c.write_scratch_line.ensures
