use Rattle.std.proofs.Common.{◌≡◌, ◌≤◌, ◌+◌, ◌-◌, ◌==◌, length, drop}
use Rattle.std.specs.List.{prefix_len}
use Rattle.cbpf_reply.proofs.scratch.write_slots_at.Given as goal

abbrev pub invariant-loop-end : goal.invariant-loop-end
invariant-loop-end g l = record {
  after : l.i + 1 ≤ l.end;
  within : l.end ≤ length l.slots;
  run : l.i + 1 + prefix_len (λ v. v == l.value) (drop (l.i + 1) l.slots)
      ≡ l.end + prefix_len (λ v. v == l.value) (drop l.end l.slots);
}

abbrev pub decreases-loop-end : goal.decreases-loop-end
decreases-loop-end g l = length l.slots - l.end
