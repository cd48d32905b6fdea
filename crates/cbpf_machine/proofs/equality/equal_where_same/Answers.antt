use Rattle.std.proofs.Common.{rules, ◌≡◌, refl, Decides, ℕ, nat_eq, ap}
use Rattle.std.specs.Prelude.{Option, Some, None}
use Rattle.std.specs.Option.{option_eq}
use Rattle.std.proofs.lemmas.Slice.Eq.{slice_eq-Decides}
use Rattle.std.proofs.lemmas.Bool.Decides.{Decides-and}
use Rattle.cbpf_machine.specs.declared.packet_end.Decided.{Decided}
use Rattle.cbpf_machine.specs.declared.packet_end.PacketEnd.{PacketEnd}
use Rattle.cbpf_machine.specs.contracts.state.StatePartialEq.TheImpl as states
use Rattle.cbpf_machine.specs.contracts.packet_end.PacketEndPartialEq.TheImpl as packet_ends
use Rattle.cbpf_machine.specs.contracts.packet_end.DecidedPartialEq.TheImpl as decideds
use Rattle.cbpf_machine.proofs.equality.equal_where_same.Goals as goal

at-place : (a b : Option ℕ) → Decides (option_eq nat_eq a b) (a ≡ b)
at-place None None = search rules
at-place None (Some n) = search rules
at-place (Some n) None = search rules
at-place (Some n) (Some m) = search rules

pub returns-clause-values : goal.returns-clause-values
returns-clause-values c a b = slice_eq-Decides at-place a b _ refl

ends-by-field : (a b : PacketEnd) → Decides (packet_ends.ghosts.eq a b) ((a.last ≡ b.last) × (a.reason ≡ b.reason))
ends-by-field a b = Decides-and (states.ghosts.eq a.last b.last) _ (search rules) (search rules)

whole-end : (a b : PacketEnd) → (a.last ≡ b.last) × (a.reason ≡ b.reason) → a ≡ b
whole-end a b e = search rules

end-same : (a b : PacketEnd) → Decides (packet_ends.ghosts.eq a b) (a ≡ b)
end-same a b = (
  (λ e. whole-end a b ((ends-by-field a b).0 e)),
  λ e. (ends-by-field a b).1 (ap (λ s. s.last) e, ap (λ s. s.reason) e),
)

pub returns-clause-packet_end : goal.returns-clause-packet_end
returns-clause-packet_end c = end-same

decided-by-field : (a b : Decided) → Decides (decideds.ghosts.eq a b) ((a.end ≡ b.end) × (a.choice ≡ b.choice))
decided-by-field a b = Decides-and (packet_ends.ghosts.eq a.end b.end) _ (end-same a.end b.end) (search rules)

whole-decided : (a b : Decided) → (a.end ≡ b.end) × (a.choice ≡ b.choice) → a ≡ b
whole-decided a b e = search rules

pub returns-clause-decided : goal.returns-clause-decided
returns-clause-decided c a b = (
  (λ e. whole-decided a b ((decided-by-field a b).0 e)),
  λ e. (decided-by-field a b).1 (ap (λ s. s.end) e, ap (λ s. s.choice) e),
)
