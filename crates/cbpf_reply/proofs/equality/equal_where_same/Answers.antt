use Rattle.std.proofs.Common.{rules, ◌≡◌, Decides, arith, ap}
use Rattle.std.proofs.lemmas.Bool.Decides.{Decides-and}
use Rattle.cbpf_reply.specs.declared.reply.Stop.{Stop}
use Rattle.cbpf_machine.specs.contracts.state.StatePartialEq.TheImpl as states
use Rattle.cbpf_reply.specs.contracts.reply.PlacePartialEq.TheImpl as places
use Rattle.cbpf_reply.specs.contracts.reply.StopPartialEq.TheImpl as stops
use Rattle.cbpf_reply.proofs.equality.equal_where_same.Goals as goal

by-field : (a b : Stop)
    → Decides (stops.ghosts.eq a b) ((a.place ≡ b.place) × ((a.state ≡ b.state) × (a.why ≡ b.why)))
by-field a b = Decides-and (places.ghosts.eq a.place b.place) _ (search rules)
    (Decides-and (states.ghosts.eq a.state b.state) _ (search rules) (search rules))

whole : (a b : Stop) → (a.place ≡ b.place) × ((a.state ≡ b.state) × (a.why ≡ b.why)) → a ≡ b
whole a b e = search rules

stop-same : (a b : Stop) → Decides (stops.ghosts.eq a b) (a ≡ b)
stop-same a b = (
  (λ e. whole a b ((by-field a b).0 e)),
  λ e. (by-field a b).1 (ap (λ s. s.place) e, (ap (λ s. s.state) e, ap (λ s. s.why) e)),
)

pub returns-clause-stop : goal.returns-clause-stop
returns-clause-stop c = stop-same

pub returns-clause-run_reply : goal.returns-clause-run_reply
returns-clause-run_reply c = grind (arith, stop-same)
