-- Verdicts are the kinds of outcomes.
use Rattle.std.proofs.Common.{◌≡◌, ℕ, ◌+◌, List, [], ◌∷◌, ◌∙◌, refl, sym, ap, map}
use Rattle.std.specs.Prelude.{Bool, count_by, if◌then◌else◌}
use Rattle.std.proofs.lemmas.List.Sums.{sum_by-cons}
use Rattle.cbpf_machine.specs.InPlace.{turn_of}
use Rattle.cbpf_machine.specs.Machine.{Machine}
use Rattle.cbpf_machine.specs.Outcomes.{is_fail, is_pass, is_unknown}
use Rattle.cbpf_machine.specs.Registers.{zero_state}
use Rattle.cbpf_machine.specs.Trace.{last_or, outcome, outcome_from, outcome_of, trace}
use Rattle.cbpf_machine.specs.Turn.{turn}
use Rattle.cbpf_machine.specs.declared.outcome.Outcome.{Outcome}
use Rattle.cbpf_machine.specs.declared.outcome.Outcome.TheVariants as of_packet
use Rattle.cbpf_machine.specs.declared.outcome.Turn.{Turn}
use Rattle.cbpf_machine.specs.declared.outcome.Turn.TheVariants as turn_is
use Rattle.cbpf_reply.specs.Counts.{counts_of, outcomes_of}
use Rattle.pcap_classic.specs.Records.{Record}
use Rattle.cbpf_why.specs.Ends.{decided, decided_of, end_by, ended, ends_of, is_verdict, kind_of, verdict_of}
use Rattle.cbpf_why.specs.Groups.{all_totals, counted_of, ended_with, totals}
use Rattle.cbpf_why.specs.Laws.{TotalsCountOutcomes, VerdictIsOutcome}
use Rattle.cbpf_why.specs.declared.ended.Verdict.{Verdict}
use Rattle.cbpf_why.specs.declared.ended.Verdict.TheVariants.{Pass, Fail, Unknown}

outcome_is : (t : Turn) → outcome_of (turn_of (end_by t)) ≡ outcome_of t
outcome_is (turn_is.Next s) = refl
outcome_is (turn_is.Returned v) = refl
outcome_is turn_is.Outside = refl
outcome_is turn_is.ZeroDivisor = refl
outcome_is (turn_is.Unknown e) = refl

pub verdict_is_outcome : VerdictIsOutcome
unfolding outcome_from
verdict_is_outcome m r = ap kind_of (outcome_is (turn m r.bytes r.wire (last_or zero_state (trace m r.bytes r.wire))))

counted_same : {X Y : Type 0} (p : X → Bool) (q : Y → Bool) (f : Record → X) (g : Record → Y)
    → ((r : Record) → p (f r) ≡ q (g r)) → (records : List Record) → count_by p (map f records) ≡ count_by q (map g records)
counted_same p q f g h [] = refl
counted_same p q f g h (r ∷ rs) =
    sum_by-cons (λ x. if p x then 1 else 0) (f r) (map f rs)
    ∙ ap (λ (n : ℕ). (if p (f r) then 1 else 0) + n) (counted_same p q f g h rs)
    ∙ ap (λ b. (if b then 1 else 0) + count_by q (map g rs)) (h r)
    ∙ sym (sum_by-cons (λ y. if q y then 1 else 0) (g r) (map g rs))

pass_is : (o : Outcome) → is_verdict Pass (kind_of o) ≡ is_pass o
pass_is (of_packet.Pass v) = refl
pass_is of_packet.Fail = refl
pass_is (of_packet.Unknown e) = refl

fail_is : (o : Outcome) → is_verdict Fail (kind_of o) ≡ is_fail o
fail_is (of_packet.Pass v) = refl
fail_is of_packet.Fail = refl
fail_is (of_packet.Unknown e) = refl

unknown_is : (o : Outcome) → is_verdict Unknown (kind_of o) ≡ is_unknown o
unknown_is (of_packet.Pass v) = refl
unknown_is of_packet.Fail = refl
unknown_is (of_packet.Unknown e) = refl

counted : (m : Machine) (v : Verdict) (q : Outcome → Bool) → ((o : Outcome) → is_verdict v (kind_of o) ≡ q o)
    → (records : List Record) → ended_with (ends_of m records) v ≡ count_by q (outcomes_of m records)
counted m v q h records =
    counted_same (λ e. is_verdict v (verdict_of e.reason)) q (ended m) (λ r. outcome m r.bytes r.wire)
    (λ r. ap (is_verdict v) (verdict_is_outcome m r) ∙ h (outcome m r.bytes r.wire)) records

pub totals_count_outcomes : TotalsCountOutcomes
totals_count_outcomes m records =
    let t = totals (ends_of m records) in
    let o = counts_of (outcomes_of m records) in
    ap (λ (n : ℕ). record { passes = n; fails = t.fails; unknown = t.unknown }) (counted m Pass is_pass pass_is records)
    ∙ ap (λ (n : ℕ). record { passes = o.passes; fails = n; unknown = t.unknown }) (counted m Fail is_fail fail_is records)
    ∙ ap (λ (n : ℕ). record { passes = o.passes; fails = o.fails; unknown = n })
    (counted m Unknown is_unknown unknown_is records)

-- the totals that are kept are those of the ends
counted-is : (m : Machine) (v : Verdict) (records : List Record) → counted_of (decided_of m records) v ≡ ended_with (ends_of m records) v
counted-is m v records =
    counted_same (λ d. is_verdict v (verdict_of d.ended.reason)) (λ e. is_verdict v (verdict_of e.reason)) (decided m) (ended m)
    (λ r. refl) records

pub totals-are : (m : Machine) (records : List Record) → all_totals (decided_of m records) ≡ totals (ends_of m records)
totals-are m records =
    let a = all_totals (decided_of m records) in
    let t = totals (ends_of m records) in
    ap (λ (n : ℕ). record { passes = n; fails = a.fails; unknown = a.unknown }) (counted-is m Pass records)
    ∙ ap (λ (n : ℕ). record { passes = t.passes; fails = n; unknown = a.unknown }) (counted-is m Fail records)
    ∙ ap (λ (n : ℕ). record { passes = t.passes; fails = t.fails; unknown = n }) (counted-is m Unknown records)
