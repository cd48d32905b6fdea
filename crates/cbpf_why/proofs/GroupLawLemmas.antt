-- Each packet is in one group, their counts sum to the totals, and all packets of a group ended alike.
use Rattle.std.proofs.Common.{◌≡◌, ℕ, zero, suc, ◌+◌, ◌*◌, ◌<◌, List, [], ◌∷◌, length, arith, refl, sym, ap, ◌∙◌, inl, inr}
use Rattle.std.specs.Prelude.{Bool, true, false, ◌==◌, ◌&&◌, if◌then◌else◌}
use Rattle.std.proofs.lemmas.Bool.{cases_eq}
use Rattle.std.proofs.lemmas.List.Sums.{sum_by-cons}
use Rattle.cbpf_code.specs.Sound.{IsSound}
use Rattle.cbpf_machine.specs.Machine.{Machine}
use Rattle.cbpf_machine.specs.OnPacket.{OnPacket, trace_in}
use Rattle.cbpf_machine.specs.Choices.{last_choice}
use Rattle.cbpf_machine.specs.declared.follow.Choice.{Choice}
use Rattle.pcap_classic.specs.Records.{Record}
use Rattle.cbpf_why.specs.declared.ended.EndedBy.{EndedBy}
use Rattle.cbpf_why.specs.declared.ended.Verdict.{Verdict}
use Rattle.cbpf_why.specs.declared.ended.Verdict.TheVariants.{Pass, Fail, Unknown}
use Rattle.cbpf_why.specs.Ends.{decided, decided_of, ended, ends_of, is_verdict, verdict_of}
use Rattle.cbpf_why.specs.Groups.{HasRow, ended_with, group, is_in_group, row}
use Rattle.cbpf_why.specs.Laws.{EachInOneGroup, GroupsEndAlike, GroupsSumToTotals, sum_of_first}
use Rattle.cbpf_why.proofs.GroupLemmas.{row_inside, same_verdict}
use Rattle.cbpf_why.proofs.StepLemmas.{choice_inside, deciding_inside, last_inside}
use Rattle.cbpf_why.proofs.StraightLemmas.{one_row}

verdict_is : (v w : Verdict) → is_verdict v w ≡ true → v ≡ w
verdict_is Pass Pass h = refl
verdict_is Fail Fail h = refl
verdict_is Unknown Unknown h = refl
verdict_is Pass Fail h = absurd cc
verdict_is Pass Unknown h = absurd cc
verdict_is Fail Pass h = absurd cc
verdict_is Fail Unknown h = absurd cc
verdict_is Unknown Pass h = absurd cc
verdict_is Unknown Fail h = absurd cc

both : (a b : Bool) → (a && b) ≡ true → (a ≡ true) × (b ≡ true)
both true b h = (refl, h)
both false b h = absurd cc

row_is : (n i : ℕ) → (n == i) ≡ true → i ≡ n
row_is n i h = grind arith

pub itself : (n : ℕ) → (n == n) ≡ true
itself n = grind arith

decided_inside : (m : Machine) → IsSound m.list → (r : Record) → HasRow (length m.list) (decided m r)
decided_inside m sound r =
    let t : OnPacket = record { machine = m; bytes = r.bytes; wire = r.wire } in
    record {
      pc = last_inside t sound;
      by = deciding_inside (λ (c : Choice). c.pc < length m.list) (ended m r).reason (last_choice m.list (trace_in t))
          (choice_inside t sound);
    }

pub each_in_one : EachInOneGroup
each_in_one m sound r =
    let d = decided m r in
    record {
      inside = row_inside (length m.list) d (decided_inside m sound r);
      there = rw (itself (row d)) (same_verdict (verdict_of d.ended.reason));
      alone = λ i v h.
          let is = both (row d == i) (is_verdict v (verdict_of d.ended.reason)) h in
          (row_is (row d) i is.0, verdict_is v (verdict_of d.ended.reason) is.1);
    }

pub groups_alike : GroupsEndAlike
groups_alike m sound i v r s h e =
    let d = decided m r in
    let o = decided m s in
    let first = row_is (row d) i (both (row d == i) (is_verdict v (verdict_of d.ended.reason)) h).0 in
    let second = row_is (row o) i (both (row o == i) (is_verdict v (verdict_of o.ended.reason)) e).0 in
    one_row m sound r s (sym first ∙ second)

-- ---- sums

sum_same : (f g : ℕ → ℕ) (n : ℕ) → ((i : ℕ) → f i ≡ g i) → sum_of_first f n ≡ sum_of_first g n
sum_same f g zero h = refl
sum_same f g (suc n) h = let rest = sum_same f g n h in let one = h n in omega (arith, rest, one)

sum_add : (f g : ℕ → ℕ) (n : ℕ) → sum_of_first (λ i. f i + g i) n ≡ sum_of_first f n + sum_of_first g n
sum_add f g zero = refl
sum_add f g (suc n) = let rest = sum_add f g n in omega (arith, rest)

pub sum_zero : (f : ℕ → ℕ) (n : ℕ) → ((i : ℕ) → i < n → f i ≡ 0) → sum_of_first f n ≡ 0
sum_zero f zero h = refl
sum_zero f (suc n) h =
    let rest = sum_zero f n (λ i l. h i (omega (arith, l))) in let one = h n (omega arith) in omega (arith, rest, one)

apart : (k i n : ℕ) (b : Bool) → n ≡ (if (k == i) && b then 1 else 0) → (k ≡ i → ⊥) → n ≡ 0
apart k i n b e other = grind arith

at_one : (k n : ℕ) (b : Bool) → n ≡ (if (k == k) && b then 1 else 0) → n ≡ (if b then 1 else 0)
at_one k n b e = grind arith

sum_one : (k n : ℕ) (b : Bool) → k < n → sum_of_first (λ i. if (k == i) && b then 1 else 0) n ≡ (if b then 1 else 0)
sum_one k zero b l = absurd (omega (arith, l))
sum_one k (suc n) b l =
    elim (cases_eq k n) [
      | inl is ↦
          let none = sum_zero (λ i. if (k == i) && b then 1 else 0) n
          (λ i below. apart k i _ b refl (λ e. omega (arith, e, is, below))) in
          let last : ◌≡◌ {A = ℕ} (if (k == n) && b then 1 else 0) (if b then 1 else 0) = rw (← is) (at_one k _ b refl) in
          rw none (omega (arith, last))
      | inr other ↦
          let rest = sum_one k n b (omega (arith, l, other)) in
          let last = apart k n (if (k == n) && b then 1 else 0) b refl other in
          rw (rest, last) (omega arith)
    ]

pub longer : (b : Bool) (x : EndedBy) (ys : List EndedBy) → length (if b then x ∷ ys else ys) ≡ (if b then 1 else 0) + length ys
longer true x ys = omega arith
longer false x ys = omega arith

pub groups_sum : GroupsSumToTotals
groups_sum m sound records v = sums records
  where
    sums : (records : List Record) → sum_of_first (λ i. length (group (decided_of m records) i v)) (2 * length m.list)
        ≡ ended_with (ends_of m records) v
    sums [] = sum_zero (λ i. 0) (2 * length m.list) (λ i l. refl)
    sums (r ∷ rs) =
        let d = decided m r in
        let is = is_verdict v (verdict_of d.ended.reason) in
        sum_same (λ i. length (group (decided_of m (r ∷ rs)) i v))
        (λ i. (if (row d == i) && is then 1 else 0) + length (group (decided_of m rs) i v)) (2 * length m.list)
        (λ i. longer (is_in_group i v d) d (group (decided_of m rs) i v))
        ∙ sum_add (λ i. if (row d == i) && is then 1 else 0) (λ i. length (group (decided_of m rs) i v)) (2 * length m.list)
        ∙ ap (λ (k : ℕ). k + sum_of_first (λ i. length (group (decided_of m rs) i v)) (2 * length m.list))
        (sum_one (row d) (2 * length m.list) is (row_inside (length m.list) d (decided_inside m sound r)))
        ∙ ap (λ (k : ℕ). (if is then 1 else 0) + k) (sums rs)
        ∙ sym (sum_by-cons (λ e. if is_verdict v (verdict_of e.reason) then 1 else 0) (ended m r) (ends_of m rs))
