-- What is counted of a packet's entries.
use Rattle.std.proofs.Common.{◌≡◌, ◌<◌, ◌≤◌, ℕ, ◌+◌, List, length, take, arith, ap, ◌∙◌, refl, Bool, ◌⊎◌, inl, inr}
use Rattle.std.specs.Prelude.{if◌then◌else◌, nat_eq, ◌&&◌, slice_set}
use Rattle.std.proofs.lemmas.List.Sums.{sum_by_push}
use Rattle.std.proofs.lemmas.List.{take_all, get_or-set_same, get_or-set_other}
use Rattle.std.proofs.lemmas.Bool.{cases_eq}
use Rattle.cbpf_code.specs.declared.insn.Insn.{Insn}
use Rattle.cbpf_machine.specs.declared.tally.Runs.{Runs}
use Rattle.cbpf_machine.specs.Registers.{Registers}
use Rattle.cbpf_machine.specs.OnPacket.{OnPacket, IsOnTrace, trace_in}
use Rattle.cbpf_machine.specs.Choices.{is_taken, executed_in, taken_in, runs_at}
use Rattle.cbpf_machine.proofs.RunningLemmas.{take_next}

executed_more : {t : OnPacket} {n : ℕ} {s : Registers} → IsOnTrace t n s → (i : ℕ)
    → executed_in (take (n + 1) (trace_in t)) i
    ≡ executed_in (take n (trace_in t)) i + (if nat_eq s.pc i then 1 else 0)
executed_more {t = t} {n = n} {s = s} here i =
    ap (λ l. executed_in l i) (take_next here) ∙ sum_by_push _ (take n (trace_in t)) s

taken_more : {t : OnPacket} {n : ℕ} {s : Registers} (list : List Insn) → IsOnTrace t n s → (i : ℕ)
    → taken_in list (take (n + 1) (trace_in t)) i
    ≡ taken_in list (take n (trace_in t)) i + (if nat_eq s.pc i && is_taken list s then 1 else 0)
taken_more {t = t} {n = n} {s = s} list here i =
    ap (λ l. taken_in list l i) (take_next here) ∙ sum_by_push _ (take n (trace_in t)) s

executed_here : (pc n : ℕ) → n ≡ (if nat_eq pc pc then 1 else 0) → n ≡ 1
executed_here pc n e = grind arith

executed_apart : (pc i n : ℕ) → n ≡ (if nat_eq pc i then 1 else 0) → (i ≡ pc → ⊥) → n ≡ 0
executed_apart pc i n e apart = grind arith

taken_here : (pc n m : ℕ) (b : Bool) → n ≡ (if nat_eq pc pc && b then 1 else 0) → m ≡ (if b then 1 else 0) → n ≡ m
taken_here pc n m b e f = grind arith

taken_apart : (pc i n : ℕ) (b : Bool) → n ≡ (if nat_eq pc i && b then 1 else 0) → (i ≡ pc → ⊥) → n ≡ 0
taken_apart pc i n b e apart = grind arith

counted_at : (pc i n : ℕ) → n ≡ (if nat_eq pc i then 1 else 0) → ((pc ≡ i) × (n ≡ 1)) ⊎ (n ≡ 0)
counted_at pc i n e = grind arith

taken_at : (pc i n : ℕ) (b : Bool) → n ≡ (if nat_eq pc i && b then 1 else 0) → ((pc ≡ i) × (n ≤ 1)) ⊎ (n ≡ 0)
taken_at pc i n b e = grind arith

-- the first n entries of a packet, all before an instruction, are counted once each
pub record CountsFirst (t : OnPacket) (n pc : ℕ) (old new : List Runs) : Type 0 where
  pub ahead : (i : ℕ) → pc ≤ i → ((runs_at new i).executed ≤ (runs_at old i).executed)
      × ((runs_at new i).taken ≤ (runs_at old i).taken)
  pub once : (i : ℕ) → ((runs_at new i).executed ≤ (runs_at old i).executed + 1)
      × ((runs_at new i).taken ≤ (runs_at old i).taken + 1)
  pub executed : (i : ℕ) → (runs_at new i).executed ≡ (runs_at old i).executed + executed_in (take n (trace_in t)) i
  pub taken : (i : ℕ) → (runs_at new i).taken
      ≡ (runs_at old i).taken + taken_in t.machine.list (take n (trace_in t)) i

-- one more, by how each count grows
counts_on : {t : OnPacket} {n m : ℕ} {s : Registers} {old new : List Runs} (to : List Runs) (b : Bool) (next : ℕ)
    → CountsFirst t n s.pc old new → IsOnTrace t n s → s.pc < next → m ≡ n + 1
    → ((i : ℕ) → (runs_at to i).executed ≡ (runs_at new i).executed + (if nat_eq s.pc i then 1 else 0))
    → ((i : ℕ) → (runs_at to i).taken ≡ (runs_at new i).taken + (if nat_eq s.pc i && b then 1 else 0))
    → b ≡ is_taken t.machine.list s → CountsFirst t m next old to
counts_on {t = t} {n = n} {s = s} to b next before here higher one executed taken is =
    record {
      ahead = λ i h.
          let past = before.ahead i (omega (arith, h, higher)) in (
            elim (counted_at s.pc i _ refl) [
              | inl at ↦ absurd (omega (arith, at.0, h, higher))
              | inr none ↦ omega (arith, executed i, past.0, none)
            ],
            elim (taken_at s.pc i _ b refl) [
              | inl at ↦ absurd (omega (arith, at.0, h, higher))
              | inr none ↦ omega (arith, taken i, past.1, none)
            ],
          );
      once = λ i. (
        elim (counted_at s.pc i _ refl) [
          | inl at ↦ omega (arith, executed i, at.1, (before.ahead i (omega (arith, at.0))).0)
          | inr none ↦ omega (arith, executed i, none, (before.once i).0)
        ],
        elim (taken_at s.pc i _ b refl) [
          | inl at ↦ omega (arith, taken i, at.1, (before.ahead i (omega (arith, at.0))).1)
          | inr none ↦ omega (arith, taken i, none, (before.once i).1)
        ],
      );
      executed = λ i. rw one (omega (arith, executed i, before.executed i, executed_more here i));
      taken = λ i. rw one (omega (arith, rw is at (taken i), before.taken i, taken_more t.machine.list here i));
    }

abbrev never : Runs
never = record { executed = 0; taken = 0 }

executed_set : (runs : List Runs) (pc i : ℕ) (here : Runs) → pc < length runs
    → here.executed ≡ (runs_at runs pc).executed + 1
    → (runs_at (slice_set runs pc here) i).executed ≡ (runs_at runs i).executed + (if nat_eq pc i then 1 else 0)
executed_set runs pc i here within is =
    elim (cases_eq i pc) [
      | inl at ↦
          let same = ap (λ (r : Runs). r.executed) (get_or-set_same runs pc here never within) in
          rw at (omega (arith, same, is, executed_here pc _ refl))
      | inr apart ↦
          let same = ap (λ (r : Runs). r.executed) (get_or-set_other runs pc i here never apart) in
          omega (arith, same, executed_apart pc i _ refl apart)
    ]

taken_set : (runs : List Runs) (pc i : ℕ) (here : Runs) (b : Bool) → pc < length runs
    → here.taken ≡ (runs_at runs pc).taken + (if b then 1 else 0)
    → (runs_at (slice_set runs pc here) i).taken ≡ (runs_at runs i).taken + (if nat_eq pc i && b then 1 else 0)
taken_set runs pc i here b within is =
    elim (cases_eq i pc) [
      | inl at ↦
          let same = ap (λ (r : Runs). r.taken) (get_or-set_same runs pc here never within) in
          rw at (omega (arith, same, is, taken_here pc _ _ b refl refl))
      | inr apart ↦
          let same = ap (λ (r : Runs). r.taken) (get_or-set_other runs pc i here never apart) in
          omega (arith, same, taken_apart pc i _ b refl apart)
    ]

-- one more, by the counts of its instruction
pub counts_next : {t : OnPacket} {n m : ℕ} {s : Registers} {old new : List Runs} (here : Runs) (next : ℕ)
    → CountsFirst t n s.pc old new → IsOnTrace t n s → s.pc < length new → s.pc < next → m ≡ n + 1
    → here ≡ record {
      executed = (runs_at new s.pc).executed + 1;
      taken = (runs_at new s.pc).taken + (if is_taken t.machine.list s then 1 else 0);
    } → CountsFirst t m next old (slice_set new s.pc here)
counts_next {t = t} {s = s} {new = new} here next before on within higher one is =
    counts_on (slice_set new s.pc here) (is_taken t.machine.list s) next before on higher one
    (λ i. executed_set new s.pc i here within (ap (λ (r : Runs). r.executed) is))
    (λ i. taken_set new s.pc i here (is_taken t.machine.list s) within (ap (λ (r : Runs). r.taken) is)) refl

-- all of them
pub counts_all : {t : OnPacket} {n pc : ℕ} {old new : List Runs} → CountsFirst t n pc old new → length (trace_in t) ≡ n
    → ((i : ℕ) → (runs_at new i).executed ≡ (runs_at old i).executed + executed_in (trace_in t) i)
    × ((i : ℕ) → (runs_at new i).taken ≡ (runs_at old i).taken + taken_in t.machine.list (trace_in t) i)
counts_all {t = t} {n = n} {old = old} {new = new} counts long =
    let all : take n (trace_in t) ≡ trace_in t = take_all n (trace_in t) (omega (arith, long)) in
    (λ i. rw all at (counts.executed i), λ i. rw all at (counts.taken i))
