-- The runs of a block are those of the edges from it and of the packets that ended in it, and each edge leads to a block.
use Rattle.std.proofs.Common.{◌≡◌, ℕ, zero, suc, ◌+◌, ◌*◌, ◌<◌, ◌≤◌, List, [], ◌∷◌, length, arith, refl, sym, ap, ◌∙◌, inl, inr}
use Rattle.std.specs.Prelude.{Bool, true, false, Some, ◌==◌, ◌&&◌, ◌||◌, nat_eq, sum_by, if◌then◌else◌}
use Rattle.std.specs.List.{AllByRecursion, list_any}
use Rattle.std.proofs.lemmas.Bool.{cases_eq}
use Rattle.std.proofs.lemmas.List.Elements.{All-from_recursion}
use Rattle.std.proofs.lemmas.List.Sums.{sum_by-cons}
use Rattle.cbpf_code.specs.ControlFlow.{IsAmong, successors}
use Rattle.cbpf_code.specs.Sound.{IsSound}
use Rattle.cbpf_code.specs.declared.insn.Insn.{Insn}
use Rattle.cbpf_code.specs.declared.opcode.Op.{Op}
use Rattle.cbpf_code.specs.declared.opcode.Op.TheVariants.{Ja, Jump, RetK, RetA}
use Rattle.cbpf_code.proofs.SoundLemmas.{sound_next}
use Rattle.cbpf_machine.specs.Choices.{executed_in, is_taken, taken_in}
use Rattle.cbpf_machine.specs.Machine.{Machine}
use Rattle.cbpf_machine.specs.Registers.{Registers}
use Rattle.cbpf_machine.specs.Trace.{trace}
use Rattle.cbpf_machine.proofs.TurnLemmas.{jumps}
use Rattle.pcap_classic.specs.Records.{Record}
use Rattle.cbpf_why.specs.Ends.{only_ended, only_ended_of, ended, is_verdict, verdict_of}
use Rattle.cbpf_why.specs.Graph.{Edge, begins_block, block_of, edges_by, ended_in, facts_at, is_last, opened_by}
use Rattle.cbpf_why.specs.Groups.{group, is_in_group}
use Rattle.cbpf_why.specs.Laws.{BlocksSum, EdgesLead, LeadsToBlock, edges_at, ended_in_block, sum_of_first}
use Rattle.cbpf_why.specs.Runs.{executed, taken}
use Rattle.cbpf_why.specs.declared.ended.Verdict.{Verdict}
use Rattle.cbpf_why.specs.declared.ended.Verdict.TheVariants.{Pass, Fail, Unknown}
use Rattle.cbpf_why.specs.declared.graph.Facts.{Facts}
use Rattle.cbpf_why.proofs.GroupLawLemmas.{itself, longer, sum_zero}
use Rattle.cbpf_why.proofs.InstructionLemmas.{Found, find}
use Rattle.cbpf_why.proofs.StraightLemmas.{on}
use Rattle.cbpf_why.proofs.BlockTurnLemmas.{begun, starts, block_below, later, last_of_two, second_of_three, last_of_three, returns, block_goes_on, ended_ran, none_ended, all_ended}

-- ---- some packets

sums_add : (f g h : Record → ℕ) → ((r : Record) → f r ≡ g r + h r) → (rs : List Record) → sum_by f rs ≡ sum_by g rs + sum_by h rs
sums_add f g h e [] = omega arith
sums_add f g h e (r ∷ rs) =
    omega (arith, sum_by-cons f r rs, sum_by-cons g r rs, sum_by-cons h r rs, e r, sums_add f g h e rs)

sums_le : (f g : Record → ℕ) → ((r : Record) → f r ≤ g r) → (rs : List Record) → sum_by f rs ≤ sum_by g rs
sums_le f g e [] = omega arith
sums_le f g e (r ∷ rs) = omega (arith, sum_by-cons f r rs, sum_by-cons g r rs, e r, sums_le f g e rs)

sums_same : (f g : Record → ℕ) → ((r : Record) → f r ≡ g r) → (rs : List Record) → sum_by f rs ≡ sum_by g rs
sums_same f g e [] = refl
sums_same f g e (r ∷ rs) = omega (arith, sum_by-cons f r rs, sum_by-cons g r rs, e r, sums_same f g e rs)

sums_none : (f : Record → ℕ) → ((r : Record) → f r ≡ 0) → (rs : List Record) → sum_by f rs ≡ 0
sums_none f e [] = refl
sums_none f e (r ∷ rs) = omega (arith, sum_by-cons f r rs, e r, sums_none f e rs)

one_verdict : (b : Bool) (v : Verdict) → (if b && is_verdict Pass v then 1 else 0) + (if b && is_verdict Fail v then 1 else 0)
    + (if b && is_verdict Unknown v then 1 else 0) ≡ (if b then 1 else 0)
one_verdict true Pass = refl
one_verdict true Fail = refl
one_verdict true Unknown = refl
one_verdict false v = refl

same_row : (pc i : ℕ) → (2 * pc == 2 * i) ≡ nat_eq pc i
same_row pc i = grind arith

three_more : (a b c x y z p q r : ℕ) → p ≡ a + x → q ≡ b + y → r ≡ c + z → p + q + r ≡ (a + b + c) + (x + y + z)
three_more a b c x y z p q r d e f = omega (arith, d, e, f)

held_less : (b c : Bool) → (if b && c then 1 else 0) ≤ (if b then 1 else 0)
held_less true true = omega arith
held_less true false = omega arith
held_less false c = omega arith

taken_less : (list : List Insn) (i : ℕ) (entries : List Registers) → taken_in list entries i ≤ executed_in entries i
taken_less list i [] = omega arith
taken_less list i (s ∷ ss) =
    let took : taken_in list (s ∷ ss) i ≡ (if nat_eq s.pc i && is_taken list s then 1 else 0) + taken_in list ss i =
    sum_by-cons _ s ss in
    let ran : executed_in (s ∷ ss) i ≡ (if nat_eq s.pc i then 1 else 0) + executed_in ss i = sum_by-cons _ s ss in
    omega (arith, took, ran, held_less (nat_eq s.pc i) (is_taken list s), taken_less list i ss)

at_most : (a b c : ℕ) → a ≡ b → b ≤ c → a ≤ c
at_most a b c e l = omega (arith, e, l)

module _ (m : Machine) (sound : IsSound m.list) where
  -- the packets of the three groups of an instruction are those that ended there
  ended_are : (i : ℕ) (records : List Record) → ended_in (facts_at m records (only_ended_of m records) i)
      ≡ sum_by (λ r. if nat_eq (ended m r).pc i then 1 else 0) records
  ended_are i [] = refl
  ended_are i (r ∷ rs) =
      let d = only_ended m r in
      let before : ℕ = ended_in (facts_at m rs (only_ended_of m rs) i) in
      three_more _ _ _ _ _ _ _ _ _ (longer (is_in_group (2 * i) Pass d) d (group (only_ended_of m rs) (2 * i) Pass))
      (longer (is_in_group (2 * i) Fail d) d (group (only_ended_of m rs) (2 * i) Fail))
      (longer (is_in_group (2 * i) Unknown d) d (group (only_ended_of m rs) (2 * i) Unknown))
      ∙ ap (λ (n : ℕ). n + before)
      (one_verdict (2 * (ended m r).pc == 2 * i) (verdict_of (ended m r).reason)
      ∙ ap (λ b. if b then 1 else 0) (same_row (ended m r).pc i))
      ∙ ap (λ (n : ℕ). (if nat_eq (ended m r).pc i then 1 else 0) + n) (ended_are i rs)
      ∙ sym (sum_by-cons (λ x. if nat_eq (ended m x).pc i then 1 else 0) r rs)

  runs_go_on : (i : ℕ) (records : List Record) → begins_block m.list (i + 1) ≡ false
      → executed m records i ≡ ended_in (facts_at m records (only_ended_of m records) i) + executed m records (i + 1)
  runs_go_on i records plain =
      sums_add (λ r. executed_in (trace m r.bytes r.wire) i) (λ r. if nat_eq (ended m r).pc i then 1 else 0)
      (λ r. executed_in (trace m r.bytes r.wire) (i + 1)) (λ r. block_goes_on (on m r) sound i plain) records
      ∙ ap (λ (n : ℕ). n + executed m records (i + 1)) (sym (ended_are i records))

  few_ended : (i : ℕ) (records : List Record)
      → ended_in (facts_at m records (only_ended_of m records) i) ≤ executed m records i
  few_ended i records =
      at_most _ _ _ (ended_are i records)
      (sums_le (λ r. if nat_eq (ended m r).pc i then 1 else 0) (λ r. executed_in (trace m r.bytes r.wire) i)
      (λ r. ended_ran (on m r) sound i) records)

  few_taken : (i : ℕ) (records : List Record) → taken m records i ≤ executed m records i
  few_taken i records =
      sums_le (λ r. taken_in m.list (trace m r.bytes r.wire) i) (λ r. executed_in (trace m r.bytes r.wire) i)
      (λ r. taken_less m.list i (trace m r.bytes r.wire)) records

  jump_keeps : (i : ℕ) (records : List Record) (f : Found m.list i) → jumps f.op ≡ true
      → ended_in (facts_at m records (only_ended_of m records) i) ≡ 0
  jump_keeps i records f j =
      ended_are i records
      ∙ sums_none (λ r. if nat_eq (ended m r).pc i then 1 else 0) (λ r. none_ended (on m r) sound i f j) records

  return_ends : (i : ℕ) (records : List Record) (f : Found m.list i) → returns f.op ≡ true
      → executed m records i ≡ ended_in (facts_at m records (only_ended_of m records) i)
  return_ends i records f r =
      sums_same (λ x. executed_in (trace m x.bytes x.wire) i) (λ x. if nat_eq (ended m x).pc i then 1 else 0)
      (λ x. all_ended (on m x) sound i f r) records
      ∙ sym (ended_are i records)

-- ---- the edges of a block

balance : (op : Op) (i : ℕ) (insn : Insn) (f : Facts) → f.runs.taken ≤ f.runs.executed → ended_in f ≤ f.runs.executed
    → (jumps op ≡ true → ended_in f ≡ 0) → (returns op ≡ true → f.runs.executed ≡ ended_in f)
    → f.runs.executed ≡ sum_by (λ (e : Edge). e.count) (edges_by i insn f (Some op)) + ended_in f
balance Ja i insn f held few keeps ends = let none = keeps refl in omega (arith, none)
balance (Jump cond src) i insn f held few keeps ends = let none = keeps refl in omega (arith, none, held)
balance RetK i insn f held few keeps ends = let all = ends refl in omega (arith, all)
balance RetA i insn f held few keeps ends = let all = ends refl in omega (arith, all)
balance op i insn f held few keeps ends = omega (arith, few)

after_last : (a n : ℕ) (b : Bool) → ((a == n) || b) ≡ true → a < n → b ≡ true
after_last a n b h l = grind arith

sum_more : (f : ℕ → ℕ) (a n : ℕ) → a ≤ n → ((j : ℕ) → a ≤ j → j < n → f j ≡ 0) → sum_of_first f n ≡ sum_of_first f a
sum_more f a zero l h = let same : zero ≡ a = omega (arith, l) in ap (sum_of_first f) same
sum_more f a (suc n) l h =
    elim (cases_eq a (suc n)) [
      | inl same ↦ ap (sum_of_first f) (sym same)
      | inr other ↦
          let below : a ≤ n = omega (arith, l, other) in
          let rest = sum_more f a n below (λ j from to. h j from (omega (arith, to))) in
          let last = h n below (omega arith) in
          omega (arith, rest, last)
    ]

same_block : (b n : ℕ) → ◌≡◌ {A = ℕ} (if b == b then n else 0) n
same_block b n = rw (itself b) refl

other_block : (a b n : ℕ) → (a ≡ b → ⊥) → ◌≡◌ {A = ℕ} (if a == b then n else 0) 0
other_block a b n h = grind arith

go_in : (a s : ℕ) → s ≡ 0 → a ≡ s + a
go_in a s h = omega (arith, h)

go_through : (a s e r next : ℕ) → a ≡ s + r → r ≡ e + next → a ≡ (s + e) + next
go_through a s e r next h k = omega (arith, h, k)

go_out : (a s r out e all : ℕ) → a ≡ s + r → r ≡ out + e → all ≡ s + e → a ≡ out + all
go_out a s r out e all h k l = omega (arith, h, k, l)

module _ (m : Machine) (sound : IsSound m.list) (records : List Record) where
  -- the packets that ended in a block up to its instruction i
  ended_more : (i : ℕ) → sum_of_first (ended_in_block m records (block_of m.list i)) (suc i)
      ≡ sum_of_first (ended_in_block m records (block_of m.list i)) i + ended_in (facts_at m records (only_ended_of m records) i)
  ended_more i =
      ap (λ (n : ℕ). sum_of_first (ended_in_block m records (block_of m.list i)) i + n)
      (same_block (block_of m.list i) (ended_in (facts_at m records (only_ended_of m records) i)))

  -- a packet that comes into a block comes to its instruction i, or ended before
  runs_so_far : (i : ℕ) → executed m records (block_of m.list i)
      ≡ sum_of_first (ended_in_block m records (block_of m.list i)) i + executed m records i
  runs_so_far zero = omega arith
  runs_so_far (suc i) = by (begins_block m.list (suc i)) refl (runs_so_far i)
    where
      by : (b : Bool) → begins_block m.list (suc i) ≡ b
          → executed m records (block_of m.list i)
          ≡ sum_of_first (ended_in_block m records (block_of m.list i)) i + executed m records i
          → executed m records (block_of m.list (suc i))
          ≡ sum_of_first (ended_in_block m records (block_of m.list (suc i))) (suc i) + executed m records (suc i)
      by true e before =
          let none = sum_zero (ended_in_block m records (suc i)) (suc i)
          (λ j l. other_block (block_of m.list j) (suc i) _
          (λ h. let below = block_below m.list j in omega (arith, below, h, l))) in
          let is = starts m.list (suc i) e in
          ap (executed m records) is ∙ go_in _ _ none
          ∙ ap (λ (b : ℕ). sum_of_first (ended_in_block m records b) (suc i) + executed m records (suc i)) (sym is)
      by false e before =
          let is : block_of m.list (suc i) ≡ block_of m.list i = rw e refl in
          let next : i + 1 ≡ suc i = omega arith in
          let goes = runs_go_on m sound i records (ap (begins_block m.list) next ∙ e) in
          let here = go_through _ _ _ _ _ before (rw next at goes)
          ∙ ap (λ (n : ℕ). n + executed m records (suc i)) (sym (ended_more i)) in
          ap (executed m records) is ∙ here
          ∙ ap (λ (b : ℕ). sum_of_first (ended_in_block m records b) (suc i) + executed m records (suc i)) (sym is)

  ends_before : (i : ℕ) → i < length m.list → is_last m.list i ≡ true
      → sum_of_first (ended_in_block m records (block_of m.list i)) (length m.list)
      ≡ sum_of_first (ended_in_block m records (block_of m.list i)) (suc i)
  ends_before i inside last =
      sum_more (ended_in_block m records (block_of m.list i)) (suc i) (length m.list) (omega (arith, inside))
      (λ j from to. other_block (block_of m.list j) (block_of m.list i) _
      (λ h.
      let next = after_last (i + 1) (length m.list) (begins_block m.list (i + 1)) last (omega (arith, from, to)) in
      let past = later m.list i j next (omega (arith, from)) in
      let below = block_below m.list i in
      omega (arith, past, below, h)))

edges_known : (m : Machine) (records : List Record) (i : ℕ) (f : Found m.list i)
    → edges_at m records i ≡ edges_by i f.insn (facts_at m records (only_ended_of m records) i) (Some f.op)
edges_known m records i f = rw (f.here, f.decodes) refl

pub blocks_sum : BlocksSum
blocks_sum m sound records i inside last =
    let f = find m.list i sound inside in
    let facts : Facts = facts_at m records (only_ended_of m records) i in
    let out = balance f.op i f.insn facts (few_taken m sound i records) (few_ended m sound i records)
    (jump_keeps m sound i records f) (return_ends m sound i records f) in
    let edges = ap (λ es. sum_by (λ (e : Edge). e.count) es + ended_in facts) (sym (edges_known m records i f)) in
    go_out _ _ _ _ _ _ (runs_so_far m sound records i) (out ∙ edges)
    (ends_before m sound records i inside last ∙ ended_more m sound records i)

leads_by : (list : List Insn) (i : ℕ) (insn : Insn) (op : Op) (f : Facts)
    → ((to : ℕ) → IsAmong (successors (Some op) insn i) to → to < length list)
    → ((to : ℕ) → list_any (λ j. j == to) (opened_by (Some op) insn i) ≡ true → begins_block list to ≡ true)
    → (i + 1 < length list → begins_block list (i + 1) ≡ true)
    → AllByRecursion (LeadsToBlock list) (edges_by i insn f (Some op))
leads_by list i insn Ja f inside opened next =
    let to = i + 1 + insn.k in ((inside to (inl refl), starts list to (opened to (last_of_two (i + 1) to))), tt)
leads_by list i insn (Jump cond src) f inside opened next =
    let one = i + 1 + insn.jt in
    let other = i + 1 + insn.jf in (
      (inside one (inl refl), starts list one (opened one (second_of_three (i + 1) one other))),
      ((inside other (inr (inl refl)), starts list other (opened other (last_of_three (i + 1) one other))), tt),
    )
leads_by list i insn RetK f inside opened next = tt
leads_by list i insn RetA f inside opened next = tt
leads_by list i insn op f inside opened next =
    let to = inside (i + 1) (inl refl) in ((to, starts list (i + 1) (next to)), tt)

pub edges_lead : EdgesLead
edges_lead m sound records i inside last =
    let f = find m.list i sound inside in
    rw (edges_known m records i f)
    (All-from_recursion _ _ (leads_by m.list i f.insn f.op (facts_at m records (only_ended_of m records) i)
    (sound_next m.list i f.insn f.op sound f.here f.decodes) (λ to h. begun m.list i to f.insn f.op f.here f.decodes h)
    (λ l. after_last (i + 1) (length m.list) (begins_block m.list (i + 1)) last l)))
