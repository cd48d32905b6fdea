-- What one packet of a checked program executes of each block.
use Rattle.std.proofs.Common.{◌≡◌, ℕ, zero, suc, ◌+◌, ◌<◌, ◌≤◌, List, [], ◌∷◌, length, take, take_all, arith, refl, sym, ap, ◌∙◌, inl, inr}
use Rattle.std.specs.Prelude.{Bool, true, false, Some, None, ◌==◌, ◌||◌, ◌⊎◌, nat_eq, slice_get, if◌then◌else◌}
use Rattle.std.specs.List.{list_any, enumerate_from}
use Rattle.std.proofs.lemmas.Bool.{cases_eq}
use Rattle.std.proofs.lemmas.List.Sums.{sum_by_push}
use Rattle.cbpf_code.specs.Opcode.{op_of}
use Rattle.cbpf_code.specs.Sound.{IsSound}
use Rattle.cbpf_code.specs.declared.insn.Insn.{Insn}
use Rattle.cbpf_code.specs.declared.opcode.Op.{Op}
use Rattle.cbpf_code.specs.declared.opcode.Op.TheVariants.{Ja, Jump, RetK, RetA}
use Rattle.cbpf_machine.specs.Choices.{executed_in}
use Rattle.cbpf_machine.specs.OnPacket.{OnPacket, IsOnTrace, trace_in, turn_in}
use Rattle.cbpf_machine.specs.Registers.{Registers, zero_state}
use Rattle.cbpf_machine.specs.Trace.{last_or, next_of}
use Rattle.cbpf_machine.specs.Turn.{compares, execute, jump, operand}
use Rattle.cbpf_machine.specs.Values.{Values}
use Rattle.cbpf_machine.specs.declared.outcome.Turn.TheVariants.{Next}
use Rattle.cbpf_machine.proofs.RunningLemmas.{take_next}
use Rattle.cbpf_machine.proofs.TogetherLemmas.{turn_by}
use Rattle.cbpf_machine.proofs.TraceLemmas.{goes_from_entry, goes_last, goes_next, trace-is_run, turn_cases, turn_on}
use Rattle.cbpf_machine.proofs.TurnLemmas.{execute_on, jumps}
use Rattle.cbpf_why.specs.Graph.{begins_block, block_of, opened_by, opens}
use Rattle.cbpf_why.proofs.BlockLemmas.{enum_at}
use Rattle.cbpf_why.proofs.GroupLawLemmas.{itself}
use Rattle.cbpf_why.proofs.StepLemmas.{last_is}
use Rattle.cbpf_why.proofs.InstructionLemmas.{Found, find, there_too}
use Rattle.cbpf_why.proofs.StraightLemmas.{last_entry}

or_true : (b : Bool) → (b || true) ≡ true
or_true true = refl
or_true false = refl

any_there : {X : Type 0} (p : X → Bool) (xs : List X) (i : ℕ) (x : X) → slice_get xs i ≡ Some x → p x ≡ true → list_any p xs ≡ true
any_there p [] i x there h = absurd cc
any_there p (y ∷ ys) zero x there h = let same : y ≡ x = cc in rw (same, h) refl
any_there p (y ∷ ys) (suc i) x there h = let rest = any_there p ys i x there h in rw rest (or_true (p y))

-- where an instruction opens a block, one begins
pub begun : (list : List Insn) (i to : ℕ) (insn : Insn) (op : Op) → slice_get list i ≡ Some insn → op_of insn.code ≡ Some op
    → list_any (λ j. j == to) (opened_by (Some op) insn i) ≡ true → begins_block list to ≡ true
begun list i to insn op here decodes h =
    let zero-is : 0 + i ≡ i = omega arith in
    let there = enum_at list 0 i insn here ∙ ap (λ (n : ℕ). Some (n, insn)) zero-is in
    let opened : opens to (i, insn) ≡ true = rw decodes h in
    let any = any_there (opens to) (enumerate_from 0 list) i (i, insn) there opened in
    rw any (or_true (to == 0))

pub starts : (list : List Insn) (i : ℕ) → begins_block list i ≡ true → block_of list i ≡ i
starts list zero h = refl
starts list (suc i) h = rw h refl

pub block_below : (list : List Insn) (i : ℕ) → block_of list i ≤ i
block_below list zero = omega arith
block_below list (suc i) = by (begins_block list (suc i)) (block_below list i)
  where
    by : (b : Bool) → block_of list i ≤ i → (if b then suc i else block_of list i) ≤ suc i
    by true below = omega arith
    by false below = omega (arith, below)

-- what follows the last instruction of a block is in a later one
pub later : (list : List Insn) (i j : ℕ) → begins_block list (i + 1) ≡ true → i < j → i < block_of list j
later list i zero h l = absurd (omega (arith, l))
later list i (suc j) h l = by (begins_block list (suc j)) refl (later list i j h)
  where
    by : (b : Bool) → begins_block list (suc j) ≡ b → (i < j → i < block_of list j) → i < block_of list (suc j)
    by true e before = rw e (omega (arith, l))
    by false e before =
        elim (cases_eq i j) [
          | inl same ↦
              let place : i + 1 ≡ suc j = omega (arith, same) in
              absurd (let both : true ≡ false = sym h ∙ ap (begins_block list) place ∙ e in cc)
          | inr other ↦ let rest = before (omega (arith, l, other)) in rw e rest
        ]

-- ---- one turn

first_of_two : (a b : ℕ) → ((a == a) || ((b == a) || false)) ≡ true
first_of_two a b = rw (itself a) refl

pub last_of_two : (a b : ℕ) → ((a == b) || ((b == b) || false)) ≡ true
last_of_two a b = rw (itself b) (or_true (a == b))

first_of_three : (a b c : ℕ) → ((a == a) || ((b == a) || ((c == a) || false))) ≡ true
first_of_three a b c = rw (itself a) refl

pub second_of_three : (a b c : ℕ) → ((a == b) || ((b == b) || ((c == b) || false))) ≡ true
second_of_three a b c = rw (itself b) (or_true (a == b))

pub last_of_three : (a b c : ℕ) → ((a == c) || ((b == c) || ((c == c) || false))) ≡ true
last_of_three a b c = rw (itself c, or_true (b == c)) (or_true (a == c))

-- an operation opens blocks where it goes and after itself, or goes on to the next instruction
leads : (op : Op) (insn : Insn) (values : Values) (bytes : List ℕ) (wire : ℕ) (s u : Registers)
    → execute op insn values bytes wire s ≡ Next u
    → ((list_any (λ j. j == u.pc) (opened_by (Some op) insn s.pc) ≡ true)
    × (list_any (λ j. j == s.pc + 1) (opened_by (Some op) insn s.pc) ≡ true)) ⊎ (u.pc ≡ s.pc + 1)
leads Ja insn values bytes wire s u h =
    let there : u.pc ≡ s.pc + 1 + insn.k = cc in
    inl (rw there (last_of_two (s.pc + 1) (s.pc + 1 + insn.k)), first_of_two (s.pc + 1) (s.pc + 1 + insn.k))
leads (Jump cond src) insn values bytes wire s u h =
    inl (by (compares cond s.a (operand src insn.k s.x)) h, first_of_three (s.pc + 1) (s.pc + 1 + insn.jt) (s.pc + 1 + insn.jf))
  where
    by : (b : Bool) → jump s (if b then insn.jt else insn.jf) ≡ Next u
        → ((s.pc + 1 == u.pc) || ((s.pc + 1 + insn.jt == u.pc) || ((s.pc + 1 + insn.jf == u.pc) || false))) ≡ true
    by true h =
        let there : u.pc ≡ s.pc + 1 + insn.jt = cc in
        rw there (second_of_three (s.pc + 1) (s.pc + 1 + insn.jt) (s.pc + 1 + insn.jf))
    by false h =
        let there : u.pc ≡ s.pc + 1 + insn.jf = cc in
        rw there (last_of_three (s.pc + 1) (s.pc + 1 + insn.jt) (s.pc + 1 + insn.jf))
leads op insn values bytes wire s u h = inr (execute_on op insn values bytes wire s u refl h)

abbrev pub returns : Op → Bool
returns RetK = true
returns RetA = true
returns _ = false

jump_goes : (op : Op) (insn : Insn) (values : Values) (bytes : List ℕ) (wire : ℕ) (s : Registers) → jumps op ≡ true
    → next_of (execute op insn values bytes wire s) ≡ None → ⊥
jump_goes Ja insn values bytes wire s j h = cc
jump_goes (Jump cond src) insn values bytes wire s j h = cc
jump_goes _ insn values bytes wire s j h = cc

return_stays : (op : Op) (insn : Insn) (values : Values) (bytes : List ℕ) (wire : ℕ) (s u : Registers) → returns op ≡ true
    → execute op insn values bytes wire s ≡ Next u → ⊥
return_stays RetK insn values bytes wire s u r h = cc
return_stays RetA insn values bytes wire s u r h = cc
return_stays _ insn values bytes wire s u r h = cc

-- ---- one packet of a checked program

apart : (pc i n : ℕ) → n ≡ (if nat_eq pc i then 1 else 0) → (i ≡ pc → ⊥) → n ≡ 0
apart pc i n e other = grind arith

one_on : (pc i n m : ℕ) → n ≡ (if nat_eq pc i then 1 else 0) → m ≡ (if nat_eq (pc + 1) (i + 1) then 1 else 0) → n ≡ m
one_on pc i n m e f = grind arith

-- how often a packet ended at an instruction
abbrev pub ended_here : OnPacket → ℕ → ℕ
ended_here t i = if nat_eq (last_or zero_state (trace_in t)).pc i then 1 else 0

-- the last entry, of which a fact holds
pub record Last (t : OnPacket) (P : ℕ → Registers → Type 0) : Type 0 where
  pub place : ℕ
  pub last : Registers
  pub there : IsOnTrace t place last
  pub ends : next_of (turn_in t last) ≡ None
  pub holds : P place last

module _ (t : OnPacket) (sound : IsSound t.machine.list) where
  -- what holds of the first entry, and goes on by each turn, holds of the last one
  carried : (P : ℕ → Registers → Type 0)
      → ((n : ℕ) (s u : Registers) → IsOnTrace t n s → turn_in t s ≡ Next u → P n s → P (n + 1) u)
      → (k n : ℕ) (s : Registers) → IsOnTrace t n s → length t.machine.list ≤ s.pc + k → P n s → Last t P
  carried P step zero n s here bound holds = let inside = here.inside in absurd (omega (arith, inside, bound))
  carried P step (suc k) n s here bound holds =
      elim (turn_cases (turn_in t s)) [
        | inl next ↦
            let higher = turn_on t sound s next.0 here.inside next.1 in
            carried P step k (n + 1) next.0 (goes_next here next.0 next.1) (omega (arith, bound, higher.0))
            (step n s next.0 here next.1 holds)
        | inr end ↦ record { place = n; last = s; there = here; ends = end; holds = holds }
      ]

  carried_on : (P : ℕ → Registers → Type 0)
      → ((n : ℕ) (s u : Registers) → IsOnTrace t n s → turn_in t s ≡ Next u → P n s → P (n + 1) u)
      → P 0 zero_state → Last t P
  carried_on P step holds =
      carried P step (length t.machine.list) 0 zero_state (goes_from_entry t sound 0 zero_state (trace-is_run t sound).first)
      (omega arith) holds

  counted : (n i : ℕ) (s : Registers) → IsOnTrace t n s
      → executed_in (take (n + 1) (trace_in t)) i ≡ executed_in (take n (trace_in t)) i + (if nat_eq s.pc i then 1 else 0)
  counted n i s here = ap (λ l. executed_in l i) (take_next here) ∙ sum_by_push _ (take n (trace_in t)) s

  -- at the last entry
  at_end : (n i : ℕ) (s : Registers) → IsOnTrace t n s → next_of (turn_in t s) ≡ None
      → executed_in (trace_in t) i ≡ executed_in (take n (trace_in t)) i + ended_here t i
  at_end n i s here end =
      let all : take (n + 1) (trace_in t) ≡ trace_in t = take_all _ _ (omega (arith, goes_last here end)) in
      ap (λ l. executed_in l i) (sym all) ∙ counted n i s here
      ∙ ap (λ (x : Registers). executed_in (take n (trace_in t)) i + (if nat_eq x.pc i then 1 else 0)) (last_is here end)

  goes_on : (s u : Registers) → s.pc < length t.machine.list → turn_in t s ≡ Next u
      → ((begins_block t.machine.list u.pc ≡ true) × (begins_block t.machine.list (s.pc + 1) ≡ true)) ⊎ (u.pc ≡ s.pc + 1)
  goes_on s u inside e =
      let f = find t.machine.list s.pc sound inside in
      elim (leads f.op f.insn t.machine.values t.bytes t.wire s u (sym (turn_by t s f.insn f.op f.here f.decodes) ∙ e)) [
        | inl both ↦ inl (
          begun t.machine.list s.pc u.pc f.insn f.op f.here f.decodes both.0,
          begun t.machine.list s.pc (s.pc + 1) f.insn f.op f.here f.decodes both.1,
        )
        | inr next ↦ inr next
      ]

  -- where no block begins, a packet comes to an instruction from the one before alone
  within : (i : ℕ) (s u : Registers) → begins_block t.machine.list (i + 1) ≡ false → s.pc < length t.machine.list
      → turn_in t s ≡ Next u → ◌≡◌ {A = ℕ} (if nat_eq s.pc i then 1 else 0) (if nat_eq u.pc (i + 1) then 1 else 0)
  within i s u plain inside e =
      elim (goes_on s u inside e) [
        | inl both ↦
            apart s.pc i _ refl
            (λ h. let o : true ≡ false = sym both.1 ∙ ap (λ n. begins_block t.machine.list (n + 1)) (sym h) ∙ plain in cc)
            ∙ sym (apart u.pc (i + 1) _ refl
            (λ h. let o : true ≡ false = sym both.0 ∙ ap (begins_block t.machine.list) (sym h) ∙ plain in cc))
        | inr next ↦ one_on s.pc i _ _ refl (ap (λ (n : ℕ). if nat_eq n (i + 1) then 1 else 0) next)
      ]

  pub block_goes_on : (i : ℕ) → begins_block t.machine.list (i + 1) ≡ false
      → executed_in (trace_in t) i ≡ ended_here t i + executed_in (trace_in t) (i + 1)
  block_goes_on i plain =
      let start : ◌≡◌ {A = ℕ} (if nat_eq 0 (i + 1) then 1 else 0) 0 = apart 0 (i + 1) _ refl (λ h. omega (arith, h)) in
      let last = carried_on
      (λ n s. executed_in (take n (trace_in t)) i ≡ executed_in (take n (trace_in t)) (i + 1) + (if nat_eq s.pc (i + 1) then 1 else 0))
      (λ n s u here e holds.
      omega (arith, counted n i s here, counted n (i + 1) s here, holds, within i s u plain here.inside e))
      (omega (arith, start)) in
      let same : ◌≡◌ {A = ℕ} (if nat_eq last.last.pc (i + 1) then 1 else 0) (ended_here t (i + 1)) =
      ap (λ (x : Registers). if nat_eq x.pc (i + 1) then 1 else 0) (last_is last.there last.ends) in
      omega (
        arith,
        at_end last.place i last.last last.there last.ends,
        at_end last.place (i + 1) last.last last.there last.ends,
        last.holds,
        same,
      )

  pub ended_ran : (i : ℕ) → ended_here t i ≤ executed_in (trace_in t) i
  ended_ran i = let last = last_entry t sound in omega (arith, at_end last.place i _ last.there last.ends)

  -- no packet ends at a jump
  pub none_ended : (i : ℕ) (f : Found t.machine.list i) → jumps f.op ≡ true → ended_here t i ≡ 0
  none_ended i f j =
      let last = last_entry t sound in
      let s = last_or zero_state (trace_in t) in
      apart s.pc i _ refl
      (λ h. jump_goes f.op f.insn t.machine.values t.bytes t.wire s j
      (rw (turn_by t s f.insn f.op (there_too t.machine.list _ _ f.insn h f.here) f.decodes) at last.ends))

  -- each packet that comes to a return ends there
  pub all_ended : (i : ℕ) (f : Found t.machine.list i) → returns f.op ≡ true → executed_in (trace_in t) i ≡ ended_here t i
  all_ended i f r =
      let last = carried_on (λ n s. executed_in (take n (trace_in t)) i ≡ 0)
      (λ n s u here e holds.
      let other = apart s.pc i _ refl
      (λ h. return_stays f.op f.insn t.machine.values t.bytes t.wire s u r
      (sym (turn_by t s f.insn f.op (there_too t.machine.list _ _ f.insn h f.here) f.decodes) ∙ e)) in
      omega (arith, counted n i s here, holds, other))
      refl in
      omega (arith, at_end last.place i last.last last.there last.ends, last.holds)
