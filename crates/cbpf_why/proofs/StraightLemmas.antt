-- After a packet's last conditional jump the way to its return is straight, so two packets that went the same way there
-- come to the same return.
use Rattle.std.proofs.Common.{◌≡◌, ℕ, zero, suc, ◌+◌, ◌-◌, ◌<◌, ◌≤◌, List, [], ◌∷◌, length, arith, refl, sym, ap, ◌∙◌, inl, inr, get_or}
use Rattle.std.proofs.Common.{◌*◌}
use Rattle.std.specs.Prelude.{Bool, true, false, Option, Some, None, filter, slice_get, if◌then◌else◌, option_map}
use Rattle.cbpf_machine.specs.declared.follow.Choice.{Choice}
use Rattle.pcap_classic.specs.Records.{Record}
use Rattle.std.proofs.lemmas.Option.{slice_get-get_or, slice_get_within}
use Rattle.cbpf_code.specs.Sound.{IsSound}
use Rattle.cbpf_code.specs.declared.insn.Insn.{Insn}
use Rattle.cbpf_machine.specs.Machine.{Machine}
use Rattle.cbpf_machine.specs.OnPacket.{OnPacket, IsOnTrace, trace_in, turn_in}
use Rattle.cbpf_machine.specs.Registers.{Registers, zero_state}
use Rattle.cbpf_machine.specs.Trace.{last_or, next_of}
use Rattle.cbpf_machine.specs.Choices.{choice_at, is_taken, is_test_at, last, last_choice, last_test}
use Rattle.cbpf_machine.specs.declared.outcome.End.{End}
use Rattle.cbpf_machine.specs.declared.outcome.End.TheVariants as end_is
use Rattle.cbpf_machine.specs.declared.outcome.Turn.TheVariants as turn_is
use Rattle.cbpf_machine.proofs.TraceLemmas.{goes_at, goes_from_entry, goes_next, last_or-at, trace-is_run, turn_cases, turn_on}
use Rattle.cbpf_why.specs.Ends.{decided, deciding, end_by, ended}
use Rattle.cbpf_why.specs.Groups.{row, row_by}
use Rattle.cbpf_why.specs.Laws.{SameEnd, without_value}
use Rattle.cbpf_why.proofs.StepLemmas.{last_is}
use Rattle.cbpf_why.proofs.InstructionLemmas.{after, compared, find, test_by_op, there_too, turn_does, turn_ends, turn_returns, turn_branches}

-- ---- the last conditional jump of some entries

none_in : (p : Registers → Bool) (xs : List Registers) → filter p xs ≡ [] → (n : ℕ) (x : Registers) → slice_get xs n ≡ Some x
    → p x ≡ false
none_in p [] h n x at = absurd cc
none_in p (y ∷ ys) h n x at = by_head (p y) refl (λ e n at. none_in p ys e n x at) n at
  where
    by_head : (b : Bool) → p y ≡ b → (filter p ys ≡ [] → (n : ℕ) → slice_get ys n ≡ Some x → p x ≡ false)
        → (n : ℕ) → slice_get (y ∷ ys) n ≡ Some x → p x ≡ false
    by_head true e rest n at = absurd (let one : y ∷ filter p ys ≡ [] = rw e at h in cc)
    by_head false e rest zero at = let same : y ≡ x = cc in rw (← same) e
    by_head false e rest (suc n) at = rest (rw e at h) n at

-- where an element stands for which a test holds, and for none after it
record Splits (p : Registers → Bool) (xs : List Registers) (s : Registers) : Type 0 where
  place : ℕ
  there : slice_get xs place ≡ Some s
  holds : p s ≡ true
  ends : (n : ℕ) (x : Registers) → place < n → slice_get xs n ≡ Some x → p x ≡ false

splits_later : (p : Registers → Bool) (x : Registers) (xs : List Registers) (s : Registers) → Splits p xs s → Splits p (x ∷ xs) s
splits_later p x xs s is = record { place = suc is.place; there = is.there; holds = is.holds; ends = after_it }
  where
    after_it : (n : ℕ) (y : Registers) → suc is.place < n → slice_get (x ∷ xs) n ≡ Some y → p y ≡ false
    after_it zero y below at = absurd (omega (arith, below))
    after_it (suc n) y below at = is.ends n y (omega (arith, below)) at

splits_here : (p : Registers → Bool) (x : Registers) (xs : List Registers) (s : Registers) → x ≡ s → p x ≡ true
    → filter p xs ≡ [] → Splits p (x ∷ xs) s
splits_here p x xs s same holds none =
    record { place = 0; there = ap Some same; holds = rw same at holds; ends = after_it }
  where
    after_it : (n : ℕ) (y : Registers) → 0 < n → slice_get (x ∷ xs) n ≡ Some y → p y ≡ false
    after_it zero y below at = absurd (omega (arith, below))
    after_it (suc n) y below at = none_in p xs none n y at

last_splits : (p : Registers → Bool) (xs : List Registers) (s : Registers) → last (filter p xs) ≡ Some s → Splits p xs s
last_splits p [] s h = absurd cc
last_splits p (x ∷ xs) s h =
    by_head (p x) refl (filter p xs) refl (λ e. splits_later p x xs s (last_splits p xs s e))
  where
    by_head : (b : Bool) → p x ≡ b → (ys : List Registers) → filter p xs ≡ ys
        → (last (filter p xs) ≡ Some s → Splits p (x ∷ xs) s) → Splits p (x ∷ xs) s
    by_head false e ys f later = later (rw e at h)
    by_head true e [] f later =
        let one : last (x ∷ []) ≡ Some s = rw (e, f) at h in
        let same : x ≡ s = cc in
        splits_here p x xs s same e f
    by_head true e (y ∷ ys) f later =
        let more : last (x ∷ y ∷ ys) ≡ Some s = rw (e, f) at h in
        later (rw f more)

-- ---- two packets of a checked program

abbrev pub on : Machine → Record → OnPacket
on m r = record { machine = m; bytes = r.bytes; wire = r.wire }

abbrev pub last_in : OnPacket → Registers
last_in t = last_or zero_state (trace_in t)

-- from an entry on no entry is at a conditional jump
abbrev NoTests : OnPacket → ℕ → Type 0
NoTests t i = (n : ℕ) (x : Registers) → i ≤ n → slice_get (trace_in t) n ≡ Some x → is_test_at t.machine.list x ≡ false

abbrev Returns : OnPacket → Type 0
Returns t = without_value (end_by (turn_in t (last_in t))) ≡ end_is.Returned 0

-- where the last entry stands
pub record LastEntry (t : OnPacket) : Type 0 where
  pub place : ℕ
  pub there : IsOnTrace t place (last_in t)
  pub ends : next_of (turn_in t (last_in t)) ≡ None

pub last_entry : (t : OnPacket) → IsSound t.machine.list → LastEntry t
last_entry t sound =
    let run = trace-is_run t sound in
    let some = slice_get_within (trace_in t) 0 zero_state run.first in
    let i = length (trace_in t) - 1 in
    let u = get_or (trace_in t) i zero_state in
    let at_end : slice_get (trace_in t) i ≡ Some u = slice_get-get_or (trace_in t) i zero_state (omega (arith, some)) in
    let is : last_in t ≡ u = last_or-at (trace_in t) i zero_state u at_end (omega (arith, some)) in
    record {
      place = i;
      there = rw is (goes_from_entry t sound i u at_end);
      ends = rw is (run.ends i u at_end (omega (arith, some)));
    }

module _ (m : Machine) (sound : IsSound m.list) (r q : Record) where
  both_go : (s v x y : Registers) → s.pc < length m.list → s.pc ≡ v.pc → is_test_at m.list s ≡ false → is_test_at m.list v ≡ false
      → turn_in (on m r) s ≡ turn_is.Next x → turn_in (on m q) v ≡ turn_is.Next y → x.pc ≡ y.pc
  both_go s v x y inside one plain never goes leads =
      let f = find m.list s.pc sound inside in
      let first = rw goes at (turn_does (on m r) s f.insn f.op f.here f.decodes plain).goes in
      let second = rw leads at (turn_does (on m q) v f.insn f.op (there_too m.list _ _ f.insn one f.here) f.decodes never).goes in
      first ∙ ap (after f.op f.insn) one ∙ sym second

  both_end : (s v : Registers) → s.pc < length m.list → s.pc ≡ v.pc → next_of (turn_in (on m r) s) ≡ None
      → next_of (turn_in (on m q) v) ≡ None
      → without_value (end_by (turn_in (on m r) s)) ≡ without_value (end_by (turn_in (on m q) v))
  both_end s v inside one ends stops =
      let f = find m.list s.pc sound inside in
      let here : slice_get m.list v.pc ≡ Some f.insn = there_too m.list _ _ f.insn one f.here in
      let plain = turn_ends (on m r) s f.insn f.op f.here f.decodes ends in
      let never = turn_ends (on m q) v f.insn f.op here f.decodes stops in
      (turn_does (on m r) s f.insn f.op f.here f.decodes plain).ends ends
      ∙ sym ((turn_does (on m q) v f.insn f.op here f.decodes never).ends stops)

  -- where one returns, the other can't go on
  one_returns : (s v y : Registers) → s.pc < length m.list → s.pc ≡ v.pc → next_of (turn_in (on m r) s) ≡ None
      → without_value (end_by (turn_in (on m r) s)) ≡ end_is.Returned 0 → turn_in (on m q) v ≡ turn_is.Next y → ⊥
  one_returns s v y inside one ends returns leads =
      let f = find m.list s.pc sound inside in
      let plain = turn_ends (on m r) s f.insn f.op f.here f.decodes ends in
      let is = sym ((turn_does (on m r) s f.insn f.op f.here f.decodes plain).ends ends) ∙ returns in
      let none : next_of (turn_is.Next y) ≡ None =
      rw leads at (turn_returns (on m q) v f.insn f.op (there_too m.list _ _ f.insn one f.here) f.decodes is) in
      cc

-- from one instruction on, without a conditional jump, two packets that return come to one return
straight : (m : Machine) (sound : IsSound m.list) (r q : Record) (k i j : ℕ) (s v : Registers) → IsOnTrace (on m r) i s
    → IsOnTrace (on m q) j v → s.pc ≡ v.pc → length m.list ≤ s.pc + k → NoTests (on m r) i → NoTests (on m q) j
    → Returns (on m r) → Returns (on m q) → (last_in (on m r)).pc ≡ (last_in (on m q)).pc
straight m sound r q zero i j s v here there one bound plain never returns gives =
    let inside = here.inside in absurd (omega (arith, inside, bound))
straight m sound r q (suc k) i j s v here there one bound plain never returns gives =
    elim (turn_cases (turn_in (on m r) s)) [
      | inl next ↦
          elim (turn_cases (turn_in (on m q) v)) [
            | inl step ↦
                let pcs = both_go m sound r q s v next.0 step.0 here.inside one (plain i s (omega arith) (goes_at here))
                (never j v (omega arith) (goes_at there)) next.1 step.1 in
                let higher = turn_on (on m r) sound s next.0 here.inside next.1 in
                straight m sound r q k (i + 1) (j + 1) next.0 step.0 (goes_next here next.0 next.1)
                (goes_next there step.0 step.1) pcs (omega (arith, bound, higher.0))
                (λ n x above at_n. plain n x (omega (arith, above)) at_n)
                (λ n x above at_n. never n x (omega (arith, above)) at_n) returns gives
            | inr stop ↦
                let is = last_is there stop in
                absurd (one_returns m sound q r v s next.0 there.inside (sym one) stop (rw (← is) at gives) next.1)
          ]
      | inr end ↦
          elim (turn_cases (turn_in (on m q) v)) [
            | inl step ↦
                let is = last_is here end in
                absurd (one_returns m sound r q s v step.0 here.inside one end (rw (← is) at returns) step.1)
            | inr stop ↦
                ap (λ (x : Registers). x.pc) (sym (last_is here end)) ∙ one
                ∙ ap (λ (x : Registers). x.pc) (last_is there stop)
          ]
    ]

-- ---- two packets in one row

-- a jump that decided, where it stands
record Decides (m : Machine) (r : Record) (c : Choice) : Type 0 where
  test : Registers
  place : ℕ
  there : IsOnTrace (on m r) place test
  chose : choice_at m.list test ≡ c
  holds : is_test_at m.list test ≡ true
  rest : NoTests (on m r) (place + 1)
  returns : Returns (on m r)

deciding_some : (reason : End) (last : Option Choice) (c : Choice) → deciding reason last ≡ Some c
    → (without_value reason ≡ end_is.Returned 0) × (last ≡ Some c)
deciding_some (end_is.Returned v) last c h = (refl, h)
deciding_some end_is.Outside last c h = absurd cc
deciding_some end_is.ZeroDivisor last c h = absurd cc
deciding_some (end_is.Unknown e) last c h = absurd cc

chosen_from : (list : List Insn) (o : Option Registers) (c : Choice) → option_map (choice_at list) o ≡ Some c
    → (s : Registers) × (o ≡ Some s) × (choice_at list s ≡ c)
chosen_from list None c h = absurd cc
chosen_from list (Some s) c h = (s, refl, cc)

decides : (m : Machine) → IsSound m.list → (r : Record) (c : Choice) → (decided m r).by ≡ Some c → Decides m r c
decides m sound r c h =
    let t = on m r in
    let is = deciding_some (ended m r).reason (last_choice m.list (trace_in t)) c h in
    let from = chosen_from m.list (last_test m.list (trace_in t)) c is.1 in
    let splits = last_splits (is_test_at m.list) (trace_in t) from.0 from.1 in
    record {
      test = from.0;
      place = splits.place;
      there = goes_from_entry t sound splits.place from.0 splits.there;
      chose = from.2;
      holds = splits.holds;
      rest = λ n x above at_n. splits.ends n x (omega (arith, above)) at_n;
      returns = is.0;
    }

-- both came from one way of one jump
one_way : (m : Machine) → IsSound m.list → (r q : Record) (c : Choice) → Decides m r c → Decides m q c
    → (ended m r).pc ≡ (ended m q).pc
one_way m sound r q c d e =
    let one : d.test.pc ≡ e.test.pc = ap (λ (x : Choice). x.pc) (d.chose ∙ sym e.chose) in
    let way : is_taken m.list d.test ≡ is_taken m.list e.test = ap (λ (x : Choice). x.taken) (d.chose ∙ sym e.chose) in
    let f = find m.list d.test.pc sound d.there.inside in
    let first = turn_branches (on m r) d.test f.insn f.op f.here f.decodes d.holds in
    let second = turn_branches (on m q) e.test f.insn f.op (there_too m.list _ _ f.insn one f.here) f.decodes e.holds in
    let pcs : first.next.pc ≡ second.next.pc =
    first.there ∙ ap (λ b. d.test.pc + 1 + (if b then f.insn.jt else f.insn.jf)) way
    ∙ ap (λ n. n + 1 + (if is_taken m.list e.test then f.insn.jt else f.insn.jf)) one ∙ sym second.there in
    straight m sound r q (length m.list) (d.place + 1) (e.place + 1) first.next second.next
    (goes_next d.there first.next first.goes) (goes_next e.there second.next second.goes) pcs (omega arith) d.rest e.rest
    d.returns e.returns

-- no packet ends at a conditional jump
no_end_at_test : (m : Machine) → IsSound m.list → (r q : Record) (c : Choice) → Decides m r c → (ended m q).pc ≡ c.pc → ⊥
no_end_at_test m sound r q c d h =
    let last = last_entry (on m q) sound in
    let one : d.test.pc ≡ (last_in (on m q)).pc = ap (λ (x : Choice). x.pc) d.chose ∙ sym h in
    let f = find m.list d.test.pc sound d.there.inside in
    let here : slice_get m.list (last_in (on m q)).pc ≡ Some f.insn = there_too m.list _ _ f.insn one f.here in
    let plain = turn_ends (on m q) (last_in (on m q)) f.insn f.op here f.decodes last.ends in
    let tested = sym (compared (on m q) (last_in (on m q)) f.insn f.op here f.decodes)
    ∙ plain in
    let is = sym (compared (on m r) d.test f.insn f.op f.here f.decodes) ∙ d.holds in
    let both = sym is ∙ test_by_op f.op f.insn d.test (last_in (on m q)) ∙ tested in
    cc

same_choice : (c d : Choice) → 2 * c.pc + (if c.taken then 0 else 1) ≡ 2 * d.pc + (if d.taken then 0 else 1) → c ≡ d
same_choice c d h = by_ways c.pc d.pc c.taken d.taken h
  where
    by_ways : (x y : ℕ) (b e : Bool) → 2 * x + (if b then 0 else 1) ≡ 2 * y + (if e then 0 else 1)
        → ◌≡◌ {A = Choice} (record { pc = x; taken = b }) (record { pc = y; taken = e })
    by_ways x y true true h = let one : x ≡ y = omega (arith, h) in ap (λ n. record { pc = n; taken = true }) one
    by_ways x y false false h = let one : x ≡ y = omega (arith, h) in ap (λ n. record { pc = n; taken = false }) one
    by_ways x y true false h = absurd (omega (arith, h))
    by_ways x y false true h = absurd (omega (arith, h))

first_row : (pc : ℕ) (c : Choice) → 2 * pc ≡ 2 * c.pc + (if c.taken then 0 else 1) → pc ≡ c.pc
first_row pc c h = by_way c.taken h
  where
    by_way : (b : Bool) → 2 * pc ≡ 2 * c.pc + (if b then 0 else 1) → pc ≡ c.pc
    by_way true h = omega (arith, h)
    by_way false h = absurd (omega (arith, h))

pub one_row : (m : Machine) → IsSound m.list → (r q : Record) → row (decided m r) ≡ row (decided m q)
    → SameEnd (decided m r) (decided m q)
one_row m sound r q h = by_choices (decided m r).by (decided m q).by refl refl h
  where
    at_one : (decided m r).by ≡ (decided m q).by → (ended m r).pc ≡ (ended m q).pc → SameEnd (decided m r) (decided m q)
    at_one by pc =
        let last = last_entry (on m r) sound in
        let other = last_entry (on m q) sound in
        record {
          pc = pc;
          by = by;
          reason = both_end m sound r q (last_in (on m r)) (last_in (on m q)) last.there.inside pc last.ends other.ends;
        }

    by_choices : (a b : Option Choice) → (decided m r).by ≡ a → (decided m q).by ≡ b
        → row_by (ended m r).pc a ≡ row_by (ended m q).pc b → SameEnd (decided m r) (decided m q)
    by_choices None None d e h = at_one (d ∙ sym e) (omega (arith, h))
    by_choices (Some c) (Some o) d e h =
        let same = same_choice c o h in
        at_one (d ∙ ap Some same ∙ sym e)
        (one_way m sound r q c (decides m sound r c d) (decides m sound q c (e ∙ ap Some (sym same))))
    by_choices (Some c) None d e h =
        absurd (no_end_at_test m sound r q c (decides m sound r c d) (first_row (ended m q).pc c (sym h)))
    by_choices None (Some c) d e h =
        absurd (no_end_at_test m sound q r c (decides m sound q c e) (first_row (ended m r).pc c h))
