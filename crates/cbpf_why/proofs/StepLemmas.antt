-- Texts of the entries of a packet's trace, and where its last entry and its last conditional jump stand.
use Rattle.std.proofs.Common.{◌≡◌, ℕ, zero, suc, ◌+◌, ◌<◌, List, [], ◌∷◌, ◌++◌, length, take, Option, Some, None, arith, refl, sym, ◌∙◌, ap, take_all, append-nil}
use Rattle.std.specs.Prelude.{Bool, true, false, map, filter, if◌then◌else◌, slice_get, option_map, IfSome}
use Rattle.std.specs.List.{flat_map}
use Rattle.std.proofs.lemmas.Grind.{flat_map-append}
use Rattle.cbpf_code.specs.Sound.{IsSound}
use Rattle.cbpf_code.specs.declared.insn.Insn.{Insn}
use Rattle.cbpf_machine.specs.declared.follow.Choice.{Choice}
use Rattle.cbpf_machine.specs.declared.outcome.End.{End}
use Rattle.cbpf_machine.specs.declared.outcome.End.TheVariants as end_is
use Rattle.cbpf_why.specs.Ends.{deciding}
use Rattle.cbpf_code.specs.Writing.{Appended, AppendedPart}
use Rattle.cbpf_code.proofs.WrittenLemmas.{appended-then, part-then, part-front}
use Rattle.cbpf_code.proofs.SoundLemmas.{sound_some}
use Rattle.cbpf_machine.specs.Registers.{Registers, zero_state}
use Rattle.cbpf_machine.specs.OnPacket.{OnPacket, IsOnTrace, trace_in, turn_in}
use Rattle.cbpf_machine.specs.Trace.{last_or, next_of}
use Rattle.cbpf_machine.specs.declared.outcome.Turn.{Turn}
use Rattle.cbpf_machine.specs.declared.outcome.Turn.TheVariants.{Next, Returned, Outside, ZeroDivisor, Unknown}
use Rattle.cbpf_machine.specs.Choices.{choice_at, is_test_at, last_choice, last_test}
use Rattle.cbpf_machine.proofs.TraceLemmas.{goes_at, goes_last, last_or-at, trace-is_run}
use Rattle.cbpf_machine.proofs.RunningLemmas.{last_test_more_no, last_test_more_yes, take_next}
use Rattle.cbpf_why.specs.Traces.{test_of}

-- the texts of the entries up to one, with its own
module _ {t : OnPacket} {i : ℕ} {s : Registers} (here : IsOnTrace t i s) (f : Registers → List ℕ) where
  texts-more : flat_map f (take (i + 1) (trace_in t)) ≡ flat_map f (take i (trace_in t)) ++ f s
  texts-more = rw (take_next here, flat_map-append, append-nil (f s)) refl

  pub steps-next : (u v w : Option (List ℕ)) → Appended u v (flat_map f (take i (trace_in t))) → Appended v w (f s)
      → Appended u w (flat_map f (take (i + 1) (trace_in t)))
  steps-next u v w x y = rw texts-more (appended-then u v w _ _ x y)

  pub steps-stop : (u v w : Option (List ℕ)) → Appended u v (flat_map f (take i (trace_in t))) → AppendedPart v w (f s)
      → AppendedPart u w (flat_map f (trace_in t))
  steps-stop u v w x y = part-front f (trace_in t) (i + 1) u w (rw texts-more (part-then u v w _ _ x y))

  pub steps-done : (u v w : Option (List ℕ)) → next_of (turn_in t s) ≡ None → Appended u v (flat_map f (take i (trace_in t)))
      → Appended v w (f s) → Appended u w (flat_map f (trace_in t))
  steps-done u v w end x y =
      let all : take (i + 1) (trace_in t) ≡ trace_in t = take_all _ _ (omega (arith, goes_last here end)) in
      rw (← all) (steps-next u v w x y)

last_within : (n : ℕ) (xs : List Registers) (d : Registers) → ((i : ℕ) (s : Registers) → slice_get xs i ≡ Some s → s.pc < n)
    → d.pc < n → (last_or d xs).pc < n
last_within n [] d h l = l
last_within n (x ∷ xs) d h l = last_within n xs x (λ i s e. h (suc i) s e) (h 0 x refl)

found_within : (n : ℕ) (xs : List Registers) (o : Option Registers)
    → ((i : ℕ) (s : Registers) → slice_get xs i ≡ Some s → s.pc < n) → ((s : Registers) → o ≡ Some s → s.pc < n)
    → (s : Registers) → last_or o (map Some xs) ≡ Some s → s.pc < n
found_within n [] o h l = l
found_within n (x ∷ xs) o h l = found_within n xs (Some x) (λ i s e. h (suc i) s e) (h 0)

either_within : (n : ℕ) (b : Bool) (x : Registers) (ys : List Registers) → x.pc < n
    → ((j : ℕ) (s : Registers) → slice_get ys j ≡ Some s → s.pc < n)
    → (j : ℕ) (s : Registers) → slice_get (if b then x ∷ ys else ys) j ≡ Some s → s.pc < n
either_within n true x ys hx hy zero s e = let same : x ≡ s = cc in rw same at hx
either_within n true x ys hx hy (suc j) s e = hy j s e
either_within n false x ys hx hy j s e = hy j s e

filter_within : (n : ℕ) (p : Registers → Bool) (xs : List Registers)
    → ((i : ℕ) (s : Registers) → slice_get xs i ≡ Some s → s.pc < n)
    → (j : ℕ) (s : Registers) → slice_get (filter p xs) j ≡ Some s → s.pc < n
filter_within n p [] h j s e = absurd cc
filter_within n p (x ∷ xs) h j s e =
    either_within n (p x) x (filter p xs) (h 0 x refl) (filter_within n p xs (λ i u m. h (suc i) u m)) j s e

test_within : (list : List Insn) (n : ℕ) (o : Option Registers) → ((s : Registers) → o ≡ Some s → s.pc < n)
    → IfSome (option_map (test_of list) o) (λ t. t.0.pc < n)
test_within list n None h = tt
test_within list n (Some s) h = h s refl

choice_within : (list : List Insn) (n : ℕ) (o : Option Registers) → ((s : Registers) → o ≡ Some s → s.pc < n)
    → IfSome (option_map (choice_at list) o) (λ c. c.pc < n)
choice_within list n None h = tt
choice_within list n (Some s) h = h s refl

-- what decided is what was last
pub deciding_inside : {T : Type 0} (Q : T → Type 0) (reason : End) (last : Option T) → IfSome last Q → IfSome (deciding reason last) Q
deciding_inside Q (end_is.Returned v) last h = h
deciding_inside Q end_is.Outside last h = tt
deciding_inside Q end_is.ZeroDivisor last h = tt
deciding_inside Q (end_is.Unknown e) last h = tt

-- of a checked program
module _ (t : OnPacket) (sound : IsSound t.machine.list) where
  pub last_inside : (last_or zero_state (trace_in t)).pc < length t.machine.list
  last_inside = last_within _ (trace_in t) zero_state (trace-is_run t sound).inside (sound_some t.machine.list sound)

  test_at_inside : (s : Registers) → last_test t.machine.list (trace_in t) ≡ Some s → s.pc < length t.machine.list
  test_at_inside = found_within _ (filter (is_test_at t.machine.list) (trace_in t)) None
      (filter_within _ (is_test_at t.machine.list) (trace_in t) (trace-is_run t sound).inside) (λ s e. absurd cc)

  pub test_inside : IfSome (option_map (test_of t.machine.list) (last_test t.machine.list (trace_in t)))
      (λ o. o.0.pc < length t.machine.list)
  test_inside = test_within t.machine.list _ (last_test t.machine.list (trace_in t)) test_at_inside

  pub choice_inside : IfSome (last_choice t.machine.list (trace_in t)) (λ c. c.pc < length t.machine.list)
  choice_inside = choice_within t.machine.list _ (last_test t.machine.list (trace_in t)) test_at_inside

-- the last conditional jump with an entry more
tests_more : (list : List Insn) (xs : List Registers) (s : Registers) (b : Bool) → is_test_at list s ≡ b
    → option_map (test_of list) (last_test list (xs ++ s ∷ []))
    ≡ (if b then Some (test_of list s) else option_map (test_of list) (last_test list xs))
tests_more list xs s true e = ap (option_map (test_of list)) (last_test_more_yes list xs s e)
tests_more list xs s false e = ap (option_map (test_of list)) (last_test_more_no list xs s e)

module _ {t : OnPacket} {i : ℕ} {s : Registers} (here : IsOnTrace t i s) where
  pub test_next : (old new : Option (Choice × Registers))
      → old ≡ option_map (test_of t.machine.list) (last_test t.machine.list (take i (trace_in t)))
      → new ≡ (if is_test_at t.machine.list s then Some (test_of t.machine.list s) else old)
      → new ≡ option_map (test_of t.machine.list) (last_test t.machine.list (take (i + 1) (trace_in t)))
  test_next old new was is =
      rw (take_next here) (rw was at is ∙ sym (tests_more t.machine.list (take i (trace_in t)) s _ refl))

  -- at the last entry
  pub test_last : (test : Option (Choice × Registers)) → next_of (turn_in t s) ≡ None
      → test ≡ option_map (test_of t.machine.list) (last_test t.machine.list (take (i + 1) (trace_in t)))
      → test ≡ option_map (test_of t.machine.list) (last_test t.machine.list (trace_in t))
  test_last test end is =
      let all : take (i + 1) (trace_in t) ≡ trace_in t = take_all _ _ (omega (arith, goes_last here end)) in rw all at is

  pub last_is : next_of (turn_in t s) ≡ None → s ≡ last_or zero_state (trace_in t)
  last_is end = sym (last_or-at (trace_in t) i zero_state s (goes_at here) (goes_last here end))

-- a turn that goes on
pub next_is : (o : Turn) (s : Registers) → next_of o ≡ Some s → o ≡ Next s
next_is (Next t) s h = let same : t ≡ s = cc in ap Next same
next_is (Returned v) s h = absurd cc
next_is Outside s h = absurd cc
next_is ZeroDivisor s h = absurd cc
next_is (Unknown e) s h = absurd cc
