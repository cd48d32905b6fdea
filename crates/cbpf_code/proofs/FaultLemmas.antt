-- Faults of a list, from the passes that look for them; a list has one first fault at most.
use Rattle.std.proofs.Common.{◌≡◌, ℕ, ◌+◌, ◌-◌, ◌<◌, ◌≤◌, List, length, get_or, arith, subst, inl, inr, refl, sym}
use Rattle.std.specs.Prelude.{Option, Some, None, IsTrue, slice_get, ◌==◌, if◌then◌else◌}
use Rattle.std.proofs.lemmas.Bool.{cases_eq, cases_lt}
use Rattle.std.proofs.lemmas.Option.{slice_get_within, slice_get-get_or}
use Rattle.cbpf_code.specs.declared.insn.Insn.{Insn}
use Rattle.cbpf_code.specs.declared.opcode.Op.{Op}
use Rattle.cbpf_code.specs.declared.opcode.Op.TheVariants.{LdAbs, LdMem, Alu, Ja, Jump}
use Rattle.cbpf_code.specs.declared.opcode.AluOp.TheVariants.{Div, Mod, Lsh, Rsh}
use Rattle.cbpf_code.specs.declared.opcode.Src.TheVariants.{K}
use Rattle.cbpf_code.specs.declared.checker.TheConstants.{MAX_INSTRUCTIONS}
use Rattle.cbpf_code.specs.declared.checker.CheckFault.{CheckFault}
use Rattle.cbpf_code.specs.declared.checker.CheckFault.TheVariants.{NoInstruction, TooMany, UnknownCode, NoSlot}
use Rattle.cbpf_code.specs.declared.checker.CheckFault.TheVariants.{ZeroDivisor, WideShift, JumpOutside}
use Rattle.cbpf_code.specs.declared.checker.CheckFault.TheVariants.{UnknownExtension, NoReturn, UnwrittenSlot}
use Rattle.cbpf_code.specs.Opcode.{op_of}
use Rattle.cbpf_code.specs.ControlFlow.{InsnAt, jump_targets, IsAmong}
use Rattle.cbpf_code.specs.Faults.{IsReturn, HasFault, FirstFault, IsEarlier, rank, index_of, uses_slot}
use Rattle.cbpf_code.specs.Faults.{divides_by_k, shifts_by_k, loads_absolute}
use Rattle.cbpf_code.specs.CheckSteps.{IsWellFormed, InsnHasFault, IsAllowed}

pub insn_at-same : (list : List Insn) (i : ℕ) (Has : Op → Insn → Type 0) (insn : Insn) (op : Op) → InsnAt list i Has
    → slice_get list i ≡ Some insn → op_of insn.code ≡ Some op → Has op insn
insn_at-same list i Has insn op a here known = grind arith

-- ---- instruction by instruction

-- the instruction at i has a known code, and no fault of its own
abbrev pub AllowedAt : List Insn → ℕ → Type 0
AllowedAt list i = InsnAt list i (λ op insn. IsAllowed op insn i (length list))

-- no fault comes before that of an unknown code at m
pub record PassesBefore (list : List Insn) (m : ℕ) : Type 0 where
  pub none : (e : CheckFault) → IsEarlier e (UnknownCode m) → HasFault list e → ⊥

allowed-excludes : (list : List Insn) (e : CheckFault) (insn : Insn) (op : Op) → slice_get list (index_of e) ≡ Some insn
    → op_of insn.code ≡ Some op → IsAllowed op insn (index_of e) (length list) → rank e ≡ 2 → HasFault list e → ⊥
allowed-excludes list NoInstruction insn op here known fine r has = absurd (omega arith)
allowed-excludes list TooMany insn op here known fine r has = absurd (omega arith)
allowed-excludes list NoReturn insn op here known fine r has = absurd (omega arith)
allowed-excludes list (UnwrittenSlot i) insn op here known fine r has = absurd (omega arith)
allowed-excludes list (UnknownCode i) insn op here known fine r has = let same : has.0 ≡ insn = cc in cc
allowed-excludes list e insn op here known fine r has =
    fine e (insn_at-same list (index_of e) _ insn op has here known)

pub passes_before-start : (list : List Insn) → 0 < length list → length list ≤ MAX_INSTRUCTIONS → PassesBefore list 0
passes_before-start list some few = grind arith

pub passes_before-next : (list : List Insn) (m : ℕ) → PassesBefore list m → AllowedAt list m
    → PassesBefore list (m + 1)
passes_before-next list m passed here = grind (arith, cases_eq, allowed-excludes)

-- ---- all instructions

index_inside : (list : List Insn) (f : CheckFault) → rank f ≡ 2 → HasFault list f → index_of f < length list
index_inside list NoInstruction r st = absurd (omega arith)
index_inside list TooMany r st = absurd (omega arith)
index_inside list NoReturn r st = absurd (omega arith)
index_inside list (UnknownCode i) r st = slice_get_within list i st.0 st.1
index_inside list _ r st = slice_get_within list _ st.0 st.2

-- only the last instruction and slots are left
passes_all-excludes : (list : List Insn) (i : ℕ) (f : CheckFault) → PassesBefore list i → i ≡ length list → rank f < 3
    → HasFault list f → ⊥
passes_all-excludes list i f passed all low has = grind (arith, cases_lt, index_inside)

-- what the code reads where an index is outside
abbrev pub zero_insn : Insn
zero_insn = record { code = 0; jt = 0; jf = 0; k = 0 }

slice_get-last : (list : List Insn) (i : ℕ) → PassesBefore list i
    → slice_get list (length list - 1) ≡ Some (get_or list (length list - 1) zero_insn)
slice_get-last list i passed =
    let some = λ (none : length list ≡ 0). passed.none NoInstruction (inl (omega arith)) none in
    slice_get-get_or list (length list - 1) zero_insn (omega arith)

well_formed-excludes : (list : List Insn) (i : ℕ) (f : CheckFault) → PassesBefore list i → i ≡ length list
    → IsReturn (get_or list (length list - 1) zero_insn) → rank f < 4 → HasFault list f → ⊥
well_formed-excludes list i NoReturn passed all returns low has =
    let last = slice_get-last list i passed in
    let same : get_or list (length list - 1) zero_insn ≡ has.0 = cc in
    has.2 (subst IsReturn same returns)
well_formed-excludes list i f passed all returns low has = passes_all-excludes list i f passed all (omega arith) has

pub well_formed-at_end : (list : List Insn) (i : ℕ) → PassesBefore list i → i ≡ length list
    → IsReturn (get_or list (length list - 1) zero_insn) → IsWellFormed list
well_formed-at_end list i passed all returns =
    let many = λ (above : MAX_INSTRUCTIONS < length list). passed.none TooMany (inl (omega arith)) above in
    record {
      few = omega arith;
      none = λ f low has. well_formed-excludes list i f passed all returns low has;
    }

-- ---- the first one

pub first_fault-insn : (list : List Insn) (m : ℕ) (e : CheckFault) → PassesBefore list m → HasFault list e
    → rank e ≡ 2 → index_of e ≡ m → FirstFault list e
first_fault-insn list m e passed has r at = grind arith

-- an instruction's own fault is one of the list
pub own_fault : (list : List Insn) (e : CheckFault) (i : ℕ) (insn : Insn) (op : Op) → index_of e ≡ i
    → slice_get list i ≡ Some insn → op_of insn.code ≡ Some op → InsnHasFault op insn i (length list) e → HasFault list e
own_fault list NoInstruction i insn op at here known has = absurd has
own_fault list TooMany i insn op at here known has = absurd has
own_fault list NoReturn i insn op at here known has = absurd has
own_fault list (UnknownCode j) i insn op at here known has = absurd has
own_fault list (UnwrittenSlot j) i insn op at here known has = absurd has
own_fault list e i insn op at here known has = rw at (insn, op, here, known, has)

pub first_fault-at_end : (list : List Insn) (i : ℕ) → PassesBefore list i → i ≡ length list
    → (IsReturn (get_or list (length list - 1) zero_insn) → ⊥) → FirstFault list NoReturn
first_fault-at_end list i passed all never = grind (arith, slice_get-last, passes_all-excludes)

-- ---- an instruction has at most one of the faults C3 to C8, so the first fault of a list is one

-- the one fault of C4 to C8 that an operation can be refused by, where there is one
abbrev fault_for : Op → ℕ → CheckFault
fault_for op i =
    if uses_slot op then NoSlot i else if divides_by_k op then ZeroDivisor i else if shifts_by_k op then WideShift i
    else if loads_absolute op then UnknownExtension i else JumpOutside i

-- C3 to C8: the one fault that a code can be refused by
abbrev fault_by_code : Option Op → ℕ → CheckFault
fault_by_code None i = UnknownCode i
fault_by_code (Some op) i = fault_for op i

for_slot : (op : Op) (i : ℕ) → IsTrue (uses_slot op) → fault_for op i ≡ NoSlot i
for_slot LdMem i h = cc
for_slot _ i h = cc

for_divisor : (op : Op) (i : ℕ) → IsTrue (divides_by_k op) → fault_for op i ≡ ZeroDivisor i
for_divisor (Alu Div K) i h = cc
for_divisor (Alu Mod K) i h = cc
for_divisor _ i h = cc

for_shift : (op : Op) (i : ℕ) → IsTrue (shifts_by_k op) → fault_for op i ≡ WideShift i
for_shift (Alu Lsh K) i h = cc
for_shift (Alu Rsh K) i h = cc
for_shift _ i h = cc

for_target : (op : Op) (insn : Insn) (i t : ℕ) → IsAmong (jump_targets op insn i) t → fault_for op i ≡ JumpOutside i
for_target Ja insn i t h = refl
for_target (Jump cond src) insn i t h = refl
for_target _ insn i t h = absurd h

for_extension : (op : Op) (i : ℕ) → IsTrue (loads_absolute op) → fault_for op i ≡ UnknownExtension i
for_extension (LdAbs size) i h = refl
for_extension _ i h = cc

-- rank, index and the code there decide the fault
abbrev fault_by : ℕ → ℕ → Option Op → CheckFault
fault_by r i o =
    if r == 2 then fault_by_code o i else if r == 0 then NoInstruction else if r == 1 then TooMany
    else if r == 3 then NoReturn else UnwrittenSlot i

abbrev code_at : List Insn → ℕ → Option Op
code_at list i = op_of (get_or list i zero_insn).code

known_at : (list : List Insn) (i : ℕ) (insn : Insn) (o : Option Op) → slice_get list i ≡ Some insn → op_of insn.code ≡ o
    → code_at list i ≡ o
known_at list i insn o here known =
    let read = slice_get-get_or list i zero_insn (slice_get_within list i insn here) in
    let same : get_or list i zero_insn ≡ insn = cc in
    rw same known

decided : (list : List Insn) (e : CheckFault) → HasFault list e
    → fault_by (rank e) (index_of e) (code_at list (index_of e)) ≡ e
decided list (UnknownCode i) has = rw (known_at list i has.0 _ has.1 has.2) refl
decided list (NoSlot i) has = rw (known_at list i has.0 _ has.2 has.3) (for_slot has.1 i has.4.0)
decided list (ZeroDivisor i) has = rw (known_at list i has.0 _ has.2 has.3) (for_divisor has.1 i has.4.0)
decided list (WideShift i) has = rw (known_at list i has.0 _ has.2 has.3) (for_shift has.1 i has.4.0)
decided list (JumpOutside i) has =
    rw (known_at list i has.0 _ has.2 has.3) (for_target has.1 has.0 i has.4.0 has.4.1)
decided list (UnknownExtension i) has = rw (known_at list i has.0 _ has.2 has.3) (for_extension has.1 i has.4.0)
decided list _ has = refl

-- two faults of one rank and index that a list has are the same
same_place : (list : List Insn) (e f : CheckFault) → rank e ≡ rank f → index_of e ≡ index_of f → HasFault list e
    → HasFault list f → e ≡ f
same_place list e f ranks indexes has_e has_f = grind (arith, decided)

pub first_fault-unique : (list : List Insn) (e f : CheckFault) → FirstFault list e → FirstFault list f → f ≡ e
first_fault-unique list e f one two =
    let lower = λ (h : rank f < rank e). one.none_earlier f (inl h) two.present in
    let higher = λ (h : rank e < rank f). two.none_earlier e (inl h) one.present in
    let ranks : rank f ≡ rank e = omega arith in
    let before = λ (h : index_of f < index_of e). one.none_earlier f (inr (ranks, h)) two.present in
    let after = λ (h : index_of e < index_of f). two.none_earlier e (inr (sym ranks, h)) one.present in
    same_place list f e ranks (omega arith) two.present one.present

pub ruleset unique = (first_fault-unique)
