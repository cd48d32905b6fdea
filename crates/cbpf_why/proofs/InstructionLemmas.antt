-- Where an instruction goes on and how it ends a packet: by the instruction alone, and for a conditional jump by whether
-- its comparison holds.
use Rattle.std.proofs.Common.{◌≡◌, ℕ, ◌+◌, ◌<◌, List, length, refl, sym, ap, ◌∙◌, get_or}
use Rattle.std.proofs.Common.{◌%◌, ◌^◌}
use Rattle.std.specs.Prelude.{Bool, true, false, Option, Some, None, slice_get, if◌then◌else◌, is_some, unwrap_or}
use Rattle.std.specs.Option.{option_map_or}
use Rattle.std.proofs.lemmas.Option.{slice_get-get_or}
use Rattle.cbpf_code.specs.Extension.{ext_at}
use Rattle.cbpf_code.specs.Opcode.{op_of}
use Rattle.cbpf_code.specs.Sound.{IsSound}
use Rattle.cbpf_code.specs.declared.extension.Ext.{Ext}
use Rattle.cbpf_code.specs.declared.insn.Insn.{Insn}
use Rattle.cbpf_code.specs.declared.opcode.Op.{Op}
use Rattle.cbpf_code.specs.declared.opcode.Op.TheVariants.{LdImm, LdAbs, LdInd, LdMem, LdLen, LdxImm, LdxMem, LdxLen}
use Rattle.cbpf_code.specs.declared.opcode.Op.TheVariants.{LdxMsh, St, Stx, Alu, Neg, Ja, Jump, RetK, RetA, Tax, Txa}
use Rattle.cbpf_code.proofs.SoundLemmas.{sound_known}
use Rattle.cbpf_machine.specs.OnPacket.{OnPacket, turn_in}
use Rattle.cbpf_machine.specs.PacketNumber.{packet_number}
use Rattle.cbpf_machine.specs.Registers.{Registers}
use Rattle.cbpf_machine.specs.Trace.{next_of}
use Rattle.cbpf_machine.specs.Turn.{alu, compute, execute, load_a, load_absolute, load_extension, load_x, operand, width}
use Rattle.cbpf_machine.specs.Values.{Values, value_of}
use Rattle.cbpf_machine.specs.Choices.{comparison, is_taken, is_test_at}
use Rattle.cbpf_machine.specs.declared.outcome.End.{End}
use Rattle.cbpf_machine.specs.declared.outcome.End.TheVariants as end_is
use Rattle.cbpf_machine.specs.declared.outcome.Turn.{Turn}
use Rattle.cbpf_machine.specs.declared.outcome.Turn.TheVariants as turn_is
use Rattle.cbpf_machine.proofs.TogetherLemmas.{turn_by}
use Rattle.cbpf_machine.proofs.RunningLemmas.{comparison_by}
use Rattle.cbpf_why.specs.Ends.{end_by}
use Rattle.cbpf_why.specs.Laws.{without_value}

-- where a turn goes on
abbrev pub goes_to : Turn → ℕ → ℕ
goes_to (turn_is.Next s) d = s.pc
goes_to (turn_is.Returned v) d = d
goes_to turn_is.Outside d = d
goes_to turn_is.ZeroDivisor d = d
goes_to (turn_is.Unknown e) d = d

-- where an operation that is no conditional jump goes on
abbrev pub after : Op → Insn → ℕ → ℕ
after Ja insn pc = pc + 1 + insn.k
after LdImm insn pc = pc + 1
after (LdAbs size) insn pc = pc + 1
after (LdInd size) insn pc = pc + 1
after LdMem insn pc = pc + 1
after LdLen insn pc = pc + 1
after LdxImm insn pc = pc + 1
after LdxMem insn pc = pc + 1
after LdxLen insn pc = pc + 1
after LdxMsh insn pc = pc + 1
after St insn pc = pc + 1
after Stx insn pc = pc + 1
after (Alu op src) insn pc = pc + 1
after Neg insn pc = pc + 1
after (Jump cond src) insn pc = pc + 1
after RetK insn pc = pc + 1
after RetA insn pc = pc + 1
after Tax insn pc = pc + 1
after Txa insn pc = pc + 1

-- why an operation ends a packet, where it does
abbrev pub why : Op → Insn → End
why (LdAbs size) insn = option_map_or (λ e. end_is.Unknown e) (ext_at insn.k) end_is.Outside
why (Alu op src) insn = end_is.ZeroDivisor
why RetK insn = end_is.Returned 0
why RetA insn = end_is.Returned 0
why LdImm insn = end_is.Outside
why (LdInd size) insn = end_is.Outside
why LdMem insn = end_is.Outside
why LdLen insn = end_is.Outside
why LdxImm insn = end_is.Outside
why LdxMem insn = end_is.Outside
why LdxLen insn = end_is.Outside
why LdxMsh insn = end_is.Outside
why St insn = end_is.Outside
why Stx insn = end_is.Outside
why Neg insn = end_is.Outside
why Ja insn = end_is.Outside
why (Jump cond src) insn = end_is.Outside
why Tax insn = end_is.Outside
why Txa insn = end_is.Outside

-- what a turn does that depends on the instruction alone
pub record Does (o : Turn) (s : Registers) (op : Op) (insn : Insn) : Type 0 where
  pub goes : goes_to o (after op insn s.pc) ≡ after op insn s.pc
  pub ends : next_of o ≡ None → without_value (end_by o) ≡ why op insn

loads_a : (s : Registers) (o : Option ℕ) → (goes_to (load_a s o) (s.pc + 1) ≡ s.pc + 1)
    × (next_of (load_a s o) ≡ None → without_value (end_by (load_a s o)) ≡ end_is.Outside)
loads_a s None = (refl, λ h. refl)
loads_a s (Some n) = (refl, λ h. absurd cc)

loads_x : (s : Registers) (o : Option ℕ) → (goes_to (load_x s o) (s.pc + 1) ≡ s.pc + 1)
    × (next_of (load_x s o) ≡ None → without_value (end_by (load_x s o)) ≡ end_is.Outside)
loads_x s None = (refl, λ h. refl)
loads_x s (Some n) = (refl, λ h. absurd cc)

loads_extension : (e : Ext) (s : Registers) (o : Option ℕ) → (goes_to (load_extension e s o) (s.pc + 1) ≡ s.pc + 1)
    × (next_of (load_extension e s o) ≡ None → without_value (end_by (load_extension e s o)) ≡ end_is.Unknown e)
loads_extension e s None = (refl, λ h. refl)
loads_extension e s (Some v) = (refl, λ h. absurd cc)

loads_absolute : (o : Option Ext) (values : Values) (s : Registers) (n : Option ℕ)
    → (goes_to (load_absolute o values s n) (s.pc + 1) ≡ s.pc + 1)
    × (next_of (load_absolute o values s n) ≡ None
    → without_value (end_by (load_absolute o values s n)) ≡ option_map_or (λ e. end_is.Unknown e) o end_is.Outside)
loads_absolute None values s n = loads_a s n
loads_absolute (Some e) values s n = loads_extension e s (value_of values e)

computes : (s : Registers) (o : Option ℕ) → (goes_to (compute s o) (s.pc + 1) ≡ s.pc + 1)
    × (next_of (compute s o) ≡ None → without_value (end_by (compute s o)) ≡ end_is.ZeroDivisor)
computes s None = (refl, λ h. refl)
computes s (Some n) = (refl, λ h. absurd cc)

does : (op : Op) (insn : Insn) (values : Values) (bytes : List ℕ) (wire : ℕ) (s : Registers) → comparison insn s op ≡ None
    → Does (execute op insn values bytes wire s) s op insn
does LdImm insn values bytes wire s none = record { goes = refl; ends = λ h. absurd cc }
does (LdAbs size) insn values bytes wire s none =
    let is = loads_absolute (ext_at insn.k) values s (packet_number bytes insn.k (width size)) in
    record { goes = is.0; ends = is.1 }
does (LdInd size) insn values bytes wire s none =
    let is = loads_a s (packet_number bytes ((s.x + insn.k) % 2 ^ 32) (width size)) in record { goes = is.0; ends = is.1 }
does LdMem insn values bytes wire s none = record { goes = refl; ends = λ h. absurd cc }
does LdLen insn values bytes wire s none = record { goes = refl; ends = λ h. absurd cc }
does LdxImm insn values bytes wire s none = record { goes = refl; ends = λ h. absurd cc }
does LdxMem insn values bytes wire s none = record { goes = refl; ends = λ h. absurd cc }
does LdxLen insn values bytes wire s none = record { goes = refl; ends = λ h. absurd cc }
does LdxMsh insn values bytes wire s none = let is = loads_x s _ in record { goes = is.0; ends = is.1 }
does St insn values bytes wire s none = record { goes = refl; ends = λ h. absurd cc }
does Stx insn values bytes wire s none = record { goes = refl; ends = λ h. absurd cc }
does (Alu op src) insn values bytes wire s none =
    let is = computes s (alu op s.a (operand src insn.k s.x)) in record { goes = is.0; ends = is.1 }
does Neg insn values bytes wire s none = record { goes = refl; ends = λ h. absurd cc }
does Ja insn values bytes wire s none = record { goes = refl; ends = λ h. absurd cc }
does (Jump cond src) insn values bytes wire s none = absurd cc
does RetK insn values bytes wire s none = record { goes = refl; ends = λ h. refl }
does RetA insn values bytes wire s none = record { goes = refl; ends = λ h. refl }
does Tax insn values bytes wire s none = record { goes = refl; ends = λ h. absurd cc }
does Txa insn values bytes wire s none = record { goes = refl; ends = λ h. absurd cc }

-- an operation that ends each packet
ret_ends : (op : Op) (insn : Insn) (values : Values) (bytes : List ℕ) (wire : ℕ) (s : Registers) → why op insn ≡ end_is.Returned 0
    → next_of (execute op insn values bytes wire s) ≡ None
ret_ends RetK insn values bytes wire s h = refl
ret_ends RetA insn values bytes wire s h = refl
ret_ends (LdAbs size) insn values bytes wire s h = absurd (never (ext_at insn.k) h)
  where
    never : (o : Option Ext) → option_map_or (λ e. end_is.Unknown e) o end_is.Outside ≡ end_is.Returned 0 → ⊥
    never None h = cc
    never (Some e) h = cc
ret_ends _ insn values bytes wire s h = absurd cc

-- a conditional jump goes on, to one of two instructions
pub record Branches (o : Turn) (s : Registers) (insn : Insn) (taken : Bool) : Type 0 where
  pub next : Registers
  pub goes : o ≡ turn_is.Next next
  pub there : next.pc ≡ s.pc + 1 + (if taken then insn.jt else insn.jf)

branches : (op : Op) (insn : Insn) (values : Values) (bytes : List ℕ) (wire : ℕ) (s : Registers)
    → is_some (comparison insn s op) ≡ true
    → Branches (execute op insn values bytes wire s) s insn (unwrap_or (comparison insn s op) false)
branches (Jump cond src) insn values bytes wire s h = record { next = _; goes = refl; there = refl }
branches _ insn values bytes wire s h = absurd cc

-- whether an instruction is one depends on no register
pub test_by_op : (op : Op) (insn : Insn) (s v : Registers) → is_some (comparison insn s op) ≡ is_some (comparison insn v op)
test_by_op (Jump cond src) insn s v = refl
test_by_op _ insn s v = refl

ends_no_test : (op : Op) (insn : Insn) (values : Values) (bytes : List ℕ) (wire : ℕ) (s : Registers)
    → next_of (execute op insn values bytes wire s) ≡ None → is_some (comparison insn s op) ≡ false
ends_no_test (Jump cond src) insn values bytes wire s h = absurd cc
ends_no_test _ insn values bytes wire s h = refl

nothing : (o : Option Bool) → is_some o ≡ false → o ≡ None
nothing None h = refl
nothing (Some b) h = absurd cc

-- ---- an instruction of a checked program

pub record Found (list : List Insn) (pc : ℕ) : Type 0 where
  pub insn : Insn
  pub op : Op
  pub here : slice_get list pc ≡ Some insn
  pub decodes : op_of insn.code ≡ Some op

pub find : (list : List Insn) (pc : ℕ) → IsSound list → pc < length list → Found list pc
find list pc sound inside =
    let none : Insn = record { code = 0; jt = 0; jf = 0; k = 0 } in
    let here = slice_get-get_or list pc none inside in
    let known = sound_known list pc (get_or list pc none) sound here in
    record { insn = get_or list pc none; op = known.0; here = here; decodes = known.1 }

pub there_too : (list : List Insn) (x y : ℕ) (insn : Insn) → x ≡ y → slice_get list x ≡ Some insn → slice_get list y ≡ Some insn
there_too list x y insn e h = rw e at h

module _ (t : OnPacket) (s : Registers) (insn : Insn) (op : Op) (here : slice_get t.machine.list s.pc ≡ Some insn)
    (decodes : op_of insn.code ≡ Some op) where
  pub compared : is_test_at t.machine.list s ≡ is_some (comparison insn s op)
  compared = ap is_some (comparison_by t.machine.list s insn op here decodes)

  pub turn_does : is_test_at t.machine.list s ≡ false → Does (turn_in t s) s op insn
  turn_does plain =
      rw (turn_by t s insn op here decodes)
      (does op insn t.machine.values t.bytes t.wire s (nothing (comparison insn s op) (sym compared ∙ plain)))

  pub turn_ends : next_of (turn_in t s) ≡ None → is_test_at t.machine.list s ≡ false
  turn_ends none =
      compared ∙ ends_no_test op insn t.machine.values t.bytes t.wire s (rw (turn_by t s insn op here decodes) at none)

  pub turn_returns : why op insn ≡ end_is.Returned 0 → next_of (turn_in t s) ≡ None
  turn_returns h = rw (turn_by t s insn op here decodes) (ret_ends op insn t.machine.values t.bytes t.wire s h)

  pub turn_branches : is_test_at t.machine.list s ≡ true → Branches (turn_in t s) s insn (is_taken t.machine.list s)
  turn_branches tested =
      rw (turn_by t s insn op here decodes, comparison_by t.machine.list s insn op here decodes)
      (branches op insn t.machine.values t.bytes t.wire s (sym compared ∙ tested))
