-- Each text and each list has an answer. No axiom is used: what a definition says is decided by computing it.
use Rattle.std.proofs.Common.{◌≡◌, ◌≢◌, ℕ, zero, suc, ◌+◌, ◌<◌, ◌≤◌, List, length}
use Rattle.std.proofs.Common.{arith, refl, ap, ◌∙◌, subst, inl, inr}
use Rattle.std.specs.Prelude.{◌⊎◌, Option, Some, None, slice_get}
use Rattle.std.proofs.lemmas.Bool.{cases_eq, cases_lt}
use Rattle.std.proofs.lemmas.Option.{slice_get_cases}
use Rattle.cbpf_code.specs.declared.insn.Insn.{Insn}
use Rattle.cbpf_code.specs.declared.opcode.Op.{Op}
use Rattle.cbpf_code.specs.declared.opcode.Op.TheVariants.{Ja, Jump, RetK, RetA}
use Rattle.cbpf_code.specs.declared.checker.TheConstants.{MAX_INSTRUCTIONS, SLOTS}
use Rattle.cbpf_code.specs.declared.checker.CheckFault.{CheckFault}
use Rattle.cbpf_code.specs.declared.checker.CheckFault.TheVariants.{NoInstruction, TooMany, UnknownCode, NoSlot}
use Rattle.cbpf_code.specs.declared.checker.CheckFault.TheVariants.{ZeroDivisor, WideShift, JumpOutside}
use Rattle.cbpf_code.specs.declared.checker.CheckFault.TheVariants.{UnknownExtension, NoReturn}
use Rattle.cbpf_code.specs.declared.words.WordFault.{WordFault}
use Rattle.cbpf_code.specs.declared.words.WordFault.TheVariants.{Memory, CountDiffers}
use Rattle.cbpf_code.specs.Opcode.{op_of}
use Rattle.cbpf_code.specs.Faults.{NamesNoSlot, HasFault, FirstFault, rank, index_of, uses_slot, shifts_by_k}
use Rattle.cbpf_code.specs.Faults.{DividesByZero, ShiftsTooFar, JumpsOutside, LoadsUnknownExtension, IsEarlier, divides_by_k}
use Rattle.cbpf_code.specs.CheckSteps.{IsAllowed}
use Rattle.cbpf_code.specs.WordTokens.{tokens}
use Rattle.cbpf_code.specs.WordText.{count, fault_of}
use Rattle.cbpf_code.specs.WordText.{count_of, list_of, Spells, Refused}
use Rattle.cbpf_code.specs.Laws.{EachTextIsRead, EachListIsChecked}
use Rattle.cbpf_code.proofs.WordAnswerLemmas.{as-refused, first_word_fault-other}
use Rattle.cbpf_code.proofs.Decided.{Decided, is_true, at_most, both, is_none}
use Rattle.cbpf_code.proofs.PathLemmas.{formed-checked}
use Rattle.cbpf_code.proofs.SoundLemmas.{known_or}
use Rattle.cbpf_code.proofs.FaultLemmas.{PassesBefore, AllowedAt, first_fault-insn, first_fault-at_end}
use Rattle.cbpf_code.proofs.FaultLemmas.{passes_before-start, passes_before-next, well_formed-at_end}

jumps_outside : (op : Op) (insn : Insn) (i n : ℕ) → Decided (JumpsOutside op insn i n)
jumps_outside Ja insn i n = elim (at_most n (i + 1 + insn.k)) [
  | inl far ↦ inl (_, inl refl, far)
  | inr near ↦ inr (λ h. elim h.1 [ inl e ↦ omega (arith, e, h.2) | inr n ↦ n ])
]
jumps_outside (Jump cond src) insn i n = elim (at_most n (i + 1 + insn.jt)) [
  | inl far ↦ inl (_, inl refl, far)
  | inr near ↦ elim (at_most n (i + 1 + insn.jf)) [
    | inl far ↦ inl (_, inr (inl refl), far)
    | inr short ↦ inr (λ h. elim h.1 [
      | inl e ↦ omega (arith, e, h.2)
      | inr o ↦ elim o [ inl e ↦ omega (arith, e, h.2) | inr n ↦ n ]
    ])
  ]
]
jumps_outside _ insn i n = inr (λ h. h.1)

loads_unknown_extension : (op : Op) (insn : Insn) → Decided (LoadsUnknownExtension op insn)
loads_unknown_extension op insn = grind (arith, both, is_true, at_most, is_none)

-- the instruction at i is allowed, or has a fault of C3 to C8
abbrev FaultAt : List Insn → ℕ → Type 0
FaultAt list i = (e : CheckFault) × HasFault list e × (rank e ≡ 2) × (index_of e ≡ i)

allowed : (op : Op) (insn : Insn) (i n : ℕ) → (NamesNoSlot op insn → ⊥) → (DividesByZero op insn → ⊥)
    → (ShiftsTooFar op insn → ⊥) → (JumpsOutside op insn i n → ⊥) → (LoadsUnknownExtension op insn → ⊥)
    → IsAllowed op insn i n
allowed op insn i n a b c d e (NoSlot at) h = a h
allowed op insn i n a b c d e (ZeroDivisor at) h = b h
allowed op insn i n a b c d e (WideShift at) h = c h
allowed op insn i n a b c d e (JumpOutside at) h = d h
allowed op insn i n a b c d e (UnknownExtension at) h = e h
allowed op insn i n a b c d e _ h = h

known-fault : (list : List Insn) (i : ℕ) (insn : Insn) (op : Op) → slice_get list i ≡ Some insn
    → op_of insn.code ≡ Some op → AllowedAt list i ⊎ FaultAt list i
known-fault list i insn op here known =
    elim (both (is_true (uses_slot op)) (at_most SLOTS insn.k)) [
      | inl h ↦ inr (NoSlot i, (insn, op, here, known, h), refl, refl)
      | inr a ↦ elim (both (is_true (divides_by_k op)) (cases_eq insn.k 0)) [
        | inl h ↦ inr (ZeroDivisor i, (insn, op, here, known, h), refl, refl)
        | inr b ↦ elim (both (is_true (shifts_by_k op)) (at_most 32 insn.k)) [
          | inl h ↦ inr (WideShift i, (insn, op, here, known, h), refl, refl)
          | inr c ↦ elim (jumps_outside op insn i (length list)) [
            | inl h ↦ inr (JumpOutside i, (insn, op, here, known, h), refl, refl)
            | inr d ↦ elim (loads_unknown_extension op insn) [
              | inl h ↦ inr (UnknownExtension i, (insn, op, here, known, h), refl, refl)
              | inr e ↦ inl (insn, op, here, known, allowed op insn i (length list) a b c d e)
            ]
          ]
        ]
      ]
    ]

fault_at : (list : List Insn) (i : ℕ) → i < length list → AllowedAt list i ⊎ FaultAt list i
fault_at list i below = elim (slice_get_cases list i).1 [
  | inr past ↦ absurd (omega arith)
  | inl found ↦ elim (known_or (op_of found.0.code)) [
    | inl none ↦ inr (UnknownCode i, (found.0, found.2, none), refl, refl)
    | inr known ↦ known-fault list i found.0 known.0 found.2 known.1
  ]
]

-- ---- each list

returns : (o : Option Op) → Decided ((o ≡ Some RetK) ⊎ (o ≡ Some RetA))
returns (Some RetK) = inl (inl refl)
returns (Some RetA) = inl (inr refl)
returns _ = inr (λ h. elim h [ inl e ↦ cc | inr e ↦ cc ])

passes : (list : List Insn) (m : ℕ) → 0 < length list → length list ≤ MAX_INSTRUCTIONS → m ≤ length list
    → PassesBefore list m ⊎ ((e : CheckFault) × FirstFault list e)
passes list zero some few within = inl (passes_before-start list some few)
passes list (suc m) some few within =
    elim (passes list m some few (omega arith)) [
      | inr first ↦ inr first
      | inl passed ↦ elim (fault_at list m (omega arith)) [
        | inl here ↦ inl (subst (PassesBefore list) (omega arith) (passes_before-next list m passed here))
        | inr f ↦ inr (f.0, first_fault-insn list m f.0 passed f.1 f.2 f.3)
      ]
    ]

only_empty : (list : List Insn) (f : CheckFault) → rank f < 1 → HasFault list f → length list ≡ 0
only_empty list NoInstruction r has = has
only_empty list _ r has = absurd (omega arith)

pub each_list_is_checked : EachListIsChecked
each_list_is_checked list = elim (cases_eq (length list) 0) [
  | inl none ↦ inr (NoInstruction, record { present = none; none_earlier = λ f earlier has. omega arith })
  | inr some ↦ elim (cases_lt MAX_INSTRUCTIONS (length list)) [
    | inl many ↦
        let never = λ (f : CheckFault) (earlier : IsEarlier f TooMany) (has : HasFault list f).
        some (only_empty list f (omega arith) has) in
        inr (TooMany, record { present = many; none_earlier = never })
    | inr few ↦ elim (passes list (length list) (omega arith) few (omega arith)) [
      | inr first ↦ inr first
      | inl passed ↦ elim (returns _) [
        | inl returns ↦ formed-checked list (well_formed-at_end list _ passed refl returns)
        | inr never ↦ inr (NoReturn, first_fault-at_end list _ passed refl never)
      ]
    ]
  ]
]

-- ---- each text

pub each_text_is_read : EachTextIsRead
each_text_is_read text = by (fault_of text) refl
  where
    by : (o : Option WordFault) → fault_of text ≡ o
        → ((list : List Insn) × Spells text list) ⊎ ((e : WordFault) × (e ≢ Memory) × Refused text e)
    by (Some e) is = inr (
      e,
      (λ memory. first_word_fault-other count (length text) (tokens text) (is ∙ ap Some memory)),
      as-refused text e (inl is),
    )
    by None is = elim (cases_eq (count_of text) (length (list_of text))) [
      | inl same ↦ inl (_, record { good = is; reads = refl; counted = same })
      | inr differs ↦ inr (
        CountDiffers (count_of text) (length (list_of text)),
        (λ h. cc),
        inr (record { good = is; differs = differs; fault = refl }),
      )
    ]
