-- Paths through a list of instructions, the masks that stand for them, and the faults that paths show.
use Rattle.std.proofs.Common.{◌≡◌, ℕ, zero, suc, ◌+◌, ◌<◌, List, [], ◌∷◌, length, get_or, replicate}
use Rattle.std.proofs.Common.{arith, refl, sym, subst, ◌∙◌, inl, inr}
use Rattle.std.specs.Prelude.{◌⊎◌, Some, IsTrue, slice_get, slice_set, slice_index}
use Rattle.std.proofs.lemmas.Bool.{cases_eq, cases_lt}
use Rattle.std.proofs.lemmas.Option.{slice_get_within}
use Rattle.std.proofs.lemmas.Nat.Bits.{bit_at-zero, bit_at_ones}
use Rattle.std.proofs.lemmas.List.{get_or-set_other, get_or-replicate}
use Rattle.std.proofs.lemmas.Grind.{get_or-set_at}
use Rattle.std.proofs.Math.ListN.{length-set, length-replicate, get_or-eq_default}
use Rattle.cbpf_code.specs.declared.insn.Insn.{Insn}
use Rattle.cbpf_code.specs.declared.opcode.Op.{Op}
use Rattle.cbpf_code.specs.declared.opcode.Op.TheVariants.{LdMem, St}
use Rattle.cbpf_code.specs.declared.checker.CheckFault.{CheckFault}
use Rattle.cbpf_code.specs.declared.checker.CheckFault.TheVariants.{UnwrittenSlot}
use Rattle.cbpf_code.specs.declared.checker.TheConstants.{MAX_INSTRUCTIONS, SLOTS}
use Rattle.cbpf_code.specs.Opcode.{op_of}
use Rattle.cbpf_code.specs.ControlFlow.{successors, IsAmong, IsSuccessor, StoresSlot, MayBeUnwritten}
use Rattle.cbpf_code.specs.ControlFlow.{loads_slot, stores_slot}
use Rattle.cbpf_code.specs.ControlFlow.MayBeUnwritten.{at_start, onward}
use Rattle.cbpf_code.specs.Faults.{uses_slot, HasFault, FirstFault, rank, index_of}
use Rattle.cbpf_code.specs.Sound.{IsSound}
use Rattle.cbpf_code.specs.CheckSteps.{IsWellFormed}
use Rattle.cbpf_code.specs.SlotMasks.{InMask, InMaskOf, LeavesUnwritten, AddsToMasks}
use Rattle.cbpf_code.proofs.Decided.{Decided, is_true, both, either, not, least, found, insn_at}
use Rattle.cbpf_code.proofs.FaultLemmas.{insn_at-same}

successor-same : (list : List Insn) (i t : ℕ) (insn : Insn) (op : Op) → IsSuccessor list i t
    → slice_get list i ≡ Some insn → op_of insn.code ≡ Some op → IsAmong (successors (Some op) insn i) t
successor-same list i t insn op next here known = grind arith

-- ---- paths

-- t is the first instruction, or one below m passes slot s on to it unwritten
abbrev pub ReachedUnwritten : List Insn → ℕ → ℕ → ℕ → Type 0
ReachedUnwritten list s m t =
    (t ≡ 0) ⊎ ((h : ℕ) × (h < m) × MayBeUnwritten list s h × (StoresSlot list h s → ⊥) × IsSuccessor list h t)

pub unwritten_at-reached : (list : List Insn) (s i : ℕ) → ReachedUnwritten list s i i → MayBeUnwritten list s i
unwritten_at-reached list s i (inl first) = rw first at_start
unwritten_at-reached list s i (inr r) = onward r.1 r.2 r.3 r.4

pub reached-unwritten_at : (list : List Insn) (s i : ℕ) → MayBeUnwritten list s i → ReachedUnwritten list s i i
reached-unwritten_at list s _ at_start = inl refl
reached-unwritten_at list s _ (onward {h} below unwritten keeps next) = inr (h, below, unwritten, keeps, next)

-- the masks say what the first m instructions lead to, and none of these loads a slot that may be unwritten
pub record TracksPaths (list : List Insn) (m : ℕ) (masks : List ℕ) : Type 0 where
  pub long : length masks ≡ MAX_INSTRUCTIONS
  pub only_reached : (t s : ℕ) → s < SLOTS → InMaskOf masks t s → ReachedUnwritten list s m t
  pub each_reached : (t s : ℕ) → s < SLOTS → ReachedUnwritten list s m t → InMaskOf masks t s
  pub written : (j : ℕ) → j < m → HasFault list (UnwrittenSlot j) → ⊥

get_or-zeros : (n t : ℕ) → ◌≡◌ {A = ℕ} (get_or (replicate n 0) t 0) 0
get_or-zeros n t = grind (arith, cases_lt, get_or-replicate, get_or-eq_default, length-replicate)

pub tracks_paths-start : (list : List Insn) → TracksPaths list 0 (slice_set (replicate MAX_INSTRUCTIONS 0) 0 65535)
tracks_paths-start list = record {
  long = length-set {A = ℕ} (replicate MAX_INSTRUCTIONS 0) 0 65535;
  only_reached = λ t s small here.
      elim (cases_eq t 0) [
        | inl e ↦ inl e
        | inr n ↦
            let gone = get_or-set_other {A = ℕ} (replicate MAX_INSTRUCTIONS 0) 0 t 65535 0 n
            ∙ get_or-zeros MAX_INSTRUCTIONS t in
            let off = bit_at-zero s in
            let bit : InMask 0 s = rw gone at here in
            absurd (omega arith)
      ];
  each_reached = λ t s small reached.
      elim reached [
        | inl e ↦ rw (get_or-set_at {X = ℕ} (replicate MAX_INSTRUCTIONS 0) 0 t 65535 0 e (omega arith))
            (bit_at_ones SLOTS s small)
        | inr r ↦ absurd (omega arith)
      ];
  written = λ j below stands. absurd (omega arith);
}

reached-further : (list : List Insn) (s m t : ℕ) → ReachedUnwritten list s m t → ReachedUnwritten list s (m + 1) t
reached-further list s m t (inl first) = inl first
reached-further list s m t (inr r) = inr (r.0, omega arith, r.2, r.3, r.4)

pub tracks_paths-next : (list : List Insn) (i : ℕ) (insn : Insn) (op : Op) (masks next_masks : List ℕ) (after : ℕ)
    → slice_get list i ≡ Some insn → op_of insn.code ≡ Some op → TracksPaths list i masks
    → LeavesUnwritten (slice_index masks i) op insn after
    → AddsToMasks masks next_masks after (λ t. IsAmong (successors (Some op) insn i) t)
    → (IsTrue (loads_slot op) → insn.k < SLOTS)
    → (IsTrue (loads_slot op) × InMaskOf masks i insn.k → ⊥) → TracksPaths list (i + 1) next_masks
tracks_paths-next list i insn op masks next_masks after here known tracks leaves adds small_k fine = record {
  long = adds.long ∙ tracks.long;
  only_reached = λ t s small set.
      elim (adds.only t s set) [
        | inl old ↦ reached-further list s i t (tracks.only_reached t s small old)
        | inr new ↦ inr (
          i,
          omega arith,
          unwritten_at-reached list s i (tracks.only_reached i s small (leaves.only s small new.1)),
          (λ stores.
              let same = insn_at-same list i (λ o x. IsTrue (stores_slot o) × (x.k ≡ s)) insn op stores here known in
              leaves.stored s small new.1 same.0 same.1),
          (insn, here, rw known new.0),
        )
      ];
  each_reached = λ t s small reached.
      elim reached [
        | inl first ↦ adds.kept t s (tracks.each_reached t s small (inl first))
        | inr r ↦ elim (cases_eq r.0 i) [
          | inl e ↦
              let keeps = rw e at r.3 in
              adds.added t s (successor-same list i t insn op (rw e at r.4) here known)
              (leaves.kept s small (tracks.each_reached i s small (reached-unwritten_at list s i (rw e at r.2)))
              (λ is at_s. keeps (insn, op, here, known, (is, at_s))))
          | inr n ↦ adds.kept t s (tracks.each_reached t s small (inr (r.0, omega arith, r.2, r.3, r.4)))
        ]
      ];
  written = λ j below stands.
      elim (cases_eq j i) [
        | inl e ↦
            let same = insn_at-same list i (λ o x. IsTrue (loads_slot o) × MayBeUnwritten list x.k i) insn op
            (rw e at stands) here known in
            fine (same.0, tracks.each_reached i insn.k (small_k same.0) (reached-unwritten_at list insn.k i same.1))
        | inr n ↦ tracks.written j (omega arith) stands
      ];
}

-- a slot that is loaded or stored is named
pub loads_use-slot : (op : Op) → IsTrue (loads_slot op) → IsTrue (uses_slot op)
loads_use-slot LdMem h = cc
loads_use-slot _ h = cc

pub stores_use-slot : (op : Op) → IsTrue (stores_slot op) → IsTrue (uses_slot op)
stores_use-slot St h = cc
stores_use-slot _ h = cc

-- ---- faults of paths, which come last

unwritten_only : (list : List Insn) (i : ℕ) (f : CheckFault) → ((j : ℕ) → j < i → HasFault list (UnwrittenSlot j) → ⊥)
    → rank f ≡ 4 → index_of f < i → HasFault list f → ⊥
unwritten_only list i (UnwrittenSlot j) none g p st = none j p st
unwritten_only list i _ none g p st = absurd (omega arith)

pub first_fault-slot : (list : List Insn) (i : ℕ) → IsWellFormed list → HasFault list (UnwrittenSlot i)
    → ((j : ℕ) → j < i → HasFault list (UnwrittenSlot j) → ⊥) → FirstFault list (UnwrittenSlot i)
first_fault-slot list i formed st none = record {
  present = st;
  none_earlier = λ f earlier there. elim earlier [
    | inl h ↦ formed.none f h there
    | inr h ↦ unwritten_only list i f none h.0 h.1 there
  ];
}

pub sound_of : (list : List Insn) → IsWellFormed list → ((j : ℕ) → HasFault list (UnwrittenSlot j) → ⊥) → IsSound list
sound_of list formed none = record { none = by }
  where
    by : (f : CheckFault) → HasFault list f → ⊥
    by (UnwrittenSlot i) has = none i has
    by f has = formed.none f (omega arith) has

-- ---- paths are decided

stores : (list : List Insn) (i s : ℕ) → Decided (StoresSlot list i s)
stores list i s = insn_at list i _ (λ op insn. both (is_true (stores_slot op)) (cases_eq insn.k s))

among : (ts : List ℕ) (t : ℕ) → Decided (IsAmong ts t)
among [] t = inr (λ h. h)
among (p ∷ ps) t = either (cases_eq t p) (among ps t)

successor : (list : List Insn) (i t : ℕ) → Decided (IsSuccessor list i t)
successor list i t = found (slice_get list i) _ (λ insn. among (successors (op_of insn.code) insn i) t)

-- instruction h passes slot s on to t unwritten
abbrev PassesOn : List Insn → ℕ → ℕ → ℕ → Type 0
PassesOn list s t h = MayBeUnwritten list s h × ((StoresSlot list h s → ⊥) × IsSuccessor list h t)

unwritten_below : (list : List Insn) (s m i : ℕ) → i < m → Decided (MayBeUnwritten list s i)
unwritten_below list s zero i below = absurd (omega arith)
unwritten_below list s (suc m) i below =
    elim (least (PassesOn list s i) i (λ h before.
    both (unwritten_below list s m h (omega arith)) (both (not (stores list h s)) (successor list h i)))) [
      | inl found ↦ inl (onward found.1 found.2.0 found.2.1.0 found.2.1.1)
      | inr none ↦ elim (cases_eq i 0) [
        | inl first ↦ inl (subst (MayBeUnwritten list s) (sym first) at_start)
        | inr later ↦ inr (λ u. elim (reached-unwritten_at list s i u) [
          | inl first ↦ later first
          | inr r ↦ none r.0 r.1 (r.2, (r.3, r.4))
        ])
      ]
    ]

unwritten : (list : List Insn) (i : ℕ) → Decided (HasFault list (UnwrittenSlot i))
unwritten list i =
    insn_at list i _ (λ op insn. both (is_true (loads_slot op)) (unwritten_below list insn.k (suc i) i (omega arith)))

abbrev pub Checked : List Insn → Type 0
Checked list = IsSound list ⊎ ((e : CheckFault) × FirstFault list e)

pub formed-checked : (list : List Insn) → IsWellFormed list → Checked list
formed-checked list formed =
    elim (least (λ j. HasFault list (UnwrittenSlot j)) (length list) (λ j below. unwritten list j)) [
      | inl found ↦ inr (UnwrittenSlot found.0, first_fault-slot list found.0 formed found.2 found.3)
      | inr none ↦ inl (sound_of list formed (λ j has. none j (slice_get_within list j has.0 has.2) has))
    ]
