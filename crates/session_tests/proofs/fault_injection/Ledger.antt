-- `is_refused` and `give_back` at a call: what they are handed, and what a caller has of them; and the types that the
-- walks of both methods of a faulty allocator share. Assumes `Logic`.
use Rattle.std.proofs.Common.{◌≡◌, ℕ, ◌+◌, ◌^◌, ◌<◌, Bool, List, [], ◌∷◌, refl, ap, w64}
use seplogic.Ra.Ura.{Ura}
use mir.Syntax.{Args, a_type, dnil, dcons}
use mir.Val.{Val, vbool, vunit, vint, vptr}
use base.Logic.{SProp, ent, ex, sep, guard, id⊢}
use base.Fml.{Lft, Share, ftrue, fsep, flft}
use prog.Memory.{Memory, size, align, up}
use prog.Routine.{Routine}
use types.Logic.{Logic, sem}
use contract.Monad.{Fun}
use types.Kit.{‵, raw, ◌⊛◌, some, later, ◌$◌, ◌∵◌, !, qed, move, keep, use1, split, join, pick, fjoin, feq_i, feq_l}
use types.Kit.{flt_i, check, show, await, updating, now as at_once, done}
use denote.RattleType.{RattleType}
use denote.Memory.{hidden_shr}
use denote.Builtin.{bool, unit, RefOf}
use denote.Param.{bounded, param}
use denote.Signature.{Slot, plain}
use denote.Steps.{nothing, only}
use denote.Triple.Statement.{Contract}
use denote.Triple.Spec.{triple_of}
use Rattle.std.proofs.alloc.Calls.{Al, α}
use Rattle.std.specs.contracts.cell.Cell as cell
use Rattle.session_tests.specs.contracts.fault_injection.allocator.FaultyAllocator as faulty
use Rattle.session_tests.specs.contracts.fault_injection.allocator.Ledger as ledger
use Rattle.session_tests.specs.contracts.fault_injection.allocator.is_refused as asked
use Rattle.session_tests.specs.contracts.fault_injection.allocator.give_back as given

abbrev pub Ledger : RattleType
Ledger = cell.the_row ledger.the_row

module _ (inner : Al) where
  abbrev pub generics : Args
  generics = bounded (a_type ∷ []) (inner.row, tt) (dcons inner.d (dcons inner.drops dnil))

  abbrev pub self_slot : Slot 2
  self_slot = RefOf (0 ∷ []) tt (plain (λ _. faulty.the_row (param 0 inner.row))) (λ _. tt)

  -- where the inner allocator lies in one that lies at `place`, and where the ledger does
  abbrev pub inner_at : ℕ × ℕ → ℕ × ℕ
  inner_at place = (place.0, place.1 + up (align (α inner)) 0)

  abbrev pub ledger_at : ℕ × ℕ → ℕ × ℕ
  ledger_at place = (place.0, place.1 + up 8 (up (align (α inner)) 0 + size (α inner)))

module _ {M : Type 1} {𝓤 : Ura M} (𝓛 : Logic 𝓤) (at_mem : Memory → SProp 𝓤) (run : Routine → Fun 𝓤) where
  abbrev pub Asks : Contract 𝓤
  Asks = triple_of 𝓛 asked.signature (asked.spec 𝓛 at_mem run)

  abbrev pub Returns : Contract 𝓤
  Returns = triple_of 𝓛 given.signature (given.spec 𝓛 at_mem run)

  abbrev pub at_asks : Lft → Share → ℕ × ℕ → ℕ → Asks.Ghost
  at_asks κ q place n = (
    (
      (κ, tt),
      (q, tt),
      tt,
      (record { ref_ptr = place; now = record { value = tt } }, (n, tt)),
      (vptr place.0 place.1 ∷ [], (vint w64 n ∷ [], tt)),
    ),
    tt,
  )

  abbrev pub at_returns : Lft → Share → ℕ × ℕ → ℕ → Returns.Ghost
  at_returns κ q place n = at_asks κ q place n

module _ {M : Type 1} {𝓤 : Ura M} (𝓛 : Logic 𝓤) (at_mem : Memory → SProp 𝓤) (run : Routine → Fun 𝓤) (κ : Lft)
    (q : Share) (place : ℕ × ℕ) (n : ℕ) where
  open 𝓛 use {H, A}

  -- the ledger that a `&` leads to, and the token of that `&`
  abbrev Handed : SProp 𝓤
  Handed = sep 𝓤 (sem 𝓛 (hidden_shr Ledger κ (record { value = tt }) place.0 place.1)) (A.lft κ q)

  pub asks-handed : n < 2 ^ 64 → ent 𝓤 Handed ((Asks 𝓛 at_mem run).pre (at_asks 𝓛 at_mem run κ q place n))
  asks-handed fits =
      qed 𝓛 (‵ (hidden_shr Ledger κ (record { value = tt }) place.0 place.1) ∷ ‵ (flft κ q) ∷ []) ∵
      nothing ! $ flt_i ! n (2 ^ 64) fits $ feq_i ! (List Val) (vint w64 n ∷ []) _ refl $ fjoin ! $ fjoin ! $
      move ! (1 ∷ 0 ∷ []) $ feq_i ! (List Val) (vptr place.0 place.1 ∷ []) _ refl $ fjoin ! $
      move ! (0 ∷ 1 ∷ []) $ fjoin ! $ nothing ! $ move ! (2 ∷ 0 ∷ []) $ join ! $ join ! $ nothing ! $
      move ! (1 ∷ 0 ∷ []) $ join ! $ done !

  pub returns-handed : n < 2 ^ 64 → ent 𝓤 Handed ((Returns 𝓛 at_mem run).pre (at_returns 𝓛 at_mem run κ q place n))
  returns-handed = asks-handed

  -- it answered a truth value, and the token came back
  abbrev pub Said : Val → SProp 𝓤
  Said v = ex 𝓤 (λ (t : Bool). guard 𝓤 (v ≡ vbool t) (A.lft κ q))

  pub asks-said : (v : Val) → ent 𝓤 ((Asks 𝓛 at_mem run).post (at_asks 𝓛 at_mem run κ q place n) v) (H.⇛ (Said v))
  asks-said v =
      qed 𝓛 (raw ((Asks 𝓛 at_mem run).post (at_asks 𝓛 at_mem run κ q place n) v) ∷ []) ∵ updating ! $
      use1 𝓛 (later (some (λ (t : Bool). ((‵ (flft κ q) ⊛ ‵ ftrue) ⊛ ‵ (bool.own_val t (v ∷ [])))
      ⊛ some (λ (ws : Unit {0} × (Unit {0} × Unit {0})). ‵ (fsep ftrue (fsep ftrue ftrue)) ⊛ ‵ ftrue)))) (id⊢ 𝓤 _) $
      await ! tt $ pick ! (λ t. split ! $ split ! $ move ! (1 ∷ []) $ feq_l ! (λ is_t. split ! $ at_once ! $
      show ! (λ (s : Bool). guard 𝓤 (v ≡ vbool s) (A.lft κ q)) t $ check ! (ap only is_t) $ keep ! (0 ∷ []) $ done !))

  pub returns-said : (v : Val)
      → ent 𝓤 ((Returns 𝓛 at_mem run).post (at_returns 𝓛 at_mem run κ q place n) v)
      (H.⇛ (guard 𝓤 (v ≡ vunit) (A.lft κ q)))
  returns-said v =
      qed 𝓛 (raw ((Returns 𝓛 at_mem run).post (at_returns 𝓛 at_mem run κ q place n) v) ∷ []) ∵ updating ! $
      use1 𝓛 (later (some (λ (r : Unit {0}). ((‵ (flft κ q) ⊛ ‵ ftrue) ⊛ ‵ (unit.own_val r (v ∷ [])))
      ⊛ some (λ (ws : Unit {0} × (Unit {0} × Unit {0})). ‵ (fsep ftrue (fsep ftrue ftrue)) ⊛ ‵ ftrue)))) (id⊢ 𝓤 _) $
      await ! tt $ pick ! (λ r. split ! $ split ! $ move ! (1 ∷ []) $ feq_l ! (λ is_unit. split ! $ at_once ! $
      check ! (ap only is_unit) $ keep ! (0 ∷ []) $ done !))
