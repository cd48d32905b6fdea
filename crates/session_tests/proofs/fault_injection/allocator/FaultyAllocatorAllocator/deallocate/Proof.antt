-- It counts the bytes, and gives the block back to the inner allocator. Assumes `Logic`.
use Rattle.std.proofs.Common.{◌≡◌, List, [], ◌∷◌, refl, w64}
use Rattle.std.proofs.raw_atomic.Walks.{proved}
use Rattle.std.proofs.alloc.Calls.{Al, seen, token, Gives, at_gives, Gives-goes, Gives-Gives}
use mir.Syntax.{Fn}
use mir.Val.{Val, vunit, vint, vptr}
use mir.MapTy.{inst_fn}
use base.Logic.{id⊢, fst∗, never}
use base.Fml.{Fml, ftrue, fsep, flft}
use prog.Memory.{size, align, capped}
use prog.Wp.{WpFn}
use types.Logic.{sem}
use contract.BorrowLft.{◌⊑◌, ⊑_trans}
use contract.Monad.{fact}
use contract.Running.{tables}
use types.Kit.{‵, raw, ◌⊛◌, later, given, prop, ◌$◌, ◌∵◌, !, qed, move, keep, use1, use2, split, split3, join, learn}
use types.Kit.{fsplit, group, feq_i, regoal, suffices, await, done}
use types.Run.{stop, fld, addr, no_more, and_then, of_opd, unit_lit, returns, enter}
use types.ByLocal.{alloc_all, pass_all, free_all, look_at, get, through, sets, lands_as}
use denote.Builtin.{usize, RawPtr}
use denote.Memory.{hidden_shr}
use denote.Exit.{yes}
use denote.Opens.{unhide}
use denote.Plain.{uint_vals, uint_Tells}
use denote.RattleType.{owns}
use denote.RawPtr.{Ptr, block_ptr, null_ptr, room_for, in_a_block, ptr_val, rawptr_vals, rawptr_Tells}
use denote.Ref.{shr_vals}
use denote.Signature.{plain, types_at}
use denote.Steps.{heard, nothing}
use denote.Triple.Call.{calls_at}
use denote.Triple.Clauses.{Ended}
use denote.Triple.Table.{framed}
use denote.Triple.Walked.{Stays, stay_dropped, walk_of, ends_at, Goes-dropped}
use Rattle.session_tests.proofs.fault_injection.Ledger.{generics, self_slot, inner_at, ledger_at, Ledger}
use Rattle.session_tests.proofs.fault_injection.Ledger.{Returns, at_returns, returns-handed, returns-said}
use Rattle.session_tests.proofs.fault_injection.allocator.give_back.Met as give_back
use Rattle.session_tests.specs.contracts.fault_injection.allocator.FaultyAllocatorAllocator.deallocate as f
use Rattle.session_tests.proofs.fault_injection.allocator.FaultyAllocatorAllocator.deallocate.Statement.{statement}
use Rattle.session_tests.proofs.fault_injection.allocator.FaultyAllocatorAllocator.deallocate.Code as code

module _ (inner : Al) where
  abbrev body : Fn
  body = inst_fn (generics inner) code.function

  abbrev ended : Ended
  ended = f.ended inner.row inner.g inner.d inner.drops

  abbrev stayed : Stays ended.signature.params ended.kept
  stayed = (
    stay_dropped (self_slot inner) yes,
    (
      stay_dropped (plain (λ _. RawPtr)) yes,
      (stay_dropped (plain (λ _. usize)) yes, (stay_dropped (plain (λ _. usize)) yes, tt)),
    ),
  )

pub deallocate_spec : {M : Type 1} → statement M
deallocate_spec 𝓤 𝓛 𝓜 𝓡 wired B laws ghosts methods drops met _ =
    let inner : Al = record { row = B; laws = laws; g = ghosts; d = methods; drops = drops } in
    let T = ended inner in let hs = stayed inner in
    let c = f.clauses B ghosts methods drops 𝓛 𝓜.mem 𝓡.returns in
    let W = walk_of 𝓛 T hs c in
    let 𝓣 = tables 𝓤 𝓛.H 𝓜 𝓡 𝓡.env in
    let goes_word = Goes-dropped 𝓛 2 (plain (λ _. usize)) yes (λ κs x w. refl) in
    let goes_ptr = Goes-dropped 𝓛 2 (plain (λ _. RawPtr)) yes (λ κs x w. refl) in
    let goes_self = Goes-dropped 𝓛 2 (self_slot inner) yes (λ κs x w. refl) in
    proved 𝓛 T hs c 𝓜 𝓡 (goes_self, (goes_ptr, (goes_word, (goes_word, tt))))
    (f.Key.name (generics inner)) (body inner) (code.unfolded 𝓤 𝓛.H 𝓜 𝓡 wired (B, tt) methods drops)
    (λ κs. (shr_vals, (rawptr_vals, (uint_vals w64, (uint_vals w64, tt)))))
    (λ κs. ((λ r vs s. s.0), (rawptr_Tells, (uint_Tells w64, (uint_Tells w64, tt)))))
    (λ κs qs bounds a τ are.
    let κ = κs.0 in let q = qs.0 in let long = κs.1.0 in
    let r = a.0 in let n = a.1.1.0 in let m = a.1.1.1.0 in
    let fn = are.1.1.0.1 in let fm = are.1.1.1.0.1 in
    let place = inner_at inner r.ref_ptr in let ledger = ledger_at inner r.ref_ptr in let heap = r.now.inner in
    let y : Ptr → W.Ghost = λ x. (
      (
        κs,
        qs,
        bounds,
        (r, (x, (n, (m, tt)))),
        (shr_vals r, (rawptr_vals x, (vint w64 n ∷ [], (vint w64 m ∷ [], tt)))),
      ),
      τ,
    ) in
    let vs : Ptr → List Val = λ x. vptr r.ref_ptr.0 r.ref_ptr.1 ∷ ptr_val x ∷ vint w64 n ∷ vint w64 m ∷ [] in
    let Block : Ptr → Fml = λ x. fsep (room_for τ x) (token inner heap τ x) in
    let Fits : Type 0 = (capped (size τ) ≡ n) × (capped (align τ) ≡ m) in
    qed 𝓛 (((‵ (flft κ q) ⊛ ‵ (flft long qs.1.0) ⊛ ‵ ftrue) ⊛
    ‵ (owns (types_at T.signature.params κs) (y a.1.0).0.3 (y a.1.0).0.4))
    ∷ (raw (fact 𝓤 (long ⊑ B.lives)) ⊛ raw (fact 𝓤 Fits) ⊛ ‵ (Block a.1.0)) ∷ []) ∵
    move ! (1 ∷ []) $ split3 ! $ heard ! _ (λ outlived. heard ! _ (λ fits.
    in_a_block ! a.1.0 Block (fst∗ 𝓤 (never 𝓤) (sem 𝓛 (token inner heap τ null_ptr))) (λ b o e.
    regoal ! (λ x. prop (WpFn 𝓤 𝓛.H 𝓣.C 𝓣.Λ (body inner) (vs x) (W.post (y x)))) e refl $
    move ! (1 ∷ []) $ split ! $ split ! $ move ! (2 ∷ []) $ fsplit ! $ fsplit ! $ move ! (1 ∷ []) $ unhide ! $
    fsplit ! $ fsplit ! $
    use1 𝓛 (‵ (seen inner κ place heap)) (id⊢ 𝓤 _) $ move ! (1 ∷ []) $ fsplit ! $
    use1 𝓛 (‵ (hidden_shr Ledger κ (record { value = tt }) ledger.0 ledger.1)) (id⊢ 𝓤 _) $
    keep ! (0 ∷ 6 ∷ 8 ∷ 2 ∷ 7 ∷ []) $
    -- [the ledger; the token of κ; the block; the inner allocator; the other token; the locals]
    enter ! _ _ _ _ _ $ alloc_all !
    (λ l. pass_all ! refl ((tt, tt), ((tt, tt), ((tt, record { fits = fn }), ((tt, record { fits = fm }), tt)))) $
    sets ! (addr ! (through ! refl (fld ! refl (stop !)))) refl (tt, tt) $
    let G' = Returns 𝓛 𝓜.mem 𝓡.returns in
    let z' : G'.Ghost = at_returns 𝓛 𝓜.mem 𝓡.returns κ q ledger n in
    use2 𝓛 (raw (G'.pre z')) (returns-handed 𝓛 𝓜.mem 𝓡.returns κ q ledger n fn) $
    calls_at ! (framed 𝓤 𝓛.H 𝓜 𝓣) G'
    (give_back.met 𝓤 𝓛 𝓜 𝓡 (code.calls-session_tests::fault_injection::allocator::give_back 𝓡.env wired)) z'
    (and_then ! (get ! refl) (and_then ! (get ! refl) (no_more !))) (λ u.
    use1 𝓛 (later (given (u ≡ vunit) (‵ (flft κ q)))) (returns-said 𝓛 𝓜.mem 𝓡.returns κ q ledger n u) $
    await ! tt $ learn ! (λ was_unit. lands_as ! was_unit refl (tt, tt) $
    sets ! (addr ! (through ! refl (fld ! refl (stop !)))) refl (tt, tt) $ move ! (1 ∷ []) $ fsplit ! $
    move ! (0 ∷ 1 ∷ 3 ∷ 2 ∷ []) $ group ! 4 $
    -- [the room, the right to free it, the inner allocator and its token; the other token; the locals]
    let G = Gives inner 𝓛 𝓜.mem 𝓡.returns in
    let z : G.Ghost = at_gives inner 𝓛 𝓜.mem 𝓡.returns κ q place heap b o n m τ in
    use1 𝓛 (raw (G.pre z)) (Gives-goes inner 𝓛 𝓜.mem 𝓡.returns κ q place heap
    (⊑_trans κ long B.lives bounds.0 outlived) b o n m τ fits.0 fits.1 fn fm) $
    calls_at ! (framed 𝓤 𝓛.H 𝓜 𝓣) G (met.deallocate drops) z (and_then ! (get ! refl)
    (and_then ! (get ! refl) (and_then ! (get ! refl) (and_then ! (get ! refl) (no_more !))))) (λ v.
    use1 𝓛 (later (given (v ≡ vunit) (‵ (flft κ q))))
    (Gives-Gives inner 𝓛 𝓜.mem 𝓡.returns κ q place heap b o n m τ v) $
    await ! tt $ learn ! (λ is_unit.
    lands_as ! is_unit refl (tt, tt) $ sets ! (of_opd ! (unit_lit !)) refl (tt, tt) $ returns ! (look_at ! 0 refl) $
    free_all ! refl $
    -- [the two tokens]
    suffices ! _
    (ends_at 𝓛 T hs c (y (block_ptr b o)) vunit tt (tt, (tt, (tt, (tt, tt)))) (tt, (tt, (tt, (tt, tt))))) $
    join ! $ nothing ! $ feq_i ! (List Val) (vunit ∷ []) _ refl $
    nothing ! $ nothing ! $ join ! $ nothing ! $ join ! $ nothing ! $ join ! $ nothing ! $ join ! $
    move ! (3 ∷ 0 ∷ 1 ∷ []) $ group ! 3 $ done !)))))))))
