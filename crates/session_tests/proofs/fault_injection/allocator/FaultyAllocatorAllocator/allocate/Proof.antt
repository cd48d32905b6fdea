-- A refused call answers `Err`, and any other what the inner allocator answers. Assumes `Logic`.
use Rattle.std.proofs.Common.{◌≡◌, ℕ, Bool, true, false, [], ◌∷◌, Ok, Err, refl, w64}
use Rattle.std.proofs.VecSteps.Shapes.{after}
use Rattle.std.proofs.raw_atomic.Walks.{proved}
use Rattle.std.proofs.alloc.Calls.{Al, seen, token, Answer, answer_val, Answer-typed, Answer-Ok, Answer-err, Takes}
use Rattle.std.proofs.alloc.Calls.{at_takes, Answered, Takes-goes, Takes-gives, answers}
use Rattle.std.specs.Allocator.{block_if_ok}
use mir.Syntax.{Fn}
use mir.Val.{vbool, vint}
use mir.MapTy.{inst_fn}
use base.Logic.{ent, emp, id⊢}
use base.Fml.{ftrue, flft}
use prog.Memory.{size, align, capped}
use types.Logic.{sem}
use contract.BorrowLft.{◌⊑◌, ⊑_trans}
use contract.Monad.{fact}
use contract.Running.{tables}
use types.Kit.{‵, raw, ◌⊛◌, some, later, given, prop, at_ret, Sq, ◌$◌, ◌∵◌, !, qed, move, keep, use0, use1, use2}
use types.Kit.{split, join, pick, learn, group, fsplit, fjoin, suffices, await, done}
use types.Part.{agg}
use types.Run.{stop, fld, addr, lit, no_more, and_then, first, branches, skips, exec, returns, returns_within, enter}
use types.ByLocal.{alloc_all, pass_all, free_all, look_at, get, through, sets, lands_as, env}
use denote.Builtin.{usize}
use denote.Exit.{yes}
use denote.Memory.{hidden_shr}
use denote.Opens.{unhide}
use denote.Plain.{uint_vals, uint_Tells}
use denote.RattleType.{owns}
use denote.RawPtr.{block_ptr}
use denote.Ref.{shr_vals}
use denote.Signature.{plain, types_at}
use denote.Steps.{heard, nothing}
use denote.Triple.Call.{calls_at}
use denote.Triple.Clauses.{Ended}
use denote.Triple.Table.{framed}
use denote.Triple.Walked.{Stays, stay_dropped, walk_of, ends_at, Goes-dropped}
use Rattle.session_tests.proofs.fault_injection.Ledger.{generics, self_slot, inner_at, ledger_at, Ledger}
use Rattle.session_tests.proofs.fault_injection.Ledger.{Asks, at_asks, asks-handed, asks-said}
use Rattle.session_tests.proofs.fault_injection.allocator.is_refused.Met as is_refused
use Rattle.session_tests.specs.contracts.fault_injection.allocator.FaultyAllocatorAllocator.allocate as f
use Rattle.session_tests.proofs.fault_injection.allocator.FaultyAllocatorAllocator.allocate.Statement.{statement}
use Rattle.session_tests.proofs.fault_injection.allocator.FaultyAllocatorAllocator.allocate.Code as code

module _ (inner : Al) where
  abbrev body : Fn
  body = inst_fn (generics inner) code.function

  abbrev ended : Ended
  ended = f.ended inner.row inner.g inner.d inner.drops

  abbrev stayed : Stays ended.signature.params ended.kept
  stayed = (
    stay_dropped (self_slot inner) yes,
    (stay_dropped (plain (λ _. usize)) yes, (stay_dropped (plain (λ _. usize)) yes, tt)),
  )

pub allocate_spec : {M : Type 1} → statement M
allocate_spec 𝓤 𝓛 𝓜 𝓡 wired B laws ghosts methods drops met _ =
    let inner : Al = record { row = B; laws = laws; g = ghosts; d = methods; drops = drops } in
    let T = ended inner in let hs = stayed inner in
    let c = f.clauses B ghosts methods drops 𝓛 𝓜.mem 𝓡.returns in
    let W = walk_of 𝓛 T hs c in
    let 𝓣 = tables 𝓤 𝓛.H 𝓜 𝓡 𝓡.env in
    let goes_word = Goes-dropped 𝓛 2 (plain (λ _. usize)) yes (λ κs x w. refl) in
    let goes_self = Goes-dropped 𝓛 2 (self_slot inner) yes (λ κs x w. refl) in
    proved 𝓛 T hs c 𝓜 𝓡 (goes_self, (goes_word, (goes_word, tt)))
    (f.Key.name (generics inner)) (body inner) (code.unfolded 𝓤 𝓛.H 𝓜 𝓡 wired (B, tt) methods drops)
    (λ κs. (shr_vals, (uint_vals w64, (uint_vals w64, tt))))
    (λ κs. ((λ r vs s. s.0), (uint_Tells w64, (uint_Tells w64, tt))))
    (λ κs qs bounds a τ are.
    let κ = κs.0 in let q = qs.0 in let long = κs.1.0 in let q_long = qs.1.0 in
    let r = a.0 in let n = a.1.0 in let m = a.1.1.0 in
    let fn = are.1.0.1 in let fm = are.1.1.0.1 in
    let place = inner_at inner r.ref_ptr in let ledger = ledger_at inner r.ref_ptr in let heap = r.now.inner in
    let y : W.Ghost =
    ((κs, qs, bounds, (r, (n, (m, tt))), (shr_vals r, (vint w64 n ∷ [], (vint w64 m ∷ [], tt)))), τ) in
    let Fits : Type 0 = (capped (size τ) ≡ n) × (capped (align τ) ≡ m) in
    -- the exit, with the answer `got`: [what comes with it; the two tokens]
    let leaves : (t : Bool) (b o : ℕ) (got : Answer.Denot)
    → ent 𝓤 (emp 𝓤) (sem 𝓛 (Answer.own_val got (answer_val t b o ∷ [])))
    → Sq 𝓛 (‵ (block_if_ok (token inner heap) τ got) ∷ ‵ (flft κ q) ∷ (‵ (flft long q_long) ⊛ ‵ ftrue) ∷ [])
    (prop (W.post y (answer_val t b o))) = λ t b o got owned.
    suffices ! _ (ends_at 𝓛 T hs c y (answer_val t b o) got (tt, (tt, (tt, tt))) (tt, (tt, (tt, tt)))) $
    use0 𝓛 (‵ (Answer.own_val got (answer_val t b o ∷ []))) owned $
    nothing ! $ nothing ! $ join ! $ nothing ! $ join ! $ nothing ! $ join ! $
    move ! (3 ∷ 4 ∷ 0 ∷ 1 ∷ []) $ join ! $ group ! 3 $ done ! in
    qed 𝓛 (((‵ (flft κ q) ⊛ ‵ (flft long q_long) ⊛ ‵ ftrue) ⊛ ‵ (owns (types_at T.signature.params κs) y.0.3 y.0.4))
    ∷ (raw (fact 𝓤 (long ⊑ B.lives)) ⊛ raw (fact 𝓤 Fits)) ∷ []) ∵
    move ! (1 ∷ []) $ split ! $ heard ! _ (λ outlived. heard ! _ (λ fits.
    split ! $ split ! $ move ! (2 ∷ []) $ fsplit ! $ fsplit ! $ move ! (1 ∷ []) $ unhide ! $ fsplit ! $ fsplit ! $
    use1 𝓛 (‵ (seen inner κ place heap)) (id⊢ 𝓤 _) $ move ! (1 ∷ []) $ fsplit ! $
    use1 𝓛 (‵ (hidden_shr Ledger κ (record { value = tt }) ledger.0 ledger.1)) (id⊢ 𝓤 _) $ keep ! (0 ∷ 6 ∷ 2 ∷ 7 ∷ []) $
    -- [the ledger; the token of κ; the inner allocator; the other token; the locals]
    enter ! _ _ _ _ _ $
    alloc_all ! (λ l. pass_all ! refl ((tt, tt), ((tt, record { fits = fn }), ((tt, record { fits = fm }), tt))) $
    sets ! (addr ! (through ! refl (fld ! refl (stop !)))) refl (tt, tt) $
    let G = Asks 𝓛 𝓜.mem 𝓡.returns in
    let z : G.Ghost = at_asks 𝓛 𝓜.mem 𝓡.returns κ q ledger n in
    use2 𝓛 (raw (G.pre z)) (asks-handed 𝓛 𝓜.mem 𝓡.returns κ q ledger n fn) $
    calls_at ! (framed 𝓤 𝓛.H 𝓜 𝓣) G
    (is_refused.met 𝓤 𝓛 𝓜 𝓡 (code.calls-session_tests::fault_injection::allocator::is_refused 𝓡.env wired)) z
    (and_then ! (get ! refl) (and_then ! (get ! refl) (no_more !))) (λ v.
    use1 𝓛 (later (some (λ (t : Bool). given (v ≡ vbool t) (‵ (flft κ q)))))
    (asks-said 𝓛 𝓜.mem 𝓡.returns κ q ledger n v) $
    await ! tt $ pick ! (λ refused. learn ! (λ is_refused. lands_as ! is_refused refl (tt, tt) $
    -- [the token of κ; the inner allocator; the other token; the locals]
    first ! $ branches ! (get ! refl)
    (λ yes. sets ! (agg ! (no_more !)) refl (tt, tt) $
    sets ! (agg ! (and_then ! (lit ! tt) (and_then ! (get ! refl) (no_more !)))) refl (Answer-typed false 0 0) $
    returns_within ! (W.post y) refl (look_at ! 0 refl) $ free_all ! refl $ keep ! (0 ∷ 2 ∷ []) $
    nothing ! $ leaves false 0 0 (Err (record {})) (Answer-err 𝓛))
    (λ no. skips ! $ exec ! 𝓣.C 𝓣.Λ (env (body inner).locals l) (after 3 (body inner).body) (at_ret _ (W.post y)) $
    sets ! (addr ! (through ! refl (fld ! refl (stop !)))) refl (tt, tt) $ move ! (1 ∷ 0 ∷ []) $
    let G' = Takes inner 𝓛 𝓜.mem 𝓡.returns in
    let z' : G'.Ghost = at_takes inner 𝓛 𝓜.mem 𝓡.returns κ q place heap n m τ in
    use2 𝓛 (raw (G'.pre z')) (Takes-goes inner 𝓛 𝓜.mem 𝓡.returns κ q place heap
    (⊑_trans κ long B.lives bounds.0 outlived) n m τ fits.0 fits.1 fn fm) $
    calls_at ! (framed 𝓤 𝓛.H 𝓜 𝓣) G' (met.allocate drops) z'
    (and_then ! (get ! refl) (and_then ! (get ! refl) (and_then ! (get ! refl) (no_more !)))) (λ w.
    use1 𝓛 (later (raw (Answered inner 𝓛 𝓜.mem 𝓡.returns heap τ w) ⊛ ‵ (flft κ q)))
    (Takes-gives inner 𝓛 𝓜.mem 𝓡.returns κ q place heap n m τ w) $
    await ! tt $ split ! $
    answers inner ! 𝓜.mem 𝓡.returns heap τ w
    (λ b o is_ok. fjoin ! $ lands_as ! is_ok refl (Answer-typed true b o) $ returns ! (look_at ! 0 refl) $
    free_all ! refl $
    leaves true b o (Ok (block_ptr b o)) (Answer-Ok 𝓛 b o))
    (λ is_err. lands_as ! is_err refl (Answer-typed false 0 0) $ returns ! (look_at ! 0 refl) $ free_all ! refl $
    nothing ! $ leaves false 0 0 (Err (record {})) (Answer-err 𝓛)))))))))))
