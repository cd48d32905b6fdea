-- From what a call of the session answered to the reply of the debugger.
use Rattle.std.proofs.Common.{◌≡◌, ◌⊎◌, inl, inr, refl, sym, ap, ◌∙◌, subst, ℕ, ◌<◌, List, length, Option, Some, None}
use Rattle.std.proofs.Common.{Result, Ok, Err}
use Rattle.std.specs.Prelude.{if◌then◌else◌, nat_lt, nat_eq, IsOk, Bool, true, false}
use Rattle.std.specs.Map.{lookup}
use Rattle.std.proofs.lemmas.Bool.{ltb-true}
use Rattle.cbpf_code.specs.Writing.{Wrote}
use Rattle.cbpf_code.specs.declared.insn.Insn.{Insn}
use Rattle.cbpf_dbg.specs.Commands.{Answer, reply_of, view_after, breakpoint_when, at_instruction}
use Rattle.cbpf_dbg.specs.View.{View}
use Rattle.cbpf_reply.specs.Breakpoints.{When}
use Rattle.cbpf_reply.specs.declared.reply.SessionFault.{SessionFault}
use Rattle.cbpf_reply.specs.declared.reply.SessionFault.TheVariants.{Memory, NoInstruction}
use Rattle.cbpf_reply.specs.Errors.{session_fault_text, memory_text}
use Rattle.cbpf_tool.proofs.FileLemmas.{none-counted}
use Rattle.cbpf_tool.specs.Progress.{Answered, Writes, Replies}
use Rattle.cbpf_tool.specs.Replies.{own, unheld}
use Rattle.cbpf_tool.specs.SessionReplies.{reply_to, reply_and_view, reply_text, HasInstruction}
use Rattle.cbpf_tool.specs.declared.command.Command.TheVariants.{Session}
use Rattle.cbpf_tool.specs.declared.command.SessionCommand.{SessionCommand}
use Rattle.cbpf_tool.specs.declared.command.SessionCommand.TheVariants.{Breakpoint}

-- a call that answered
pub reply-ok : {R X E : Type 0} (text : R → View → List ℕ) (m n : View) (a : Answer R) (x : R)
    (old new : Option (List ℕ)) (r : Result X E) → Ok x ≡ reply_of a → n ≡ view_after m a → Wrote old new r (text x n)
    → Writes (reply_and_view text m a) n (λ s. Wrote old new r s)
unfolding reply_and_view Writes
reply-ok text m n (Ok a) x old new r e v w =
    let k : x ≡ a.0 = cc in
    (v, subst (λ (y : _). Wrote old new r (text y a.1)) k (subst (λ (y : View). Wrote old new r (text x y)) v w))
reply-ok text m n (Err f) x old new r e v w = absurd (cc)

-- a call that refused
pub reply-err : {R X E : Type 0} (text : R → View → List ℕ) (m n : View) (a : Answer R) (f : SessionFault)
    (old new : Option (List ℕ)) (r : Result X E) → Err f ≡ reply_of a → n ≡ view_after m a
    → Wrote old new r (session_fault_text f) → Writes (reply_and_view text m a) n (λ s. Wrote old new r s)
unfolding reply_and_view Writes
reply-err text m n (Ok a) f old new r e v w = absurd (cc)
reply-err text m n (Err g) f old new r e v w = let k : f ≡ g = cc in
    (v, subst (λ (y : SessionFault). Wrote old new r (session_fault_text y)) k w)

-- a call that only asks
pub text-ok : {R X E : Type 0} (text : R → List ℕ) (a : Result R SessionFault) (x : R) (old new : Option (List ℕ))
    (r : Result X E) → Ok x ≡ a → Wrote old new r (text x) → Wrote old new r (reply_text text a)
unfolding reply_text
text-ok text (Ok y) x old new r e w = let k : x ≡ y = cc in subst (λ (z : _). Wrote old new r (text z)) k w
text-ok text (Err f) x old new r e w = absurd (cc)

pub text-err : {R X E : Type 0} (text : R → List ℕ) (a : Result R SessionFault) (f : SessionFault)
    (old new : Option (List ℕ)) (r : Result X E)
    → Err f ≡ a → Wrote old new r (session_fault_text f) → Wrote old new r (reply_text text a)
unfolding reply_text
text-err text (Ok y) f old new r e w = absurd (cc)
text-err text (Err g) f old new r e w = let k : f ≡ g = cc in
    subst (λ (z : SessionFault). Wrote old new r (session_fault_text z)) k w

-- the view that is named as the one after it
pub writes-view : {X E : Type 0} (text : List ℕ) (m n : View) (old new : Option (List ℕ)) (r : Result X E) → n ≡ m
    → Wrote old new r text → Writes (text, m) n (λ s. Wrote old new r s)
unfolding Writes
writes-view text m n old new r e w = (e, w)

-- a command's own reply
pub own-reply : (m n : View) (c : SessionCommand) (Written : List ℕ → Type 0) → Writes (reply_to c m) n Written
    → Replies m n c Written
unfolding Replies
own-reply m n c Written w = inl w

pub session-answered : (m n : View) (c : SessionCommand) (Written : List ℕ → Type 0) → Replies m n c Written
    → Answered m n (Session c) Written
unfolding Replies Writes
session-answered m n c Written (inl w) = λ files f. ((reply_to c m).0, own (none-counted f) (rw w.0 refl), w.1)
session-answered m n c Written (inr w) = λ files f. (memory_text, unheld (none-counted f) w.0 (rw w.1.0 refl), w.1.1)

-- ---- a breakpoint that is set

instruction-of : {R : Type 0} (p : Option (List Insn)) (k : ℕ) (m : View) (answer : Answer R) (x : R)
    → Ok x ≡ reply_of (at_instruction p k answer) → HasInstruction p k
instruction-of None k m answer x e = absurd (cc)
instruction-of (Some list) k m answer x e = go (nat_lt k (length list)) refl e
  where
    go : (b : Bool) → nat_lt k (length list) ≡ b → Ok x ≡ reply_of (if b then answer else Err NoInstruction)
        → k < length list
    go true h q = ltb-true k (length list) h
    go false h q = absurd (cc)

program-kept : (p : Option (List Insn)) (k : ℕ) (m : View) (a : Unit {0} × View) → a.1.program ≡ m.program
    → (view_after m (at_instruction p k (Ok a))).program ≡ m.program
program-kept None k m a e = refl
program-kept (Some list) k m a e = elim (nat_lt k (length list))
    as (λ b. (view_after m (if b then Ok a else Err NoInstruction)).program ≡ m.program) [ true ↦ e | false ↦ refl ]

pub set-at : (m n : View) (k : ℕ) (when : When) (x : Unit {0}) → Ok x ≡ reply_of (breakpoint_when m k when)
    → n ≡ view_after m (breakpoint_when m k when) → HasInstruction n.program k
set-at m n k when x e v =
    subst (λ p. HasInstruction p k) (sym (ap (λ (y : View). y.program) v ∙ program-kept m.program k m _ refl))
    (instruction-of m.program k m _ x e)

refused-view : {R : Type 0} (m : View) (a : Answer R) (f : SessionFault) → Err f ≡ reply_of a → view_after m a ≡ m
refused-view m (Ok a) f e = absurd (cc)
refused-view m (Err g) f e = refl

abbrev no_memory : Result (Unit {0}) SessionFault
no_memory = Err Memory

pub set-ok : (m : View) (k : ℕ) (when : When) (x : Unit {0})
    → (Ok x ≡ reply_of (breakpoint_when m k when)) ⊎ ((Ok x ≡ no_memory) × IsOk (breakpoint_when m k when))
    → Ok x ≡ reply_of (breakpoint_when m k when)
set-ok m k when x (inl e) = e
set-ok m k when x (inr h) = absurd (cc)

pub set-refused : {X E : Type 0} (m n : View) (k : ℕ) (when : When) (f : SessionFault) (old new : Option (List ℕ))
    (r : Result X E)
    → (Err f ≡ reply_of (breakpoint_when m k when)) ⊎ ((Err f ≡ no_memory) × IsOk (breakpoint_when m k when))
    → (Err f ≡ no_memory → lookup (nat_eq k) m.breakpoints ≡ None) → n ≡ m → Wrote old new r (session_fault_text f)
    → Replies m n (Breakpoint k when) (λ s. Wrote old new r s)
unfolding Replies
set-refused m n k when f old new r (inl e) absent v w =
    own-reply m n (Breakpoint k when) _ (reply-err _ m n (breakpoint_when m k when) f old new r e
    (v ∙ sym (refused-view m (breakpoint_when m k when) f e)) w)
set-refused m n k when f old new r (inr e) absent v w =
    let at : Err f ≡ no_memory = e.0 in
    let is : f ≡ Memory = cc in
    inr ((e.1, absent at), writes-view memory_text m n old new r v (subst (λ (g : SessionFault). Wrote old new r (session_fault_text g)) is w))

pub ruleset replies = (reply-ok, reply-err, text-ok, text-err, writes-view, own-reply)
