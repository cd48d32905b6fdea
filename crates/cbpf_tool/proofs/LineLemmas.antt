-- Lines and newlines.
use Rattle.std.proofs.Common.{◌≡◌, ℕ, ◌+◌, ◌<◌, ◌≤◌, Bool, true, false, eqb, List, [], ◌∷◌, ◌++◌, length, take}
use Rattle.std.proofs.Common.{take_all, length-take, length-drop, get_or, ◌-◌, drop, Option, Some, None, Result, Ok}
use Rattle.std.proofs.Common.{Err, MatchResult, append_assoc, append-nil, refl, sym, ◌∙◌, ap, arith, tests}
use Rattle.std.proofs.lemmas.List.Folds.{list_any-append, list_any_more}
use Rattle.std.specs.Io.KnownBytes.{Keeps, Consumes, IsAtEnd}
use Rattle.cbpf_tool.specs.Lines.{has_newline}
use Rattle.cbpf_tool.specs.LineReader.{unread, Took, Fills, TakesLine}
use Rattle.cbpf_tool.specs.declared.fault.ToolFault.{ToolFault}
use Rattle.cbpf_tool.specs.declared.fault.ToolFault.TheVariants.{Read}

pub plain-append : (l m : List ℕ) → has_newline l ≡ false → has_newline m ≡ false → has_newline (l ++ m) ≡ false
plain-append l m h k = list_any-append (λ b. eqb b 10) l m ∙ rw (h, k) refl

pub plain-next : (s : List ℕ) (i : ℕ) → i < length s → has_newline (take i s) ≡ false → (get_or s i 0 ≡ 10 → ⊥)
    → has_newline (take (i + 1) s) ≡ false
plain-next s i l h p =
    let other : eqb (get_or s i 0) 10 ≡ false = grind (arith, tests) in
    list_any_more (λ b. eqb b 10) s i 0 l ∙ rw (h, other) refl

pub plain-all : (s : List ℕ) (i : ℕ) → length s ≤ i → has_newline (take i s) ≡ false → has_newline s ≡ false
plain-all s i l h = rw (← take_all i s l) h

pub ruleset plains = (plain-next, plain-all)

-- ---- bytes that were read and not yet taken

pub nothing-pending : (chunk : List ℕ) (start end : ℕ) → end ≤ start → take (end - start) (drop start chunk) ≡ []
nothing-pending chunk start end h = let z : end - start ≡ 0 = omega (arith, h) in rw z refl

pub unread-read : (left left' : Option (List ℕ)) (p p' bytes : List ℕ) → p ≡ [] → unread p left ≡ Some bytes
    → Consumes left left' p' → unread p' left' ≡ Some bytes
unfolding unread
unread-read None left' p p' bytes n e k = absurd (cc)
unread-read (Some xs) None p p' bytes n e k = absurd k
unread-read (Some xs) (Some ys) p p' bytes n e k = ap Some (sym k) ∙ (rw n at e)

pub unread-kept : (left left' : Option (List ℕ)) (p p' bytes : List ℕ) → p ≡ [] → p' ≡ [] → unread p left ≡ Some bytes
    → Keeps left left' → unread p' left' ≡ Some bytes
unfolding unread
unread-kept None left' p p' bytes n m e k = absurd (cc)
unread-kept (Some xs) None p p' bytes n m e k = absurd k
unread-kept (Some xs) (Some ys) p p' bytes n m e k = rw m (ap Some k ∙ (rw n at e))

pub unread-end : (left left' : Option (List ℕ)) (p p' bytes : List ℕ) → p ≡ [] → p' ≡ [] → unread p left ≡ Some bytes
    → Consumes left left' p' → IsAtEnd left' → (bytes ≡ []) × (left' ≡ Some [])
unfolding unread
unread-end None left' p p' bytes n m e k z = absurd (cc)
unread-end (Some xs) None p p' bytes n m e k z = absurd k
unread-end (Some xs) (Some ys) p p' bytes n m e k z =
    let none : xs ≡ [] = k ∙ ap (λ (t : List ℕ). t ++ ys) m ∙ z in
    let same : Some xs ≡ Some bytes = (rw n at e) in
    let xb : xs ≡ bytes = cc in
    (sym xb ∙ none, ap Some z)

pub filled : (left left' : Option (List ℕ)) (p p' bytes : List ℕ) (r : Result Bool ToolFault) → p ≡ []
    → unread p left ≡ Some bytes → MatchResult r
    (λ more. Consumes left left' p' × (more ≡ false → (p' ≡ []) × IsAtEnd left')) (λ e. Keeps left left' × (p' ≡ []))
    → Fills bytes p' left' r
filled left left' p p' bytes (Ok true) n e h = unread-read left left' p p' bytes n e h.0
filled left left' p p' bytes (Ok false) n e h = let k = h.1 refl in unread-end left left' p p' bytes n k.0 e h.0 k.1
filled left left' p p' bytes (Err f) n e h = (unread-kept left left' p p' bytes n h.1 e h.0, h.1)

-- the first pending bytes are taken
pub took-more : (bytes p p' q line : List ℕ) (left : Option (List ℕ)) → Took bytes p left line → p ≡ q ++ p'
    → Took bytes p' left (line ++ q)
unfolding unread
took-more bytes p p' q line None t e = absurd (let h = t.known in cc)
took-more bytes p p' q line (Some xs) t e =
    let h : Some (p ++ xs) ≡ Some t.rest = t.known in
    let same : p ++ xs ≡ t.rest = cc in
    let front : t.rest ≡ q ++ (p' ++ xs) = sym same ∙ ap (λ (b : List ℕ). b ++ xs) e ∙ append_assoc q p' xs in
    record {
      rest = p' ++ xs;
      split = t.split ∙ ap (λ (r : List ℕ). line ++ r) front ∙ sym (append_assoc line q (p' ++ xs));
      known = refl;
    }

pub took-part : {bytes p p' line line' : List ℕ} {left : Option (List ℕ)} (part : List ℕ) → Took bytes p left line
    → p ≡ part ++ 10 ∷ p' → line' ≡ line ++ part → Took bytes p' left (line' ++ 10 ∷ [])
took-part {p = p} {p' = p'} {line = line} {left = left} part t e k =
    rw (k, append_assoc line part (10 ∷ [])) (took-more _ p p' (part ++ 10 ∷ []) line left t
    (e ∙ sym (append_assoc part (10 ∷ []) p')))

pub took-all : {bytes p p' line line' : List ℕ} {left : Option (List ℕ)} → Took bytes p left line → p' ≡ []
    → line' ≡ line ++ p → Took bytes p' left line'
took-all {p = p} {p' = p'} {line = line} {left = left} t n k =
    rw k (took-more _ p p' p line left t (rw (n, append-nil p) refl))

-- what is after the bytes that were taken is still there once more was read
pub took-filled : {bytes p p' line : List ℕ} {left left' : Option (List ℕ)} → (t : Took bytes p left line)
    → unread p' left' ≡ Some t.rest → Took bytes p' left' line
took-filled t e = record { rest = t.rest; split = t.split; known = e }

pub took-end : {bytes p line : List ℕ} {left : Option (List ℕ)} → (t : Took bytes p left line) → t.rest ≡ []
    → bytes ≡ line
took-end {line = line} t e = t.split ∙ ap (λ (r : List ℕ). line ++ r) e ∙ append-nil line

unread-some : (p r : List ℕ) (left : Option (List ℕ)) → 0 < length p → unread p left ≡ Some r → r ≡ [] → ⊥
unfolding unread
unread-some p r None h e n = cc
unread-some [] r (Some xs) h e n = absurd (omega (arith, h))
unread-some (b ∷ bs) r (Some xs) h e n = cc

-- a line has a byte that could not be held
pub took-some : {bytes p line : List ℕ} {left : Option (List ℕ)} → Took bytes p left line → 0 < length p
    → bytes ≡ [] → ⊥
took-some {p = p} {line = []} {left = left} t h e = unread-some p t.rest left h t.known (sym t.split ∙ e)
took-some {line = b ∷ bs} t h e = let f : (b ∷ bs) ++ t.rest ≡ [] = sym t.split ∙ e in cc

pub line-unfilled : {bytes p p' line : List ℕ} {left : Option (List ℕ)} (left' : Option (List ℕ)) (e : ToolFault)
    → Took bytes p left line → has_newline line ≡ false → e ≡ Read
    → ((rest : List ℕ) → unread p left ≡ Some rest → Fills rest p' left' (Err e))
    → TakesLine bytes p' left' line (Err e)
line-unfilled left' e t h n f = let k = f t.rest t.known in rw n (h, k.1, took-filled t k.0)

pub pending-some : (chunk : List ℕ) (start end : ℕ) → end ≤ length chunk → start < end
    → 0 < length (take (end - start) (drop start chunk))
pending-some chunk start end h l =
    omega (arith, length-take (end - start) (drop start chunk), length-drop start chunk)
