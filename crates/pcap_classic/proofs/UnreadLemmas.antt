-- Bytes that were read and not yet taken, and those that a reader has left after them.
use Rattle.std.proofs.Common.{◌≡◌, ℕ, ◌+◌, ◌-◌, ◌≤◌, List, ◌++◌, length, take, drop, arith, sym, ap, ◌∙◌}
use Rattle.std.proofs.Common.{Option, Some, None, length-take, drop-drop, append_assoc}
use Rattle.std.proofs.Math.Seq.{take-add}
use Rattle.std.specs.Prelude.{slice_range}
use Rattle.std.specs.Io.KnownBytes.{Keeps, Consumes, prepend_known}
use Rattle.std.proofs.lemmas.List.{drop-take}

-- a range without its first bytes
pub slice_range_after : (xs : List ℕ) (a e n : ℕ) → n ≤ length (slice_range xs a e)
    → slice_range xs (a + n) e ≡ drop n (slice_range xs a e)
slice_range_after xs a e n h =
    let inside : n ≤ e - a = omega (arith, h, length-take (e - a) (drop a xs)) in
    let whole : n + (e - (a + n)) ≡ e - a = omega (arith, inside) in
    ap (take (e - (a + n))) (sym (drop-drop n a xs))
    ∙ sym (drop-take n (e - (a + n)) (drop a xs))
    ∙ ap (λ k. drop n (take k (drop a xs))) whole

-- a read put bytes after the first ones
pub grown : (old buf : List ℕ) (len n : ℕ) → take len buf ≡ old → slice_range buf 0 (len + n) ≡ old ++ take n (drop len buf)
grown old buf len n e =
    let whole : len + n - 0 ≡ len + n = omega arith in
    rw whole (take-add len n buf ∙ ap (λ l. l ++ take n (drop len buf)) e)

-- what a read consumed went behind the bytes that were there
pub unread-grown : (a b : Option (List ℕ)) (old new got : List ℕ) → new ≡ old ++ got → Consumes a b got
    → Keeps (prepend_known old a) (prepend_known new b)
unread-grown None b old new got e k = tt
unread-grown (Some xs) None old new got e k = absurd k
unread-grown (Some xs) (Some ys) old new got e k =
    ap (λ l. l ++ ys) e ∙ append_assoc old got ys ∙ ap (λ l. old ++ l) (sym k)
