-- Writes one after another.
use Rattle.std.proofs.Common.{◌≡◌, ◌+◌, ◌-◌, ◌≤◌, List, [], ◌++◌, take, drop, ◌<◌, sym, ◌∙◌, ap, None, Some, Ok, Err}
use Rattle.std.proofs.Common.{ℕ, get_or, length, length-drop, take_all, append_assoc, append-nil, arith, Option, Result}
use Rattle.std.specs.Io.KnownBytes.{Appends, Keeps}
use Rattle.std.proofs.lemmas.List.{take-append-drop, take_more}
use Rattle.std.proofs.lemmas.Grind.{flat_map-append}
use Rattle.std.specs.List.{flat_map}
use Rattle.std.specs.Result.{IsErr}
use Rattle.std.proofs.Math.Seq.{take-add}
use Rattle.cbpf_code.specs.Writing.{Appended, AppendedPart, Wrote}

appends-then : (u v w : Option (List ℕ)) (a b : List ℕ) → Appends u v a → Appends v w b → Appends u w (a ++ b)
appends-then None v w a b x y = tt
appends-then (Some xs) None w a b x y = absurd x
appends-then (Some xs) (Some ys) None a b x y = y
appends-then (Some xs) (Some ys) (Some zs) a b x y = y ∙ ap (λ (t : List ℕ). t ++ b) x ∙ append_assoc xs a b

pub appended-nil : (u : Option (List ℕ)) → Appended u u []
unfolding Appended
appended-nil None = tt
appended-nil (Some xs) = sym (append-nil xs)

pub appended-kept : (u v w : Option (List ℕ)) (a : List ℕ) → Appended u v a → Keeps v w → Appended u w a
unfolding Appended
appended-kept None v w a x y = tt
appended-kept (Some xs) None w a x y = absurd x
appended-kept (Some xs) (Some ys) None a x y = absurd y
appended-kept (Some xs) (Some ys) (Some zs) a x y = y ∙ x

pub appended-by : (u v w : Option (List ℕ)) (a b : List ℕ) → Appended u v a → Appends v w b → Appended u w (a ++ b)
unfolding Appended
appended-by u v w a b x y = appends-then u v w a b x y

pub appended-then : (u v w : Option (List ℕ)) (a b : List ℕ) → Appended u v a → Appended v w b → Appended u w (a ++ b)
unfolding Appended
appended-then u v w a b x y = appends-then u v w a b x y

pub part-more : (u v : Option (List ℕ)) (a b : List ℕ) → AppendedPart u v a → AppendedPart u v (a ++ b)
unfolding AppendedPart
part-more u v a b x = (x.0, x.1 ++ b, sym (append_assoc x.0 x.1 b) ∙ ap (λ (t : List ℕ). t ++ b) x.2, x.3)

pub part-then : (u v w : Option (List ℕ)) (a b : List ℕ) → Appended u v a → AppendedPart v w b
    → AppendedPart u w (a ++ b)
unfolding Appended AppendedPart
part-then u v w a b x y =
    (a ++ y.0, y.1, append_assoc a y.0 y.1 ∙ ap (λ (t : List ℕ). a ++ t) y.2, appends-then u v w a y.0 x y.3)

-- what was appended so far is a part of the whole
pub part-take : (u v : Option (List ℕ)) (n : ℕ) (text : List ℕ) → Appended u v (take n text) → AppendedPart u v text
unfolding Appended AppendedPart
part-take u v n text x = (take n text, drop n text, take-append-drop n text, x)

pub take-len-drop : (text : List ℕ) (at : ℕ) → take (length text - at) (drop at text) ≡ drop at text
take-len-drop text at = take_all _ _ (omega (arith, length-drop at text))

-- `write(&text[at..])` took n bytes
pub stepped : (u v w : Option (List ℕ)) (text : List ℕ) (at n : ℕ) → at + n ≤ length text
    → Appended u v (take at text) → Appends v w (take n (take (length text - at) (drop at text)))
    → Appended u w (take (at + n) text)
stepped u v w text at n h x y = grind (arith, take-add, appended-by, take-len-drop)

pub err-exit : {X E : Type 0} (u w : Option (List ℕ)) (a : List ℕ) (r : Result X E) → IsErr r → AppendedPart u w a
    → Wrote u w r a
err-exit u w a (Ok y) e h = absurd (cc)
err-exit u w a (Err y) e h = h

-- ---- a loop that writes the text of each element
pub flat-more : {X : Type 0} (f : X → List ℕ) (xs : List X) (i : ℕ) (d : X) → i < length xs
    → flat_map f (take (i + 1) xs) ≡ flat_map f (take i xs) ++ f (get_or xs i d)
flat-more f xs i d l = rw (take_more xs i d l, flat_map-append, append-nil (f (get_or xs i d)))

pub part-front : {X : Type 0} (f : X → List ℕ) (xs : List X) (n : ℕ) (u w : Option (List ℕ))
    → AppendedPart u w (flat_map f (take n xs)) → AppendedPart u w (flat_map f xs)
part-front f xs n u w part = rw (← take-append-drop n xs, flat_map-append) (part-more u w _ _ part)

pub loop-next : {X : Type 0} (f : X → List ℕ) (xs : List X) (i : ℕ) (d : X) (u v w : Option (List ℕ)) → i < length xs
    → Appended u v (flat_map f (take i xs)) → Appended v w (f (get_or xs i d))
    → Appended u w (flat_map f (take (i + 1) xs))
loop-next f xs i d u v w l x y = rw (flat-more f xs i d l) (appended-then u v w _ _ x y)

pub loop-stop : {X : Type 0} (f : X → List ℕ) (xs : List X) (i : ℕ) (d : X) (u v w : Option (List ℕ)) → i < length xs
    → Appended u v (flat_map f (take i xs)) → AppendedPart v w (f (get_or xs i d)) → AppendedPart u w (flat_map f xs)
loop-stop f xs i d u v w l x y = part-front f xs (i + 1) u w (rw (flat-more f xs i d l) (part-then u v w _ _ x y))

pub loop-done : {X : Type 0} (f : X → List ℕ) (xs : List X) (n : ℕ) (u v : Option (List ℕ)) → length xs ≤ n
    → Appended u v (flat_map f (take n xs)) → Appended u v (flat_map f xs)
loop-done f xs n u v l x = rw (← take_all n xs l) x

pub ruleset loops = (appended-nil, loop-next, loop-stop, loop-done)

-- a call at the end: its result is the caller's
pub wrote-then : {A E : Type 0} (u v w : Option (List ℕ)) (a b : List ℕ) (r : Result A E) → Appended u v a
    → Wrote v w r b → Wrote u w r (a ++ b)
wrote-then u v w a b (Ok z) x y = appended-then u v w a b x y
wrote-then u v w a b (Err z) x y = part-then u v w a b x y

-- the first `write` took n bytes, and the rest was written after it
pub rest-wrote : {A E : Type 0} (u v w : Option (List ℕ)) (text : List ℕ) (n : ℕ) (r : Result A E)
    → Appended u v (take n text) → Wrote v w r (take (length text - n) (drop n text)) → Wrote u w r text
rest-wrote u v w text n r x y = grind (arith, take-append-drop, wrote-then, take-len-drop)

-- ---- two calls, one after the other

pub first-failed : {A E : Type 0} (u v : Option (List ℕ)) (a b : List ℕ) (r : Result A E) → IsErr r
    → AppendedPart u v a → Wrote u v r (a ++ b)
first-failed u v a b r e h = err-exit u v (a ++ b) r e (part-more u v a b h)

pub ruleset pairs = (first-failed, wrote-then)

pub ruleset three = (first-failed, wrote-then, part-more, part-then, appended-then)

pub ruleset steps = (appended-nil, part-take, stepped)
