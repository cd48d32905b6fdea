-- Reads one after another, up to the reader's end.
use Rattle.std.proofs.Common.{◌≡◌, ℕ, List, [], ◌++◌, Option, Some, None, append_assoc, append-nil, ◌∙◌, ap, sym, refl}
use Rattle.std.specs.Io.KnownBytes.{Consumes, IsAtEnd}

-- nothing is read
pub consumes-none : (left : Option (List ℕ)) → Consumes left left []
consumes-none None = tt
consumes-none (Some xs) = refl

-- two reads, one after the other
pub consumes-then : (old mid new : Option (List ℕ)) (xs ys : List ℕ) → Consumes old mid xs → Consumes mid new ys
    → Consumes old new (xs ++ ys)
consumes-then None mid new xs ys h k = tt
consumes-then (Some os) None new xs ys h k = absurd h
consumes-then (Some os) (Some ms) None xs ys h k = absurd k
consumes-then (Some os) (Some ms) (Some ns) xs ys h k =
    h ∙ ap (λ (l : List ℕ). xs ++ l) k ∙ sym (append_assoc xs ys ns)

-- at the end all bytes were read
pub consumes-all : (old new : Option (List ℕ)) (text xs : List ℕ) → Consumes old new xs → IsAtEnd new
    → old ≡ Some text → xs ≡ text
consumes-all None new text xs h k e = absurd (cc)
consumes-all (Some os) None text xs h k e = absurd h
consumes-all (Some os) (Some ns) text xs h k e =
    let same : os ≡ text = cc in
    sym (append-nil xs) ∙ ap (λ (l : List ℕ). xs ++ l) (sym k) ∙ sym h ∙ same
