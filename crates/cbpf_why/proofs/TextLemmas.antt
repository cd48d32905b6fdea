-- A loop that writes the texts of 0, 1 and so on.
use Rattle.std.proofs.Common.{◌≡◌, ℕ, zero, suc, ◌+◌, ◌-◌, ◌<◌, List, [], ◌++◌, Option, Result, arith, refl, ap, ◌∙◌, append_assoc, append-nil}
use Rattle.cbpf_code.specs.Writing.{Appended, AppendedPart, Wrote}
use Rattle.cbpf_code.proofs.WrittenLemmas.{appended-nil, appended-then, part-then, part-more, wrote-then}
use Rattle.cbpf_reply.specs.Packet.{texts_from}

texts-add : (f : ℕ → List ℕ) (a m n : ℕ) → texts_from f a (m + n) ≡ texts_from f a m ++ texts_from f (a + m) n
texts-add f a zero n = grind arith
texts-add f a (suc m) n =
    let one : suc m + n ≡ suc (m + n) = omega arith in
    let next : a + suc m ≡ suc a + m = omega arith in
    rw (one, next, append_assoc, texts-add f (suc a) m n) refl

texts-one : (f : ℕ → List ℕ) (a : ℕ) → texts_from f a 1 ≡ f a
texts-one f a = append-nil (f a)

texts-more : (f : ℕ → List ℕ) (i : ℕ) → texts_from f 0 (i + 1) ≡ texts_from f 0 i ++ f i
texts-more f i = let zero-is : 0 + i ≡ i = omega arith in rw (texts-add f 0 i 1, zero-is, texts-one f i) refl

pub texts-init : (f : ℕ → List ℕ) (u : Option (List ℕ)) → Appended u u (texts_from f 0 0)
texts-init f u = appended-nil u

pub texts-next : (f : ℕ → List ℕ) (i : ℕ) (u v w : Option (List ℕ)) → Appended u v (texts_from f 0 i) → Appended v w (f i)
    → Appended u w (texts_from f 0 (i + 1))
texts-next f i u v w x y = rw (texts-more f i) (appended-then u v w _ _ x y)

pub texts-stop : (f : ℕ → List ℕ) (i n : ℕ) (u v w : Option (List ℕ)) → i < n → Appended u v (texts_from f 0 i)
    → AppendedPart v w (f i) → AppendedPart u w (texts_from f 0 n)
texts-stop f i n u v w l x y =
    let split : n ≡ (i + 1) + (n - (i + 1)) = omega (arith, l) in
    rw (split, texts-add f 0 (i + 1) (n - (i + 1)), texts-more f i) (part-more u w _ _ (part-then u v w _ _ x y))

pub texts-done : (f : ℕ → List ℕ) (i n : ℕ) (u v : Option (List ℕ)) → i ≡ n → Appended u v (texts_from f 0 i)
    → Appended u v (texts_from f 0 n)
texts-done f i n u v e x = rw (← e) x

pub ruleset texts = (texts-init, texts-next, texts-stop, texts-done)

-- the same texts
pub texts-same : (f g : ℕ → List ℕ) → ((i : ℕ) → f i ≡ g i) → (a n : ℕ) → texts_from f a n ≡ texts_from g a n
texts-same f g h a zero = refl
texts-same f g h a (suc n) = ap (λ t. t ++ texts_from f (suc a) n) (h a) ∙ ap (λ t. g a ++ t) (texts-same f g h (suc a) n)

-- two texts of a list of texts
pub wrote-both : {A E : Type 0} (u v w : Option (List ℕ)) (a b : List ℕ) (r : Result A E) → Appended u v a → Wrote v w r b
    → Wrote u w r (a ++ (b ++ []))
wrote-both u v w a b r x y = rw (append-nil b) (wrote-then u v w a b r x y)
