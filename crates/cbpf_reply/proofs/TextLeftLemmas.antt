-- A text that several calls write: what of it is left.
use Rattle.std.proofs.Common.{◌≡◌, ℕ, List, ◌++◌, Option, Result, refl, append_assoc}
use Rattle.std.specs.Result.{IsErr}
use Rattle.cbpf_code.specs.Writing.{Appended, AppendedPart, Wrote}
use Rattle.cbpf_code.proofs.WrittenLemmas.{appended-then, first-failed, wrote-then}

-- from `old` to `now` the text was written but for `rest`
pub record Left (old now : Option (List ℕ)) (rest text : List ℕ) : Type 0 where
  pub front : List ℕ
  pub whole : front ++ rest ≡ text
  pub written : Appended old now front

pub left-first : (u v : Option (List ℕ)) (a rest : List ℕ) → Appended u v a → Left u v rest (a ++ rest)
left-first u v a rest x = record { front = a; whole = refl; written = x }

-- of what was left, which is `a` and `rest`, `a` is written, or a part of it
pub left-next : (u v w : Option (List ℕ)) (both a rest text : List ℕ) → both ≡ a ++ rest → Left u v both text
    → Appended v w a → Left u w rest text
left-next u v w both a rest text e l x = record {
  front = l.front ++ a;
  whole = cc (append_assoc l.front a rest);
  written = appended-then u v w l.front a l.written x;
}

pub left-last : {A E : Type 0} (u v w : Option (List ℕ)) (rest text : List ℕ) (r : Result A E) → Left u v rest text
    → Wrote v w r rest → Wrote u w r text
left-last u v w rest text r l x = rw (← l.whole) (wrote-then u v w l.front rest r l.written x)

pub left-stop : {A E : Type 0} (u v w : Option (List ℕ)) (both a rest text : List ℕ) (r : Result A E) → IsErr r
    → both ≡ a ++ rest → Left u v both text → AppendedPart v w a → Wrote u w r text
left-stop u v w both a rest text r f e l x = left-last u v w both text r l (rw e (first-failed v w a rest r f x))
