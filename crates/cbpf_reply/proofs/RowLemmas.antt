-- Rows one before another in a text, and texts one after another.
use Rattle.std.proofs.Common.{◌≡◌, ℕ, zero, suc, ◌+◌, ◌-◌, ◌<◌, ◌≤◌, List, ◌++◌, Option, length, take, drop, min}
use Rattle.std.proofs.Common.{refl, arith, append_assoc, append-nil, take_all, length-drop}
use Rattle.std.proofs.lemmas.List.Sums.{prefix_len-drop_all, prefix_len-drop_no, prefix_len-drop_yes}
use Rattle.cbpf_code.specs.Writing.{Appended}
use Rattle.cbpf_code.proofs.WrittenLemmas.{appended-nil}
use Rattle.cbpf_reply.proofs.TextLeftLemmas.{Left, left-first}
use Rattle.cbpf_reply.specs.Packet.{texts_from}
use Rattle.cbpf_reply.specs.declared.packet.TheConstants.{ROW}

-- a row is put before those after it
pub texts-before : (f : ℕ → List ℕ) (r to : ℕ) (old line new : List ℕ) → 0 < r → r ≤ to
    → line ≡ texts_from f r (to - r) ++ old → new ≡ f (r - 1) ++ line
    → new ≡ texts_from f (r - 1) (to - (r - 1)) ++ old
texts-before f r to old line new z l e n = grind (arith, append_assoc)

-- none is put yet
pub texts-none : (f : ℕ → List ℕ) (to : ℕ) (old : List ℕ) → old ≡ texts_from f to (to - to) ++ old
texts-none f to old = grind arith

texts-add : (f : ℕ → List ℕ) (a m n : ℕ) → texts_from f a (m + n) ≡ texts_from f a m ++ texts_from f (a + m) n
texts-add f a zero n = grind arith
texts-add f a (suc m) n =
    let one : suc m + n ≡ suc (m + n) = omega arith in
    let next : a + suc m ≡ suc a + m = omega arith in
    rw (one, next, append_assoc, texts-add f (suc a) m n) refl

-- the rows from a on are those before b, and those from b on
pub rows-split : (f : ℕ → List ℕ) (a b n : ℕ) (end : List ℕ) → a ≤ b → b ≤ n
    → texts_from f a (n - a) ++ end ≡ texts_from f a (b - a) ++ (texts_from f b (n - b) ++ end)
rows-split f a b n end l m = grind (arith, append_assoc, texts-add f a (b - a) (n - b))

-- the text of i, and those after it
pub texts-next : (f : ℕ → List ℕ) (i n : ℕ) → i < n
    → texts_from f i (n - i) ≡ f i ++ texts_from f (i + 1) (n - (i + 1))
texts-next f i n l = grind arith

pub texts-end : (f : ℕ → List ℕ) (i n : ℕ) (text : List ℕ) (u v : Option (List ℕ)) → n ≤ i
    → Left u v (texts_from f i (n - i)) text → Appended u v text
texts-end f i n text u v b l = let whole : l.front ≡ text = grind (arith, append-nil) in rw (← whole) l.written

pub row-taken : (s : List ℕ) (at e : ℕ) → e ≡ min (length s) (at + ROW)
    → take (e - at) (drop at s) ≡ take ROW (drop at s)
row-taken s at e h = grind (arith, take_all, length-drop)

pub ruleset rows = (append-nil, texts-none, texts-end, left-first)

-- how far a run goes, one slot after another
pub ruleset runs = (prefix_len-drop_all, prefix_len-drop_no, prefix_len-drop_yes, appended-nil)
