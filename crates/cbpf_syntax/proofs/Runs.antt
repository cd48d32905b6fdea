-- The piece at the front of a text, by its first byte.
use Rattle.std.proofs.Common.{◌≡◌, ℕ, zero, suc, ◌+◌, ◌-◌, ◌<◌, ◌≤◌, Bool, true, false, not, cond, List, [], ◌∷◌, length}
use Rattle.std.proofs.Common.{take, refl, ap, ◌∙◌, arith, Some, None, length-take-le, take-take}
use Rattle.std.proofs.Common.{Option, eqb-true, inl, inr}
use Rattle.std.proofs.Math.Numerals.{one-add}
use Rattle.std.specs.Prelude.{◌==◌, nat_le}
use Rattle.std.specs.List.{list_all, prefix_len}
use Rattle.cbpf_syntax.specs.declared.piece.Piece.{Piece}
use Rattle.cbpf_syntax.specs.declared.piece.PieceKind.{PieceKind}
use Rattle.cbpf_syntax.specs.declared.piece.PieceKind.TheVariants.{Blanks, Comment, TokenOf, Bad}
use Rattle.cbpf_syntax.specs.declared.token.Kind.TheVariants.{Word, Mark}
use Rattle.cbpf_code.specs.WordTokens.{is_blank}
use Rattle.cbpf_syntax.specs.Bytes.{is_name_byte}
use Rattle.cbpf_syntax.specs.Pieces.{IsNext, piece_kind, led_kind, slash_kind, only_if, numeral_kind, alone, has_close}
use Rattle.cbpf_syntax.specs.Pieces.{close_after, comment_piece, slash_piece}
use Rattle.cbpf_syntax.specs.Leads.{lead_of}
use Rattle.cbpf_syntax.proofs.Comments.{close_taken, close_within}
use Rattle.cbpf_syntax.specs.declared.token.BadPiece.TheVariants.{NoToken, OpenComment}
use Rattle.cbpf_syntax.specs.declared.piece.Lead.{Lead}
use Rattle.cbpf_syntax.specs.declared.piece.Lead.TheVariants.{Blank, LineComment, Letter, Digit, Slash, Single, Other}
use Rattle.std.proofs.lemmas.List.Sums.{prefix_len-le-length, prefix_len_stops}
use Rattle.std.proofs.lemmas.List.Folds.{list_all_at}
use Rattle.std.proofs.lemmas.Bool.{cases_Bool}
use Rattle.std.proofs.lemmas.Bool.Decides.{nat_tests}
use Rattle.std.proofs.lemmas.List.{get_or-take}

-- the run that prefix_len finds passes, and no longer one does
pub run_whole : (p : ℕ → Bool) (bs : List ℕ) → list_all p (take (prefix_len p bs) bs) ≡ true
run_whole p [] = refl
run_whole p (b ∷ bs) = elim (cases_Bool (p b)) [
  | inl e ↦ rw (e, one-add) (rw (e, run_whole p bs) refl)
  | inr e ↦ rw e refl
]

pub run_longer : (p : ℕ → Bool) (bs : List ℕ) (n : ℕ) → n ≤ length bs → prefix_len p bs < n
    → list_all p (take n bs) ≡ false
run_longer p bs n w l = list_all_at p (take n bs) (prefix_len p bs) 0 (omega (arith, length-take-le n bs w))
    (rw (get_or-take n bs (prefix_len p bs) 0 l) (prefix_len_stops p bs 0 (omega arith)))

two-add : (n : ℕ) → 2 + n ≡ suc (suc n)
two-add n = omega arith

-- A text whose first byte decides that it begins with a run of p after it, of one kind.
module _ (fresh : Bool) (p : ℕ → Bool) (kind : List ℕ → PieceKind) (b : ℕ) (bs : List ℕ)
    (decides : (cs : List ℕ) → piece_kind fresh (b ∷ cs) ≡ only_if (list_all p cs) (kind cs)) where
  longest_run : (n : ℕ) → suc (prefix_len p bs) < n → n ≤ suc (length bs) → piece_kind fresh (take n (b ∷ bs)) ≡ None
  longest_run zero l w = absurd (omega arith)
  longest_run (suc n) l w =
      decides (take n bs) ∙ ap (λ t. only_if t (kind (take n bs))) (run_longer p bs n (omega arith) (omega arith))

  pub run_next :
      IsNext fresh (b ∷ bs) (record { kind = kind (take (prefix_len p bs) bs); size = 1 + prefix_len p bs })
  run_next = rw one-add (record {
    within = omega (arith, prefix_len-le-length p bs);
    kind =
        decides (take (prefix_len p bs) bs) ∙ ap (λ t. only_if t (kind (take (prefix_len p bs) bs))) (run_whole p bs);
    longest = longest_run;
  })

-- a byte that is a piece by itself alone
alone_next : (fresh : Bool) (kind : PieceKind) (b : ℕ) (bs : List ℕ)
    → ((cs : List ℕ) → piece_kind fresh (b ∷ cs) ≡ alone cs kind)
    → IsNext fresh (b ∷ bs) (record { kind = kind; size = 1 })
alone_next fresh kind b bs d = record { within = omega arith; kind = d []; longest = longer bs }
  where
    longer : (bs : List ℕ) (n : ℕ) → 1 < n → n ≤ suc (length bs) → piece_kind fresh (take n (b ∷ bs)) ≡ None
    longer (c ∷ cs) (suc (suc n)) l w = d (c ∷ take n cs)
    longer bs n l w = absurd (omega arith)

-- A `/`: what comes after it decides.
module _ (fresh : Bool) (b : ℕ) (e : lead_of fresh b ≡ Slash) where
  slashed : (cs : List ℕ) → piece_kind fresh (b ∷ cs) ≡ slash_kind cs
  slashed cs = ap (λ l. led_kind l b cs) e

  -- a comment that ends at the first `*/` after `/*`
  comment_next : (bs : List ℕ) (n : ℕ) → close_after false bs ≡ Some n
      → IsNext fresh (b ∷ 42 ∷ bs) (record { kind = Comment; size = 2 + n })
  comment_next bs n h =
      let w = close_within false bs n h in
      let some = closed 0 in
      let none : nat_le n (n - 1) ≡ false = grind (arith, nat_tests, some) in
      rw (two-add n) (record {
        within = omega arith;
        kind = cut n (omega arith) w ∙ ap (λ t. only_if (not t) Comment) none;
        longest = longer;
      })
    where
      closed : (m : ℕ) → has_close (take m bs) ≡ nat_le n m
      closed m = rw h at (close_taken bs m)

      cut : (m : ℕ) → n ≤ m → m ≤ length bs
          → piece_kind fresh (b ∷ 42 ∷ take m bs) ≡ only_if (not (nat_le n (m - 1))) Comment
      cut m l w =
          let has : nat_le n m ≡ true = grind (arith, nat_tests) in
          let shorter = take-take (m - 1) m bs (omega arith) in
          slashed (42 ∷ take m bs) ∙ rw (closed m, has, length-take-le m bs w, shorter, closed (m - 1)) refl

      longer : (m : ℕ) → suc (suc n) < m → m ≤ suc (suc (length bs)) → piece_kind fresh (take m (b ∷ 42 ∷ bs)) ≡ None
      longer (suc (suc m)) l w =
          let has : nat_le n (m - 1) ≡ true = grind (arith, nat_tests) in
          cut m (omega arith) (omega arith) ∙ ap (λ t. only_if (not t) Comment) has
      longer m l w = absurd (omega arith)

  -- an open comment, which is all of the text
  open_next : (bs : List ℕ) → close_after false bs ≡ None
      → IsNext fresh (b ∷ 42 ∷ bs) (record { kind = Bad OpenComment; size = 2 + length bs })
  open_next bs h = rw (two-add (length bs)) (record {
    within = omega arith;
    kind = slashed (42 ∷ take (length bs) bs) ∙ rw (close_taken bs (length bs), h) refl;
    longest = λ n l w. absurd (omega arith);
  })

  by_close : (bs : List ℕ) (o : Option ℕ) → close_after false bs ≡ o
      → IsNext fresh (b ∷ 42 ∷ bs) (comment_piece o (length bs))
  by_close bs None h = open_next bs h
  by_close bs (Some n) h = comment_next bs n h

  -- one without a `*` after it
  lone_slash : (bs : List ℕ) → ((n : ℕ) → 0 < n → n ≤ length bs → slash_kind (take n bs) ≡ None)
      → IsNext fresh (b ∷ bs) (record { kind = Bad NoToken; size = 1 })
  lone_slash bs other = record { within = omega arith; kind = slashed []; longest = longer }
    where
      longer : (n : ℕ) → 1 < n → n ≤ suc (length bs) → piece_kind fresh (take n (b ∷ bs)) ≡ None
      longer zero l w = absurd (omega arith)
      longer (suc n) l w = slashed (take n bs) ∙ other n (omega arith) (omega arith)

  slash_next : (bs : List ℕ) → IsNext fresh (b ∷ bs) (slash_piece bs)
  slash_next [] = lone_slash [] (λ n l w. absurd (omega (arith, l, w)))
  slash_next (c ∷ cs) = by_star (c == 42) refl
    where
      by_star : (t : Bool) → (c == 42) ≡ t → IsNext fresh (b ∷ c ∷ cs)
          (cond t (comment_piece (close_after false cs) (length cs)) (record { kind = Bad NoToken; size = 1 }))
      by_star true h = rw (eqb-true c 42 h) (by_close cs (close_after false cs) refl)
      by_star false h = lone_slash (c ∷ cs) none
        where
          none : (n : ℕ) → 0 < n → n ≤ suc (length cs) → slash_kind (take n (c ∷ cs)) ≡ None
          none zero l w = absurd (omega arith)
          none (suc n) l w = rw h refl

-- the next piece, by what the first byte says
abbrev pub led_piece : Lead → ℕ → List ℕ → Piece
led_piece Blank b bs = record { kind = Blanks; size = 1 + prefix_len is_blank bs }
led_piece LineComment b bs = record { kind = Comment; size = 1 + prefix_len (λ c. not (c == 10)) bs }
led_piece Letter b bs = record { kind = TokenOf Word; size = 1 + prefix_len is_name_byte bs }
led_piece Digit b bs = record {
  kind = numeral_kind (b ∷ take (prefix_len is_name_byte bs) bs);
  size = 1 + prefix_len is_name_byte bs;
}
led_piece Slash b bs = slash_piece bs
led_piece Single b bs = record { kind = TokenOf (Mark b); size = 1 }
led_piece Other b bs = record { kind = Bad NoToken; size = 1 }

-- what the first byte says finds the next piece
pub led_next : (fresh : Bool) (b : ℕ) (bs : List ℕ) (lead : Lead) → lead_of fresh b ≡ lead
    → IsNext fresh (b ∷ bs) (led_piece lead b bs)
led_next fresh b bs Blank e = run_next fresh is_blank (λ _. Blanks) b bs (λ cs. ap (λ l. led_kind l b cs) e)
led_next fresh b bs LineComment e =
    run_next fresh (λ c. not (c == 10)) (λ _. Comment) b bs (λ cs. ap (λ l. led_kind l b cs) e)
led_next fresh b bs Letter e =
    run_next fresh is_name_byte (λ _. TokenOf Word) b bs (λ cs. ap (λ l. led_kind l b cs) e)
led_next fresh b bs Digit e =
    run_next fresh is_name_byte (λ cs. numeral_kind (b ∷ cs)) b bs (λ cs. ap (λ l. led_kind l b cs) e)
led_next fresh b bs Slash e = slash_next fresh b e bs
led_next fresh b bs Single e = alone_next fresh (TokenOf (Mark b)) b bs (λ cs. ap (λ l. led_kind l b cs) e)
led_next fresh b bs Other e = alone_next fresh (Bad NoToken) b bs (λ cs. ap (λ l. led_kind l b cs) e)
