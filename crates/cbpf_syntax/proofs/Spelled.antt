-- A text that is written as segments, one for each piece, is cut into these pieces.
use Rattle.std.proofs.lemmas.Grind.{common_steps}
use Rattle.std.proofs.Common.{arith, rules, ◌≡◌, ℕ, ◌+◌, ◌^◌, ◌<◌, Bool, true, false, not, ◌&&◌, ◌||◌, List, [], ◌∷◌}
use Rattle.std.proofs.Common.{◌++◌, length, take, refl, ap, sym, subst, ◌∙◌, Some, append_assoc, append-nil}
use Rattle.std.proofs.Common.{length-append, eqb-true, lt-ltb}
use Rattle.std.specs.Prelude.{◌==◌, nat_lt}
use Rattle.std.specs.List.{list_all, fold, prefix_len, flat_map}
use Rattle.std.proofs.Math.Bool.{and-false, and-true, or-true}
use Rattle.std.proofs.lemmas.Bool.{agree_below, agree_below_at, and_from, and_parts, false_from_ne_true, not-true}
use Rattle.std.proofs.lemmas.Bool.{not_from_false, true≢false}
use Rattle.std.proofs.lemmas.List.{take_at, drop_at}
use Rattle.std.proofs.lemmas.List.Sums.{fold-append}
use Rattle.std.proofs.Math.Numerals.{one-add}
use Rattle.cbpf_syntax.specs.declared.token.Kind.TheVariants.{Word, Number, Mark}
use Rattle.cbpf_syntax.specs.declared.piece.PieceKind.TheVariants.{Blanks, TokenOf}
use Rattle.cbpf_syntax.specs.declared.piece.Lead.{Lead}
use Rattle.cbpf_syntax.specs.declared.piece.Lead.TheVariants.{Blank, Letter, Digit, Single}
use Rattle.cbpf_syntax.specs.declared.piece.Piece.{Piece}
use Rattle.cbpf_code.specs.WordTokens.{is_blank, is_digit}
use Rattle.cbpf_syntax.specs.Bytes.{is_letter, is_name_byte, is_mark}
use Rattle.cbpf_syntax.specs.Numbers.{number_value}
use Rattle.cbpf_syntax.specs.Pieces.{IsNext, IsPieceAt, IsCut, is_line_blank, numeral_kind}
use Rattle.cbpf_syntax.specs.Leads.{lead_of}
use Rattle.cbpf_syntax.specs.Tokens.{Lexes, tokens_of, is_good}
use Rattle.cbpf_syntax.proofs.Runs.{led_next}
use Rattle.cbpf_syntax.proofs.LeadTable.{blank_lead, number_of, same_lead}

-- a blank; a word by its first byte and the rest; a number in the same way, with its value; a mark
pub data Segment : Type 0 where
  blank : ℕ → Segment
  word : ℕ → List ℕ → Segment
  number : ℕ → List ℕ → ℕ → Segment
  mark : ℕ → Segment

abbrev pub bytes_of : Segment → List ℕ
bytes_of (blank b) = b ∷ []
bytes_of (word b bs) = b ∷ bs
bytes_of (number b bs n) = b ∷ bs
bytes_of (mark b) = b ∷ []

abbrev pub text_of : List Segment → List ℕ
text_of segments = flat_map bytes_of segments

abbrev pub piece_of : Segment → Piece
piece_of (blank b) = record { kind = Blanks; size = 1 }
piece_of (word b bs) = record { kind = TokenOf Word; size = 1 + length bs }
piece_of (number b bs n) = record { kind = TokenOf (Number n); size = 1 + length bs }
piece_of (mark b) = record { kind = TokenOf (Mark b); size = 1 }

abbrev pub pieces_of : List Segment → List Piece
pieces_of [] = []
pieces_of (s ∷ ss) = piece_of s ∷ pieces_of ss

-- a segment is what it says
abbrev pub IsSegment : Segment → Type 0
IsSegment (blank b) = (b < 256) × (is_blank b ≡ true)
IsSegment (word b bs) = (b < 256) × (is_letter b ≡ true) × (list_all is_name_byte bs ≡ true)
IsSegment (number b bs n) = (b < 256) × (is_digit b ≡ true) × (list_all is_name_byte bs ≡ true)
    × (number_value (b ∷ bs) ≡ Some n) × (n < 2 ^ 32)
IsSegment (mark b) = (b < 256) × (is_mark b ≡ true)

abbrev pub AreSegments : List Segment → Type 0
AreSegments [] = Unit {0}
AreSegments (s ∷ ss) = IsSegment s × AreSegments ss

-- the next segment, if there is one, does not go on with the one before
abbrev pub ends_name : List Segment → Bool
ends_name (word b bs ∷ ss) = false
ends_name (number b bs n ∷ ss) = false
ends_name x = true

abbrev pub ends_blank : List Segment → Bool
ends_blank (blank b ∷ ss) = false
ends_blank x = true

-- segments that stay apart after a line that is blank so far, or not: a test that computes on their kinds
abbrev pub stay_apart : Bool → List Segment → Bool
stay_apart fresh [] = true
stay_apart fresh (blank b ∷ ss) = ends_blank ss && stay_apart (b == 10 || fresh) ss
stay_apart fresh (word b bs ∷ ss) = ends_name ss && stay_apart false ss
stay_apart fresh (number b bs n ∷ ss) = ends_name ss && stay_apart false ss
stay_apart fresh (mark b ∷ ss) = not (fresh && b == 35) && stay_apart false ss

-- what holds of every number below n by a test that computes
pub holds_below : (n : ℕ) (p : ℕ → Bool) (b : ℕ) → agree_below p (λ k. true) n ≡ true → b < n → p b ≡ true
holds_below n p b e l = agree_below_at p (λ k. true) n b e l

pub implied : (a c : Bool) → (not a || c) ≡ true → a ≡ true → c ≡ true
implied true c e h = e
implied false c e h = cc

-- what the first byte of a piece says, where each byte that passes the test says the same
abbrev says : Bool → (ℕ → Bool) → Lead → ℕ → Bool
says fresh p lead c = not (p c) || number_of (lead_of fresh c) == number_of lead

lead_by : (fresh : Bool) (p : ℕ → Bool) (lead : Lead) (b : ℕ)
    → agree_below (says fresh p lead) (λ k. true) 256 ≡ true → b < 256 → p b ≡ true → lead_of fresh b ≡ lead
lead_by fresh p lead b e l h = same_lead (lead_of fresh b) lead
    (implied (p b) _ (holds_below 256 (says fresh p lead) b e l) h)

-- where that holds on any line
lead_any : (fresh : Bool) (p : ℕ → Bool) (lead : Lead) (b : ℕ) → agree_below (says true p lead) (λ k. true) 256 ≡ true
    → agree_below (says false p lead) (λ k. true) 256 ≡ true → b < 256 → p b ≡ true → lead_of fresh b ≡ lead
lead_any true p lead b e f l h = lead_by true p lead b e l h
lead_any false p lead b e f l h = lead_by false p lead b f l h

lead_mark : (fresh : Bool) (b : ℕ) → b < 256 → is_mark b ≡ true → (fresh && b == 35) ≡ false
    → lead_of fresh b ≡ Single
unfolding lead_of
lead_mark true b l h f = lead_by true (λ c. is_mark c && not (c == 35)) Single b refl l
    (and_from (is_mark b) (not (b == 35)) h (not_from_false (b == 35) f))
lead_mark false b l h f = lead_by false is_mark Single b refl l h

-- the run of a list that passes whole, before what does not
run_before : (p : ℕ → Bool) (bs rest : List ℕ) → list_all p bs ≡ true → prefix_len p rest ≡ 0
    → prefix_len p (bs ++ rest) ≡ length bs
run_before p [] rest a e = e
run_before p (b ∷ bs) rest a e = let q : (p b ≡ true) × (list_all p bs ≡ true) = and_parts (p b) _ a in
    rw (q.0, run_before p bs rest q.1 e, one-add) refl

-- no byte passes both tests
not_both : (p q : ℕ → Bool) (b : ℕ) → agree_below (λ c. not (p c && q c)) (λ k. true) 256 ≡ true → b < 256
    → p b ≡ true → q b ≡ false
not_both p q b e l h =
    not-true (q b) (let t : not (p b && q b) ≡ true = holds_below 256 (λ c. not (p c && q c)) b e l in rw h at t)

name_ends : (ss : List Segment) → AreSegments ss → ends_name ss ≡ true → prefix_len is_name_byte (text_of ss) ≡ 0
name_ends ss h1 h2 = search (rules, not_both)

blank_ends : (ss : List Segment) → AreSegments ss → ends_blank ss ≡ true → prefix_len is_blank (text_of ss) ≡ 0
blank_ends ss h1 h2 = search (rules, not_both)

segment_next : (fresh : Bool) (s : Segment) (ss : List Segment) → IsSegment s → AreSegments ss
    → stay_apart fresh (s ∷ ss) ≡ true → IsNext fresh (bytes_of s ++ text_of ss) (piece_of s)
unfolding lead_of
segment_next fresh (blank b) ss a ok k =
    let e : prefix_len is_blank (text_of ss) ≡ 0 = blank_ends ss ok (and_parts (ends_blank ss) _ k).0 in
    rw e at (led_next fresh b (text_of ss) Blank (blank_lead fresh b a.1))
segment_next fresh (word b bs) ss a ok k =
    let e = run_before is_name_byte bs (text_of ss) a.2 (name_ends ss ok (and_parts (ends_name ss) _ k).0) in
    rw e at (led_next fresh b (bs ++ text_of ss) Letter (lead_any fresh is_letter Letter b refl refl a.0 a.1))
segment_next fresh (number b bs n) ss a ok k =
    let e = run_before is_name_byte bs (text_of ss) a.2 (name_ends ss ok (and_parts (ends_name ss) _ k).0) in
    let t : take (length bs) (bs ++ text_of ss) ≡ bs = take_at bs (text_of ss) (length bs) refl in
    let f : nat_lt n (2 ^ 32) ≡ true = lt-ltb n (2 ^ 32) a.4 in
    let next :
    IsNext fresh (b ∷ (bs ++ text_of ss)) (record { kind = numeral_kind (b ∷ bs); size = 1 + length bs }) =
    rw (e, t) at (led_next fresh b (bs ++ text_of ss) Digit (lead_any fresh is_digit Digit b refl refl a.0 a.1)) in
    let v : numeral_kind (b ∷ bs) ≡ TokenOf (Number n) = rw (a.3, f) refl in
    subst (λ q. IsNext fresh (b ∷ (bs ++ text_of ss)) (record { kind = q; size = 1 + length bs })) v next
segment_next fresh (mark b) ss a ok k = led_next fresh b (text_of ss) Single
    (lead_mark fresh b a.0 a.1 (not-true (fresh && b == 35) (and_parts (not (fresh && b == 35)) _ k).0))

-- whether the line is blank after a segment
abbrev after : Bool → ℕ → Bool
after fresh b = b == 10 || (fresh && is_blank b)

-- a byte of a class without the newline
not_newline : (p : ℕ → Bool) (b : ℕ) → p 10 ≡ false → p b ≡ true → (b == 10) ≡ false
not_newline p b none h = false_from_ne_true (b == 10) (λ e. true≢false (sym h ∙ ap p (eqb-true b 10 e) ∙ none))

names_not_blank : (bs : List ℕ) → list_all is_name_byte bs ≡ true → fold after false bs ≡ false
names_not_blank [] a = refl
names_not_blank (b ∷ bs) a =
    let q : (is_name_byte b ≡ true) × (list_all is_name_byte bs ≡ true) = and_parts (is_name_byte b) _ a in
    rw (not_newline is_name_byte b refl q.0, names_not_blank bs q.1) refl

name_after : (fresh : Bool) (b : ℕ) (bs : List ℕ) → is_name_byte b ≡ true → is_blank b ≡ false
    → list_all is_name_byte bs ≡ true → fold after fresh (b ∷ bs) ≡ false
name_after fresh b bs h n a = rw (n, not_newline is_name_byte b refl h, and-false fresh, names_not_blank bs a) refl

letter_name : (b : ℕ) → is_letter b ≡ true → is_name_byte b ≡ true
letter_name b h = rw h refl

digit_name : (b : ℕ) → is_digit b ≡ true → is_name_byte b ≡ true
digit_name b h = rw (h, or-true (is_letter b)) refl

-- the segments after one more stay apart after its line
apart_after : (fresh : Bool) (s : Segment) (ss : List Segment) → IsSegment s → stay_apart fresh (s ∷ ss) ≡ true
    → stay_apart (fold after fresh (bytes_of s)) ss ≡ true
apart_after fresh s ss h1 h2 =
    grind (arith, common_steps, and-true, and_parts, name_after, letter_name, not_both, digit_name, not_newline, and-false)

length_piece : (s : Segment) → length (bytes_of s) ≡ (piece_of s).size
length_piece s = search (rules, one-add)

pub cut_spelled : (before : List ℕ) (ss : List Segment) → AreSegments ss → stay_apart (is_line_blank before) ss ≡ true
    → IsCut (before ++ text_of ss) (length before) (pieces_of ss) (length (before ++ text_of ss))
cut_spelled before [] a k = rw (append-nil before) refl
cut_spelled before (s ∷ ss) a k =
    let text : before ++ (bytes_of s ++ text_of ss) ≡ (before ++ bytes_of s) ++ text_of ss =
    sym (append_assoc before (bytes_of s) (text_of ss)) in
    let size = length-append before (bytes_of s) ∙ ap (λ n. length before + n) (length_piece s) in
    let flow = fold-append after true before (bytes_of s) in
    let k' : stay_apart (is_line_blank (before ++ bytes_of s)) ss ≡ true =
    rw flow (apart_after (is_line_blank before) s ss a.0 k) in
    let rest = cut_spelled (before ++ bytes_of s) ss a.1 k' in
    let here : IsPieceAt (before ++ (bytes_of s ++ text_of ss)) (length before) (piece_of s) = rw (
      take_at before (bytes_of s ++ text_of ss) (length before) refl,
      drop_at before (bytes_of s ++ text_of ss) (length before) refl,
    ) (segment_next (is_line_blank before) s ss a.0 a.1 k) in (
      here,
      subst (λ t. IsCut t (length before + (piece_of s).size) (pieces_of ss) (length t)) (sym text)
          (subst (λ n. IsCut ((before ++ bytes_of s) ++ text_of ss) n (pieces_of ss)
          (length ((before ++ bytes_of s) ++ text_of ss))) size rest),
    )

good_pieces : (ss : List Segment) → list_all (λ (p : Piece). is_good p.kind) (pieces_of ss) ≡ true
good_pieces [] = refl
good_pieces (blank b ∷ ss) = good_pieces ss
good_pieces (word b bs ∷ ss) = good_pieces ss
good_pieces (number b bs n ∷ ss) = good_pieces ss
good_pieces (mark b ∷ ss) = good_pieces ss

-- a text of segments has their tokens
pub lexes_spelled : (ss : List Segment) → AreSegments ss → stay_apart true ss ≡ true
    → Lexes (text_of ss) (tokens_of 0 (pieces_of ss))
lexes_spelled ss a k =
    record { pieces = pieces_of ss; cut = cut_spelled [] ss a k; good = good_pieces ss; spans = refl }
