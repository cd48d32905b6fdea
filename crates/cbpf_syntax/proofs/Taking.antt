-- What is known of the lexemes of a text, of which some were taken and some are read ahead.
use Rattle.std.proofs.lemmas.Grind.{common_steps}
use Rattle.std.proofs.Common.{rules, ◌≡◌, ℕ, zero, suc, ◌+◌, ◌-◌, ◌<◌, ◌≤◌, true, List, [], ◌∷◌, ◌++◌, length, map}
use Rattle.std.proofs.Common.{take, drop, refl, arith, ap, sym, ◌∙◌, inl, inr, subst, append_assoc, append-nil}
use Rattle.std.proofs.Common.{length-append, length-drop, get_or, Option, Some, None}
use Rattle.std.proofs.lemmas.List.{take-append-drop, take-append-le, map-append, length-map}
use Rattle.std.proofs.lemmas.List.{length-take-le, take_rest, get_or-take}
use Rattle.std.specs.Prelude.{slice_get, IfSome, IfNone, option_map}
use Rattle.std.proofs.lemmas.Option.{slice_get-map, slice_get-get_or}
use Rattle.std.specs.List.{copy_within}
use Rattle.std.proofs.lemmas.List.Edits.{take-paste}
use Rattle.std.proofs.lemmas.Bool.{and_parts, cases_lt}
use Rattle.cbpf_syntax.specs.declared.token.Token.{Token}
use Rattle.cbpf_syntax.specs.TokenReading.{IsNextToken, HasNoMore}
use Rattle.cbpf_syntax.proofs.Outcomes.{lexes_on}
use Rattle.cbpf_syntax.specs.declared.lexeme.Lexeme as declared_lexeme
use Rattle.cbpf_syntax.specs.declared.reader.Step.{Step}
use Rattle.cbpf_syntax.specs.declared.reader.Step.TheVariants.{Label, Instruction, Stuck as stuck_step}
use Rattle.cbpf_syntax.specs.Lexemes.{Symbol, Lexeme, lexemes_of, token_lexeme, AreLexemes, AreLexemesTo}
use Rattle.cbpf_syntax.specs.Lexemes.Symbol.{word}
use Rattle.cbpf_syntax.specs.Classes.Class.{the_word, name}
use Rattle.cbpf_syntax.specs.Table.{Row}
use Rattle.cbpf_syntax.specs.Fits.{fits}
use Rattle.cbpf_syntax.specs.Items.{Item}
use Rattle.cbpf_syntax.proofs.Fronts.{fits_front}
use Rattle.cbpf_syntax.proofs.Readings.{classes_of, fits_so_far}
use Rattle.cbpf_syntax.proofs.Refused.{next_some, large_within, large_number}
use Rattle.cbpf_syntax.specs.Views.{lexeme_of, row_of}
use Rattle.cbpf_syntax.specs.Steps.{Goes, IsNextItem, Stuck, starts_with_label}
use Rattle.cbpf_syntax.specs.Refusals.{symbol_at, is_large_at, IsLargeNegative, IsPositionOf}
use Rattle.std.proofs.lemmas.List.{append_cancel_left}
use Rattle.cbpf_syntax.specs.Ahead.{Ahead, HasTaken, MayRemain, IsStepOf, step_len, StartsWithWord, IsFirstLarge}
use Rattle.cbpf_syntax.proofs.Ahead.{next_more, stuck_more, label_more}

-- the tokens that were read are the first of the whole text's
pub ahead_is : (text : List ℕ) (at : ℕ) (us ts : List Lexeme) → AreLexemesTo text at us → AreLexemes text ts
    → (rest : List Lexeme) × (ts ≡ us ++ rest) × (at ≡ length text → rest ≡ [])
ahead_is text at us ts a t =
    let r = lexes_on text at a.tokens t.tokens a.lexed t.lexed in
    let rest = lexemes_of text r.0 in (
      rest,
      t.are ∙ (ap (λ vs. lexemes_of text vs) r.1
          ∙ (map-append (token_lexeme text) a.tokens r.0 ∙ ap (λ vs. vs ++ rest) (sym a.are))),
      (λ e. ap (λ vs. lexemes_of text vs) (r.2 e)),
    )

-- what follows the tokens that were taken, in a text that has them all
pub remains : (text : List ℕ) (taken : List Lexeme) (a : Ahead) (ts : List Lexeme) → HasTaken taken a → a.text ≡ text
    → AreLexemes text (taken ++ ts) → MayRemain a ts
remains text taken a ts r same t =
    let all = ahead_is a.text a.to _ _ r.read (rw (← same) at t) in (
      all.0,
      append_cancel_left taken ts (map lexeme_of a.tokens ++ all.0)
          (all.1 ∙ append_assoc taken (map lexeme_of a.tokens) all.0),
      λ e. all.2 (r.end e),
    )

-- one more token is read
pub ahead_more : (text : List ℕ) (at to : ℕ) (taken ahead : List Lexeme) (token : Token)
    → AreLexemesTo text at (taken ++ ahead) → IsNextToken text at to token
    → AreLexemesTo text to (taken ++ (ahead ++ (token_lexeme text token ∷ [])))
ahead_more text at to taken ahead token a next =
    let more = token_lexeme text token ∷ [] in
    record {
      tokens = a.tokens ++ (token ∷ []);
      lexed = next.more a.tokens a.lexed;
      are = sym (append_assoc taken ahead more) ∙ (ap (λ us. us ++ more) a.are
          ∙ sym (map-append (token_lexeme text) a.tokens (token ∷ [])));
    }

pub ahead_none : (text : List ℕ) → AreLexemesTo text 0 []
ahead_none text = record { tokens = []; lexed = search rules; are = refl }

-- no more token is there
pub ahead_end : (text : List ℕ) (at : ℕ) (ts : List Lexeme) → HasNoMore text at → AreLexemesTo text at ts
    → AreLexemes text ts
ahead_end text at ts none a = record { tokens = a.tokens; lexed = none a.tokens a.lexed; are = a.are }

-- a step over the tokens ahead is one over all, where a token follows it or none is left
pub step_more : (ws rest : List Lexeme) (s : Option Step) → IsStepOf ws s → step_len s < length ws
    → IsStepOf (ws ++ rest) s
step_more ws rest None h l = let z : length ws ≡ 0 = ap length h in absurd (omega (arith, z, l))
step_more ws rest (Some Label) h l = label_more ws rest h
step_more ws rest (Some (Instruction row)) h l =
    let n : ℕ = suc (length row.operand.now) in
    let e = take-append-le (suc (length row.operand.now)) ws rest (omega (arith, l)) in
    subst (λ (us : List Lexeme). IsNextItem (ws ++ rest) (suc (length row.operand.now))
    (record { labels = []; row = row_of row; body = us })) (sym e) (next_more (suc (length row.operand.now)) ws rest
    (record { labels = []; row = row_of row; body = take (suc (length row.operand.now)) ws }) (omega (arith, l)) h)
step_more ws rest (Some (stuck_step n)) h l = stuck_more n ws rest l h

pub step_all : (ws rest : List Lexeme) (s : Option Step) → IsStepOf ws s → rest ≡ [] → IsStepOf (ws ++ rest) s
step_all ws rest s h e = subst (λ us. IsStepOf us s) (sym (ap (λ us. ws ++ us) e ∙ append-nil ws)) h

-- What stands at an index of two lists, one after the other.
module _ (us vs : List Lexeme) where
  get_left : (k : ℕ) → k < length us → slice_get (us ++ vs) k ≡ slice_get us k
  get_left k l = by_list us k l
    where
      by_list : (us : List Lexeme) (k : ℕ) → k < length us → slice_get (us ++ vs) k ≡ slice_get us k
      by_list [] k l = absurd (omega (arith, l))
      by_list (u ∷ us) zero l = refl
      by_list (u ∷ us) (suc k) l = by_list us k (omega (arith, l))

  get_right : (k : ℕ) → slice_get (us ++ vs) (length us + k) ≡ slice_get vs k
  get_right k = by_list us
    where
      by_list : (us : List Lexeme) → slice_get (us ++ vs) (length us + k) ≡ slice_get vs k
      by_list [] = let e : 0 + k ≡ k = omega arith in rw e refl
      by_list (u ∷ us) = let e : suc (length us) + k ≡ suc (length us + k) = omega arith in rw e (by_list us)

  symbol_left : (k : ℕ) → k < length us → symbol_at (us ++ vs) k ≡ symbol_at us k
  symbol_left k l = ap (option_map (λ (t : Lexeme). t.symbol)) (get_left k l)

  symbol_right : (k : ℕ) → symbol_at (us ++ vs) (length us + k) ≡ symbol_at vs k
  symbol_right k = ap (option_map (λ (t : Lexeme). t.symbol)) (get_right k)

  pub place_left : (k at : ℕ) → k < length us → IsPositionOf us k at → IsPositionOf (us ++ vs) k at
  place_left k at l p = ap (option_map (λ (t : Lexeme). t.at)) (get_left k l) ∙ p

  pub place_right : (k at : ℕ) → IsPositionOf vs k at → IsPositionOf (us ++ vs) (length us + k) at
  place_right k at p = ap (option_map (λ (t : Lexeme). t.at)) (get_right k) ∙ p

  pub large_left : (k : ℕ) → k < length us → is_large_at (us ++ vs) k ≡ is_large_at us k
  large_left zero l = refl
  large_left (suc k) l = rw (symbol_left k (omega (arith, l)), symbol_left (suc k) l) refl

  large_next : (k : ℕ) → is_large_at (us ++ vs) (length us + suc k) ≡ is_large_at vs (suc k)
  large_next k =
      let next : length us + suc k ≡ suc (length us + k) = omega arith in
      rw next (rw (← next, symbol_right k, symbol_right (suc k)) refl)

  -- a word is no such number, so a `-` at the end of the first list has none after it
  large_word : (k : ℕ) → (0 < length vs → StartsWithWord vs) → IsLargeNegative (us ++ vs) (length us + k)
      → IsLargeNegative vs k
  large_word (suc k) w h = sym (large_next k) ∙ h
  large_word zero w h =
      let l = large_within (us ++ vs) (length us + 0) h in
      let first = w (omega (arith, l, length-append us vs)) in
      let number = large_number (us ++ vs) (length us + 0) h in
      let other = sym first.1 ∙ (sym (symbol_right 0) ∙ number.1) in
      cc

  large_right : (k : ℕ) → IsLargeNegative vs k → IsLargeNegative (us ++ vs) (length us + k)
  large_right zero h = cc
  large_right (suc k) h = large_next k ∙ h

  -- where the first list has none before an index, and the second none before another
  none_large : (0 < length vs → StartsWithWord vs) → ((k : ℕ) → IsLargeNegative us k → ⊥) → (n : ℕ)
      → ((k : ℕ) → k < n → IsLargeNegative vs k → ⊥) → (k : ℕ) → k < length us + n
      → IsLargeNegative (us ++ vs) k → ⊥
  none_large w before n none k l h = elim (cases_lt k (length us)) [
    | inl b ↦ before k (sym (large_left k b) ∙ h)
    | inr b ↦
        let d : k ≡ length us + (k - length us) = omega (arith, b) in
        none (k - length us) (omega (arith, l, b))
        (large_word (k - length us) w (subst (λ i. IsLargeNegative (us ++ vs) i) d h))
  ]

  pub large_on : (old new : Option ℕ) → (0 < length vs → StartsWithWord vs) → IsFirstLarge us old
      → IfSome old (λ at. new ≡ Some at) → IfNone old (IsFirstLarge vs new) → IsFirstLarge (us ++ vs) new
  large_on (Some at) new w h known found =
      let l : h.0 < length us = large_within us h.0 h.1 in
      subst (λ o. IsFirstLarge (us ++ vs) o) (sym known)
      (h.0, large_left h.0 l ∙ h.1, (λ k b g. h.2 k b (sym (large_left k (omega (arith, b, l))) ∙ g)), place_left h.0 at l h.3)
  large_on None None w h known found = λ k g.
      none_large w h (length vs) (λ i l. found i) k
      (omega (arith, large_within (us ++ vs) k g, length-append us vs)) g
  large_on None (Some at) w h known found = (
    length us + found.0,
    large_right found.0 found.1,
    none_large w h found.0 found.2,
    place_right found.0 at found.3,
  )

get_mapped : (ts : List declared_lexeme.Lexeme) (i : ℕ) (d : declared_lexeme.Lexeme) → i < length ts
    → slice_get (map lexeme_of ts) i ≡ Some (lexeme_of (get_or ts i d))
get_mapped ts i d l = slice_get-map lexeme_of ts i ∙ ap (option_map lexeme_of) (slice_get-get_or ts i d l)

pub place_mapped : (ts : List declared_lexeme.Lexeme) (i : ℕ) (d : declared_lexeme.Lexeme) → i < length ts
    → IsPositionOf (map lexeme_of ts) i (get_or ts i d).at
place_mapped ts i d l = ap (option_map (λ (t : Lexeme). t.at)) (get_mapped ts i d l)

-- what begins an item, and has a token, begins with a word
word_of : (w : List ℕ) (s : Symbol) → fits (the_word w) s ≡ true → (v : List ℕ) × (s ≡ word v)
word_of w s h1 = search (rules)

name_of : (s : Symbol) → fits name s ≡ true → (v : List ℕ) × (s ≡ word v)
name_of s h1 = search (rules)

front_word : (m : ℕ) (r : Row) (f : List Lexeme) → fits_front (classes_of m r) f ≡ true → 0 < length f
    → StartsWithWord f
front_word m r f h1 h2 = search (rules, word_of, and_parts, name_of)

goes_word : (n : ℕ) (ts : List Lexeme) → Goes n ts → 0 < n → StartsWithWord ts
goes_word n [] g l = absurd (omega (arith, g.within))
goes_word (suc n) (t ∷ ts) g l =
    let r = fits_so_far (t ∷ take n ts) g.begins in front_word r.count r.row (t ∷ take n ts) r.fits (omega arith)
goes_word zero ts g l = absurd (omega arith)

pub stuck_within : (n : ℕ) (ts : List Lexeme) → Stuck n ts → n ≤ length ts
stuck_within n ts s = s.goes.within

pub stuck_word : (n : ℕ) (ts : List Lexeme) → Stuck n ts → 0 < n → StartsWithWord ts
stuck_word n ts s l = goes_word n ts s.goes l

pub next_word : (ts : List Lexeme) (n : ℕ) (item : Item) → IsNextItem ts n item → StartsWithWord ts
next_word ts n item next = goes_word n ts next.goes (next_some ts n item next)

pub label_word : (ts : List Lexeme) → starts_with_label ts ≡ true → StartsWithWord ts
label_word [] h = cc
label_word (t ∷ ts) h = let v = name_of t.symbol (and_parts (fits name t.symbol) _ h).0 in (v.0, ap (λ s. Some s) v.1)

-- the tokens that stay where some are taken
pub kept_paste : (xs : List declared_lexeme.Lexeme) (n len : ℕ) → len ≡ length xs → n ≤ len
    → take (len - n) (copy_within xs n len 0) ≡ drop n xs
kept_paste xs n len h1 h2 = grind (arith, common_steps, take-paste, length-drop, take_rest)

taken_word : (n : ℕ) (window : List declared_lexeme.Lexeme) → (0 < n → StartsWithWord (map lexeme_of window))
    → 0 < length (map lexeme_of (take n window)) → StartsWithWord (map lexeme_of (take n window))
taken_word n window h1 h2 = search (rules)

-- n tokens more are taken of those ahead
module _ (taken : List Lexeme) (window : List declared_lexeme.Lexeme) (n : ℕ) (within : n ≤ length window) where
  pub taken_size : length (map lexeme_of (take n window)) ≡ n
  taken_size = length-map (take n window) lexeme_of ∙ length-take-le n window within

  pub taken_rest : (taken ++ map lexeme_of (take n window)) ++ map lexeme_of (drop n window)
      ≡ taken ++ map lexeme_of window
  taken_rest = append_assoc taken (map lexeme_of (take n window)) (map lexeme_of (drop n window))
      ∙ ap (λ us. taken ++ us) (sym (map-append lexeme_of (take n window) (drop n window))
      ∙ ap (λ us. map lexeme_of us) (take-append-drop n window))

  pub taken_large : (old new : Option ℕ) → (0 < n → StartsWithWord (map lexeme_of window)) → IsFirstLarge taken old
      → IfSome old (λ at. new ≡ Some at) → IfNone old (IsFirstLarge (map lexeme_of (take n window)) new)
      → IsFirstLarge (taken ++ map lexeme_of (take n window)) new
  taken_large old new w h known found =
      large_on taken (map lexeme_of (take n window)) old new (taken_word n window w) h known found

  pub taken_last : (d : declared_lexeme.Lexeme) → 0 < n
      → IsPositionOf (taken ++ map lexeme_of (take n window)) (length (taken ++ map lexeme_of (take n window)) - 1)
      (get_or (take n window) (n - 1) d).at
  taken_last d some =
      let i : length taken + (n - 1) ≡ length (taken ++ map lexeme_of (take n window)) - 1 =
      omega (arith, some, length-append taken (map lexeme_of (take n window)), taken_size) in
      subst (λ k. IsPositionOf (taken ++ map lexeme_of (take n window)) k (get_or (take n window) (n - 1) d).at) i
      (place_right taken (map lexeme_of (take n window)) (n - 1) _
      (place_mapped (take n window) (n - 1) d (omega (arith, some, length-take-le n window within))))

  pub taken_before : (d : declared_lexeme.Lexeme) → 0 < n
      → IsPositionOf (taken ++ map lexeme_of (take n window)) (length (taken ++ map lexeme_of (take n window)) - 1)
      (get_or window (n - 1) d).at
  taken_before d some = rw (get_or-take n window (n - 1) d (omega (arith, some))) at (taken_last d some)
