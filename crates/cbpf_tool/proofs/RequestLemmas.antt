-- The words of `why`, one after another.
use Rattle.std.proofs.Common.{◌≡◌, ℕ, ◌+◌, ◌-◌, ◌<◌, Bool, true, false, List, [], ◌∷◌, ◌++◌, map, length}
use Rattle.std.proofs.Common.{take, drop, get_or}
use Rattle.std.proofs.Common.{Some, None, refl, sym, ap, ◌∙◌, arith, length-drop, take_all, Global}
use Rattle.std.specs.Prelude.{find, String}
use Rattle.std.specs.List.{filter_map}
use Rattle.std.proofs.lemmas.List.{take-append-drop, map_more, map-append}
use Rattle.std.proofs.lemmas.List.Folds.{find-append}
use Rattle.std.proofs.lemmas.List.Sums.{fold-append}
use Rattle.std.proofs.lemmas.List.Elements.{filter_map-append}
use Rattle.cbpf_command_line.specs.CommandLine.{text_of}
use Rattle.cbpf_why.specs.declared.chosen.PacketRange.{PacketRange}
use Rattle.cbpf_dbg.specs.Values.{Values, no_values}
use Rattle.std.specs.Prelude.{IsSorted, suc}
use Rattle.std.proofs.Common.{Ordering, Less, Equal, Greater, add-one, is_lt, nat_cmp}
use Rattle.std.specs.Ordering.{ordering_then}
use Rattle.std.proofs.lemmas.Map.Keys.{ge_from_not_lt}
use Rattle.std.proofs.lemmas.List.Elements.{All-cons, All-nil, All-weaker}
use Rattle.cbpf_command_line.specs.CommandLine.{Asked, IsFaultOf}
use Rattle.cbpf_command_line.specs.RequestLine.{job, why, WhyAsked, requested_for, request_faults}
use Rattle.cbpf_command_line.specs.declared.job.LineFault.{LineFault}
use Rattle.cbpf_command_line.proofs.Requests.{fault-first}
use Rattle.std.specs.Cmp.{nat_cmp_is}
use Rattle.cbpf_why.specs.Chosen.{AreSorted, ComesFirst}
use Rattle.cbpf_tool.specs.Requests.{line_faults, why_faults}
use Rattle.std.specs.Prelude.{if◌then◌else◌}
use Rattle.cbpf_tool.specs.Requests.{value_in, with_given, values_by, packet_range}

-- the whole rest of a word
pub rest : (s : List ℕ) (n : ℕ) → take (length s - n) (drop n s) ≡ drop n s
rest s n = take_all _ _ (omega (arith, length-drop {A = ℕ}))

-- the words up to the next one
taken-more : (words : List (String Global)) (i : ℕ) (d : String Global) → i < length words
    → map text_of (take (i + 1) words) ≡ map text_of (take i words) ++ text_of (get_or words i d) ∷ []
taken-more words i d inside = map_more text_of words i d inside

module _ (p : List ℕ → Bool) where
  found-last : (front : List (List ℕ)) (word : List ℕ) (b : Bool) → find p front ≡ None → p word ≡ b
      → find p (front ++ word ∷ []) ≡ (if b then Some word else None)
  found-last front word true none e = find-append p front (word ∷ []) ∙ rw (none, e) refl
  found-last front word false none e = find-append p front (word ∷ []) ∙ rw (none, e) refl

  found-front : (front more : List (List ℕ)) (word : List ℕ) → find p front ≡ Some word
      → find p (front ++ more) ≡ Some word
  found-front front more word e = find-append p front more ∙ rw e refl

  module _ (words : List (String Global)) (i : ℕ) (d : String Global) (inside : i < length words)
      (before : find p (map text_of (take i words)) ≡ None) where
    -- no word yet passes the test
    pub none-yet : p (text_of (get_or words i d)) ≡ false → find p (map text_of (take (i + 1) words)) ≡ None
    none-yet e = ap (find p) (taken-more words i d inside) ∙ found-last _ _ false before e

    -- it is the first word that passes the test
    pub first-one : p (text_of (get_or words i d)) ≡ true
        → find p (map text_of words) ≡ Some (text_of (get_or words i d))
    first-one e =
        let here : find p (map text_of (take (i + 1) words)) ≡ Some (text_of (get_or words i d)) =
        ap (find p) (taken-more words i d inside) ∙ found-last _ _ true before e in
        let whole : map text_of (take (i + 1) words) ++ map text_of (drop (i + 1) words) ≡ map text_of words =
        sym (map-append text_of (take (i + 1) words) (drop (i + 1) words))
        ∙ ap (map text_of) (take-append-drop (i + 1) words) in
        ap (find p) (sym whole) ∙ found-front _ (map text_of (drop (i + 1) words)) _ here

-- one more word
pub values-more : (words : List (String Global)) (i : ℕ) (d : String Global) → i < length words
    → values_by (map text_of (take (i + 1) words))
    ≡ with_given (values_by (map text_of (take i words))) (value_in (text_of (get_or words i d)))
values-more words i d inside =
    let sets : Values → List ℕ → Values = λ values word. with_given values (value_in word) in
    ap values_by (taken-more words i d inside)
    ∙ fold-append sets no_values (map text_of (take i words)) (text_of (get_or words i d) ∷ [])

pub ranges-more : (words : List (String Global)) (i : ℕ) (d : String Global) (range : PacketRange) → i < length words
    → packet_range (text_of (get_or words i d)) ≡ Some range
    → filter_map packet_range (map text_of (take (i + 1) words))
    ≡ filter_map packet_range (map text_of (take i words)) ++ range ∷ []
ranges-more words i d range inside e =
    ap (filter_map packet_range) (taken-more words i d inside)
    ∙ filter_map-append packet_range (map text_of (take i words)) (text_of (get_or words i d) ∷ []) ∙ rw e refl

-- all words
pub whole : (words : List (String Global)) → take (length words) words ≡ words
whole words = take_all (length words) words (omega arith)

pub ruleset named = (none-yet, first-one, values-more, ranges-more, whole)

-- ---- sorted ranges

first-not-less : (o q : Ordering) → is_lt (ordering_then o q) ≡ false → is_lt o ≡ false
first-not-less Less q h = h
first-not-less Equal q h = refl
first-not-less Greater q h = refl

abbrev Rises : List PacketRange → Type 0
Rises xs = (k : ℕ) (d : PacketRange) → suc k < length xs → ComesFirst (get_or xs k d) (get_or xs (suc k) d)

rises-tail : (x : PacketRange) (xs : List PacketRange) → Rises (x ∷ xs) → Rises xs
rises-tail x xs h k d l = h (suc k) d (omega (arith, l))

before-both : (a b c : PacketRange) → ComesFirst a b → ComesFirst b c → ComesFirst a c
before-both a b c h k = (
  omega (arith, h.0, k.0),
  λ e.
      let one = h.1 (omega (arith, h.0, k.0, e)) in
      let other = k.1 (omega (arith, h.0, k.0, e)) in
      omega (arith, one, other),
)

sorted-rising : (xs : List PacketRange) → Rises xs → AreSorted xs
sorted-rising [] h = tt
sorted-rising (x ∷ []) h = (All-nil _, tt)
sorted-rising (x ∷ y ∷ xs) h =
    let rest : AreSorted (y ∷ xs) = sorted-rising (y ∷ xs) (rises-tail x (y ∷ xs) h) in
    let step : ComesFirst x y = h 0 x (omega arith) in (
      All-cons (ComesFirst x) y xs step
          (All-weaker (ComesFirst y) (ComesFirst x) (λ r l. before-both x y r step l) xs rest.0),
      rest,
    )

comes-first : (a b : PacketRange) → is_lt (ordering_then (nat_cmp b.first a.first) (nat_cmp b.last a.last)) ≡ false
    → ComesFirst a b
comes-first a b h = (
  ge_from_not_lt b.first a.first (first-not-less (nat_cmp b.first a.first) (nat_cmp b.last a.last) h),
  λ e. ge_from_not_lt b.last a.last (rw (← nat_cmp_is b.first a.first Equal (sym e)) at h),
)

pub sorted-ranges : (xs : List PacketRange)
    → IsSorted (λ a b. ordering_then (nat_cmp a.first b.first) (nat_cmp a.last b.last)) xs → AreSorted xs
sorted-ranges xs h = sorted-rising xs (λ k d l.
    let next : k + 1 < length xs = omega (arith, l) in
    rw (add-one k) at (comes-first (get_or xs k d) (get_or xs (k + 1) d) (h k d (omega arith) next)))

-- ---- faults of a command line

module _ (words : List (List ℕ)) where
  pub line-first : (fault : LineFault) → IsFaultOf (request_faults words) fault → IsFaultOf (line_faults words) fault
  unfolding line_faults
  line-first fault h = fault-first _ _ fault h

  pub none-of-job : (asked : Asked) → job asked ≡ requested_for words → request_faults words ≡ []
      → line_faults words ≡ []
  unfolding line_faults
  none-of-job asked e n = rw (n, ← e) refl

  module _ (asked : WhyAsked) (e : why asked ≡ requested_for words) (n : request_faults words ≡ []) where
    pub none-of-why : why_faults asked ≡ [] → line_faults words ≡ []
    unfolding line_faults
    none-of-why h = rw (n, ← e, h) refl

    pub fault-of-why : (fault : LineFault) → IsFaultOf (why_faults asked) fault → IsFaultOf (line_faults words) fault
    unfolding line_faults
    fault-of-why fault h = rw (n, ← e) h

pub ruleset lines = (line-first, none-of-job, none-of-why, fault-of-why)
