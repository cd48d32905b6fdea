use Rattle.std.proofs.Common.{◌≡◌, ◌≤◌, ◌<◌, ◌+◌, ◌-◌, ◌++◌, [], ℕ, Option, Some, None, refl, subst, sym, ap, ◌∙◌}
use Rattle.std.proofs.Common.{length, map, drop, take, List, arith, append-nil, append_assoc, length-append, get_or}
use Rattle.std.proofs.lemmas.List.{drop_all, drop_more}
use Rattle.std.specs.Prelude.{option_map, slice_get}
use Rattle.cbpf_syntax.specs.Ahead.{IsFirstLarge}
use Rattle.cbpf_syntax.specs.Refusals.{ItemsStuckAt, IsPositionOf, IsFirstRefusalAtPosition}
use Rattle.cbpf_syntax.specs.Refusals.ParseFault.{Misplaced, LargeNegative, Unfinished}
use Rattle.cbpf_syntax.specs.Lexemes.{Lexeme}
use Rattle.cbpf_syntax.specs.declared.lexeme.Lexeme as declared_lexeme
use Rattle.cbpf_syntax.specs.Views.{lexeme_of}
use Rattle.cbpf_syntax.proofs.Taking.{taken_size, taken_rest, taken_before, taken_large}
use Rattle.cbpf_syntax.proofs.FirstRefusal.{refused_large, refused_misplaced, refused_unfinished}
use Rattle.cbpf_syntax.proofs.reader.Reader.fault.Given.{Over}
use Rattle.cbpf_syntax.proofs.reader.Reader.fault.Goals.{After-first_large}
use Rattle.cbpf_syntax.proofs.reader.Reader.fault.Goals as goal

none_of : (o : Option ℕ) → ((x : ℕ) → o ≡ Some x → ⊥) → o ≡ None
none_of None h = refl
none_of (Some x) h = absurd (h x refl)

-- the tokens before the fault
abbrev before : List Lexeme → List declared_lexeme.Lexeme → ℕ → List Lexeme
before taken ahead n = taken ++ map lexeme_of (take n ahead)

-- Some tokens were taken, others stand ahead, of which n are before the fault, and a rest follows.
module _ (taken : List Lexeme) (ahead : List declared_lexeme.Lexeme) (n : ℕ) (within : n ≤ length ahead)
    (rest ts : List Lexeme) (e : ts ≡ map lexeme_of ahead ++ rest)
    (stuck : ItemsStuckAt (taken ++ ts) (length taken + n)) where
  abbrev after : List Lexeme
  after = map lexeme_of (drop n ahead) ++ rest

  parts : taken ++ ts ≡ before taken ahead n ++ after
  parts = ap (λ us. taken ++ us) e ∙ (sym (append_assoc taken (map lexeme_of ahead) rest)
      ∙ (ap (λ us. us ++ rest) (sym (taken_rest taken ahead n within))
      ∙ append_assoc (before taken ahead n) (map lexeme_of (drop n ahead)) rest))

  here : ItemsStuckAt (before taken ahead n ++ after) (length (before taken ahead n))
  here =
      let count : length taken + n ≡ length (before taken ahead n) =
      omega (arith, length-append taken (map lexeme_of (take n ahead)), taken_size taken ahead n within) in
      subst (λ i. ItemsStuckAt (before taken ahead n ++ after) i) count (rw parts at stuck)

  large : (at : ℕ) → IsFirstLarge (before taken ahead n) (Some at)
      → IsFirstRefusalAtPosition (taken ++ ts) LargeNegative at
  large at h = rw parts (refused_large (before taken ahead n) after at here h)

  misplaced : (d : declared_lexeme.Lexeme) → n < length ahead → IsFirstLarge (before taken ahead n) None
      → IsFirstRefusalAtPosition (taken ++ ts) Misplaced (get_or ahead n d).at
  misplaced d more none =
      let place : IsPositionOf (map lexeme_of (drop n ahead) ++ rest) 0 (get_or ahead n d).at =
      ap (λ us. option_map (λ (t : Lexeme). t.at) (slice_get (map lexeme_of us ++ rest) 0)) (drop_more ahead n d more) in
      rw parts (refused_misplaced (before taken ahead n) after _ place here none)

  unfinished : (at : ℕ) → n ≡ length ahead → rest ≡ [] → IsFirstLarge (before taken ahead n) None
      → (0 < length (before taken ahead n) → IsPositionOf (before taken ahead n) (length (before taken ahead n) - 1) at)
      → IsFirstRefusalAtPosition (taken ++ ts) Unfinished at
  unfinished at all end none place =
      let past : length ahead ≤ n = omega (arith, all) in
      let nothing : map lexeme_of (drop n ahead) ++ rest ≡ [] = rw (drop_all n ahead past, end) refl in
      rw parts (refused_unfinished (before taken ahead n) after at nothing place here none)

-- what stands ahead, and the first large literal before the fault
ahead_of : (g : Over) (c : After-first_large g)
    → (c.args.n ≤ length (drop c.self.inside.at c.self.inside.ahead.items))
    × (c.ahead-ahead.result.now ≡ drop c.self.inside.at c.self.inside.ahead.items)
    × ((taken : List Lexeme) → IsFirstLarge taken c.self.inside.large → (o : Option ℕ) → c.first_large.result ≡ o
    → IsFirstLarge (before taken (drop c.self.inside.at c.self.inside.ahead.items) c.args.n) o)
    × (length c.ahead-ahead.result.now ≤ c.args.n
    → c.args.n ≡ length (drop c.self.inside.at c.self.inside.ahead.items))
ahead_of g c =
    let s = c.self.inside in
    let within : c.args.n ≤ length (drop c.self.inside.at c.self.inside.ahead.items) =
    rw (← c.self.view_is) at c.requires.within in
    let window : c.ahead-ahead.result.now ≡ drop c.self.inside.at c.self.inside.ahead.items =
    rw (← c.self.view_is) at c.ahead-ahead.ensures in (
      within,
      window,
      (λ taken large o is. subst (λ p. IsFirstLarge (before taken (drop s.at s.ahead.items) c.args.n) p) is
          (taken_large taken (drop s.at s.ahead.items) c.args.n within s.large c.first_large.result
          (rw (← c.self.view_is) at c.requires.word) large c.first_large.ensures.known
          (rw window at c.first_large.ensures.new))),
      λ f. let past = rw window at f in omega (arith, past, within),
    )

pub returns-in-Some : goal.returns-in-Some
returns-in-Some g c =
    let k = ahead_of g (goal.at.returns-in-Some g c).After-first_large in
    rw (← c.self.view_is) (λ taken ts r may stuck.
    (LargeNegative, _, refl, large taken _ c.args.n k.0 may.0 ts may.1 stuck _ (k.2 taken r.large _ c.in-Some.is)))

pub returns-then-n-ahead : goal.returns-then-n-ahead
returns-then-n-ahead g c =
    let k = ahead_of g (goal.at.returns-then-n-ahead g c).After-first_large in
    let none = none_of c.first_large.result c.in_default.not-Some in
    let more : c.args.n < length (drop c.self.inside.at c.self.inside.ahead.items) = rw k.1 at c.if-n-ahead.true in
    rw (← c.self.view_is, k.1) (λ taken ts r may stuck. (
      Misplaced,
      _,
      refl,
      misplaced taken _ c.args.n k.0 may.0 ts may.1 stuck _ more (k.2 taken r.large _ none),
    ))

pub returns-then-n-gt0 : goal.returns-then-n-gt0
returns-then-n-gt0 g c =
    let s = c.self.inside in
    let k = ahead_of g (goal.at.returns-then-n-gt0 g c).After-first_large in
    let none = none_of c.first_large.result c.in_default.not-Some in
    let all = k.3 c.if-n-ahead.false in
    let ended = rw (← c.self.view_is) at c.requires.end in
    rw (← c.self.view_is, k.1) (λ taken ts r may stuck. (
      Unfinished,
      _,
      refl,
      unfinished taken _ c.args.n k.0 may.0 ts may.1 stuck _ all (may.2 (ended all)) (k.2 taken r.large _ none)
          (λ some. taken_before taken (drop s.at s.ahead.items) c.args.n k.0 _ c.if-n-gt0.true),
    ))

pub returns-else-n-gt0 : goal.returns-else-n-gt0
returns-else-n-gt0 g c =
    let s = c.self.inside in
    let k = ahead_of g (goal.at.returns-else-n-gt0 g c).After-first_large in
    let none = none_of c.first_large.result c.in_default.not-Some in
    let all = k.3 c.if-n-ahead.false in
    let zero_n : c.args.n ≡ 0 = let f = c.if-n-gt0.false in omega (arith, f) in
    let ended = rw (← c.self.view_is) at c.requires.end in
    rw (← c.self.view_is) (λ taken ts r may stuck.
    let same : before taken (drop s.at s.ahead.items) c.args.n ≡ taken =
    ap (before taken (drop s.at s.ahead.items)) zero_n ∙ append-nil taken in (
      Unfinished,
      _,
      refl,
      unfinished taken _ c.args.n k.0 may.0 ts may.1 stuck s.last all (may.2 (ended all)) (k.2 taken r.large _ none)
          (rw same r.last),
    ))
