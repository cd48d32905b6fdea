-- Words that don't name `why` are parsed as by the command without it.
use Rattle.std.proofs.Common.{◌≡◌, ℕ, Bool, true, false, ◌||◌, List, [], ◌∷◌, ◌++◌, Option, Some, None, option_map}
use Rattle.std.proofs.Common.{fold, bytes_eq, codes}
use Rattle.std.proofs.Common.{ap, ap₂, refl, sym, ◌∙◌, subst, ◌⊎◌, inl, inr}
use Rattle.clap.specs.Walk.{Walk, Waiting, idle, option, positional, walk, walked, walk_from, answers_to, after_step}
use Rattle.clap.specs.Walk.{Names, Text, Held, subcommand_met, subcommand_or_other, nothing_held}
use Rattle.clap.specs.Simple.{Shape, built, names_of, argument_words, entered, label_of, rows_at, subcommand_of}
use Rattle.clap.specs.Faults.{walk_fault, turn_fault, other_fault, step_fault, level_fault, entered_fault}
use Rattle.clap.specs.Faults.{fault_of}
use Rattle.clap.specs.Faults.{settle_fault, defaults_fault, check_fault}
use Rattle.clap.specs.Walk.{settled, finished}
use Rattle.std.specs.Option.{option_map_or}
use Rattle.clap.specs.Kinds.{Kinds, or_else}
use Rattle.std.proofs.lemmas.Slice.Eq.{bytes_eq-Decides}
use Rattle.std.specs.Prelude.{find, is_some, IfOk, IfErr, Result, Ok, Err}
use Rattle.cbpf_command_line.specs.CommandLine.{app_without_why, asked_by, asked_for, faults_in, IsFaultOf}
use Rattle.cbpf_command_line.specs.declared.job.LineFault.{LineFault}
use Rattle.cbpf_command_line.specs.declared.request.RequestWords.{RequestWords}
use Rattle.cbpf_command_line.specs.RequestLine.{cbpf_app, job, is_why, requested_by, requested_for, conflict_by}
use Rattle.cbpf_command_line.specs.RequestLine.{request_faults}
use Rattle.cbpf_command_line.specs.RequestLine.{names_why, AnswersAsWithoutWhy, request_meaning}

-- two walks of a command's words, of which the second knows one name more
module _ (s : Shape) (plain wide : Names) (more : Text)
    (met : (waiting : Waiting) (word : Text) → (subcommand_met wide waiting word ≡ subcommand_met plain waiting word)
    ⊎ (subcommand_met wide waiting word ≡ Some more)) where
  -- a step is the same, or it comes to that name
  abbrev Steps : Walk → Text → Type 0
  Steps w word = ((walked s.rules wide w word ≡ walked s.rules plain w word)
      × (turn_fault s wide w word ≡ turn_fault s plain w word))
      ⊎ ((walked s.rules wide w word).stopped ≡ Some (more, []))

  step-at : (h : Held) (waiting : Waiting) (position : ℕ) (trailing : Bool) (stopped : Option (Text × List Text))
      (word : Text)
      → Steps (record {
        held = h;
        waiting = waiting;
        position = position;
        is_trailing = trailing;
        stopped = stopped;
      }) word
  unfolding walked
  step-at h waiting position trailing (Some p) word = inl (refl, refl)
  step-at h waiting position true None word = inl (refl, refl)
  step-at h waiting position false None word =
      let w : Walk = record { held = h; waiting = waiting; position = position; is_trailing = false; stopped = None } in
      let goes : Option Text → Walk = λ m.
      after_step s.rules word w (subcommand_or_other s.rules m waiting position word h).0
      (subcommand_or_other s.rules m waiting position word h).1 in
      let fails : Option Text → Kinds = λ m. or_else (other_fault s m word h)
      (step_fault s position (subcommand_or_other s.rules m waiting position word h).0
      (subcommand_or_other s.rules m waiting position word h).1) in
      elim (met waiting word) [
        | inl e ↦ inl (ap goes e, ap fails e)
        | inr e ↦ inr (ap (λ m. (goes m).stopped) e)
      ]

  step : (w : Walk) (word : Text) → Steps w word
  step w word = step-at w.held w.waiting w.position w.is_trailing w.stopped word

  -- a walk that stopped stays there
  stopped-on : (ps : List Text) (w : Walk) (words : List Text) → w.stopped ≡ Some (more, ps)
      → (qs : List Text) × ((fold (walked s.rules wide) w words).stopped ≡ Some (more, qs))
  unfolding walked
  stopped-on ps w [] e = (ps, e)
  stopped-on ps w (word ∷ words) e =
      stopped-on (ps ++ word ∷ []) (walked s.rules wide w word) words (rw e refl)

  abbrev ComesTo : Walk → List Text → Type 0
  ComesTo w words = (qs : List Text) × ((fold (walked s.rules wide) w words).stopped ≡ Some (more, qs))

  -- the walks and their faults are the same
  abbrev Same : Walk → List Text → Type 0
  Same w words = (fold (walked s.rules wide) w words ≡ fold (walked s.rules plain) w words)
      × (walk_fault s wide w words ≡ walk_fault s plain w words)

  pub walks-same : (w : Walk) (words : List Text) → ¬ ComesTo w words → Same w words
  unfolding walk_fault
  walks-same w [] n = (refl, refl)
  walks-same w (word ∷ words) n = elim (step w word) [
    | inl e ↦
        let rest = walks-same (walked s.rules wide w word) words n in (
          rest.0 ∙ ap (λ v. fold (walked s.rules plain) v words) e.0,
          ap₂ or_else e.1 (rest.1 ∙ ap (λ v. walk_fault s plain v words) e.0),
        )
    | inr e ↦ absurd (n (stopped-on [] (walked s.rules wide w word) words e))
  ]

-- ---- the program's command

abbrev top : Shape
top = (built app_without_why).top

abbrev plain_names : Names
plain_names = names_of (built app_without_why)

abbrev wide_names : Names
wide_names = names_of (built cbpf_app)

found-same : (word : Text) (a d w : Bool) → answers_to word (codes "asm", []) ≡ a
    → answers_to word (codes "dbg", []) ≡ d
    → answers_to word (codes "why", []) ≡ w
    → (subcommand_met wide_names idle word ≡ subcommand_met plain_names idle word)
    ⊎ (subcommand_met wide_names idle word ≡ Some (codes "why"))
found-same word true d w ea ed ew = inl (rw ea refl)
found-same word false true w ea ed ew = inl (rw (ea, ed) refl)
found-same word false false true ea ed ew = inr (rw (ea, ed, ew) refl)
found-same word false false false ea ed ew = inl (rw (ea, ed, ew) refl)

met-same : (waiting : Waiting) (word : Text)
    → (subcommand_met wide_names waiting word ≡ subcommand_met plain_names waiting word)
    ⊎ (subcommand_met wide_names waiting word ≡ Some (codes "why"))
met-same idle word = found-same word _ _ _ refl refl refl
met-same (option id) word = inl refl
met-same positional word = inl refl

-- the subcommand of a name that isn't `why`
abbrev SubSame : Text → Type 0
SubSame name = find (λ s. answers_to name (label_of s)) (built cbpf_app).subs
    ≡ find (λ s. answers_to name (label_of s)) (built app_without_why).subs

sub-same : (name : Text) (a d w : Bool) → answers_to name (codes "asm", []) ≡ a → answers_to name (codes "dbg", []) ≡ d
    → answers_to name (codes "why", []) ≡ w → w ≡ false → SubSame name
sub-same name true d w ea ed ew n = rw ea refl
sub-same name false true w ea ed ew n = rw (ea, ed) refl
sub-same name false false true ea ed ew n = absurd (cc n)
sub-same name false false false ea ed ew n = rw (ea, ed, ew) refl

-- the walk over the words after the program's name comes to `why`
abbrev ComesToWhy : List Text → Type 0
ComesToWhy words = ComesTo top plain_names wide_names (codes "why") met-same (walk_from nothing_held) words

not-why : (words : List Text) → names_why words ≡ false → ¬ ComesToWhy (argument_words (built cbpf_app) words)
unfolding names_why
not-why words n come =
    let why : is_why (subcommand_of cbpf_app words) ≡ true =
    ap (λ stop. is_why (entered (built cbpf_app) stop)) come.1 in
    let no : true ≡ false = sym why ∙ n in
    absurd (cc no)

is_false : (b : Bool) → (b ≡ true → ⊥) → (b || false) ≡ false
is_false true n = absurd (n refl)
is_false false n = refl

-- what a walk that doesn't stop at `why` enters
entered-same : (stop : Option (Text × List Text)) → ((words : List Text) → stop ≡ Some (codes "why", words) → ⊥)
    → (entered (built cbpf_app) stop ≡ entered (built app_without_why) stop)
    × (entered_fault (built cbpf_app) stop ≡ entered_fault (built app_without_why) stop)
entered-same None n = (refl, refl)
entered-same (Some p) n =
    let other : answers_to p.0 (codes "why", []) ≡ false = is_false (bytes_eq (codes "why") p.0)
    (λ e. n p.1 (ap (λ name. Some (name, p.1)) (sym ((bytes_eq-Decides (codes "why") p.0).0 e)))) in
    let same : SubSame p.0 = sub-same p.0 _ _ _ refl refl refl other in (
      ap (λ sub. option_map (λ s. rows_at s p.1) sub) same,
      ap (λ sub. option_map_or (λ s. level_fault s [] nothing_held p.1 false []) sub []) same,
    )

-- the faults of a level by its walk
level_by : Shape → Walk → Kinds → Bool → Kinds → Kinds
level_by s w k has below =
    or_else k
    (or_else below (or_else (settle_fault s.rules s.args_override_self w.held)
    (or_else (defaults_fault (settled s.rules w.held).rows s.rules)
    (check_fault s (finished s.rules w.held) has))))

level-same : (s : Shape) (w v : Walk) (k l : Kinds) (a b : Bool) (x y : Kinds) → w ≡ v → k ≡ l → a ≡ b → x ≡ y
    → level_by s w k a x ≡ level_by s v l b y
level-same s w v k l a b x y e f g h = rw (e, f, g, h) refl

-- the same subcommand, and the same faults
pub parsed-same : (words : List Text) → names_why words ≡ false
    → (subcommand_of cbpf_app words ≡ subcommand_of app_without_why words)
    × (fault_of cbpf_app words ≡ fault_of app_without_why words)
unfolding level_by
parsed-same words n =
    let rest = argument_words (built cbpf_app) words in
    let far = not-why words n in
    let same = walks-same top plain_names wide_names (codes "why") met-same (walk_from nothing_held) rest far in
    let stops = entered-same (walk top.rules wide_names nothing_held rest).stopped (λ qs e. far (qs, e)) in
    let below = ap (λ w. entered (built app_without_why) w.stopped) same.0 in (
      stops.0 ∙ below,
      level-same top (walk top.rules wide_names nothing_held rest) (walk top.rules plain_names nothing_held rest)
          _ _ _ _ _ _ same.0 same.1 (ap is_some (stops.0 ∙ below))
          (stops.1 ∙ ap (λ w. entered_fault (built app_without_why) w.stopped) same.0),
    )

or_else-none : (kinds : Kinds) → or_else kinds [] ≡ kinds
or_else-none [] = refl
or_else-none (k ∷ ks) = refl

pub answers-as-before : (words : List Text) (result : Result RequestWords LineFault)
    → IfOk result (λ r. request_meaning r ≡ requested_for words) → IfOk result (λ _. request_faults words ≡ [])
    → IfErr result (IsFaultOf (request_faults words)) → AnswersAsWithoutWhy words result
unfolding requested_for request_faults asked_for faults_in names_why
answers-as-before words (Ok r) request taken refused = λ n.
    let same = parsed-same words n in
    let asks : requested_by (subcommand_of cbpf_app words) ≡ job (asked_by (subcommand_of cbpf_app words)) =
    rw n refl in
    let none : conflict_by (subcommand_of cbpf_app words) ≡ [] = rw n refl in
    let faults : or_else (fault_of cbpf_app words) (conflict_by (subcommand_of cbpf_app words))
    ≡ fault_of app_without_why words =
    ap (or_else (fault_of cbpf_app words)) none ∙ or_else-none (fault_of cbpf_app words) ∙ same.1 in
    (request ∙ asks ∙ ap (λ sub. job (asked_by sub)) same.0, sym faults ∙ taken)
answers-as-before words (Err fault) request taken refused = λ n.
    let same = parsed-same words n in
    let none : conflict_by (subcommand_of cbpf_app words) ≡ [] = rw n refl in
    let faults : or_else (fault_of cbpf_app words) (conflict_by (subcommand_of cbpf_app words))
    ≡ fault_of app_without_why words =
    ap (or_else (fault_of cbpf_app words)) none ∙ or_else-none (fault_of cbpf_app words) ∙ same.1 in
    subst (λ kinds. IsFaultOf kinds fault) faults refused
