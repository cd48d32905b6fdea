-- What a parse by the program's command with `why` gives.
use Rattle.std.proofs.Common.{◌≡◌, ◌≤◌, List, [], ◌∷◌, None, length, true, ap, arith, refl, sym, ◌∙◌, subst, inl}
use Rattle.std.proofs.Common.{inr}
use Rattle.clap.specs.Words.{App, Text, HasMatchesOf, is_simple, is_simple_and_free, fault_of, subcommand_of}
use Rattle.clap.specs.Words.{subcommand_rows_of, Kinds}
use Rattle.clap.specs.Kinds.{or_else}
use Rattle.clap.specs.Faults.{walk_fault, defaults_fault}
use Rattle.clap.specs.declared.parser.matches.ArgMatches.{ArgMatches}
use Rattle.cbpf_command_line.specs.CommandLine.{dbg, IsFaultOf}
use Rattle.cbpf_command_line.specs.declared.job.LineFault.{LineFault}
use Rattle.cbpf_command_line.specs.declared.job.LineFault.TheVariants.{Help, Refused, Memory}
use Rattle.cbpf_command_line.specs.RequestLine.{cbpf_app, job, requested_by, requested_for, conflict_by}
use Rattle.cbpf_command_line.specs.RequestLine.{request_faults}

is_simple-wide : is_simple cbpf_app ≡ true
is_simple-wide = refl

is_free-wide : is_simple_and_free cbpf_app ≡ true
is_free-wide = refl

-- a fault of the parse is one of the words
pub fault-first : (first next : Kinds) (fault : LineFault) → IsFaultOf first fault
    → IsFaultOf (or_else first next) fault
fault-first [] next (Help text) h = elim h [ inl a ↦ absurd a | inr b ↦ absurd b ]
fault-first [] next (Refused text) h = absurd h.2
fault-first [] next Memory h = tt
fault-first (k ∷ ks) next fault h = h

module _ (a : App) (words : List Text) (e : a ≡ cbpf_app) where
  -- the request is that of the subcommand's matches
  pub requested_for-matches : (m : ArgMatches) → HasMatchesOf a words m
      → requested_by (subcommand_rows_of m) ≡ requested_for words
  unfolding requested_for
  requested_for-matches m h =
      ap requested_by ((h (ap is_simple e ∙ is_simple-wide)).1 ∙ ap (λ b. subcommand_of b words) e)

  conflict-matches : (m : ArgMatches) → HasMatchesOf a words m
      → conflict_by (subcommand_rows_of m) ≡ conflict_by (subcommand_of cbpf_app words)
  conflict-matches m h =
      ap conflict_by ((h (ap is_simple e ∙ is_simple-wide)).1 ∙ ap (λ b. subcommand_of b words) e)

  -- what holds of the command's faults holds of those of the wide one
  faults-wide : (P : Kinds → Type 0) → (is_simple_and_free a ≡ true → P (fault_of a words))
      → P (fault_of cbpf_app words)
  faults-wide P h = subst P (ap (λ b. fault_of b words) e) (h (ap is_simple_and_free e ∙ is_free-wide))

  -- after a parse that succeeds the faults are those of the flags
  pub faults-parsed : (m : ArgMatches) → HasMatchesOf a words m → (is_simple_and_free a ≡ true → fault_of a words ≡ [])
      → conflict_by (subcommand_rows_of m) ≡ request_faults words
  unfolding request_faults
  faults-parsed m h f =
      let none : fault_of cbpf_app words ≡ [] = faults-wide (λ kinds. kinds ≡ []) f in
      conflict-matches m h ∙ sym (ap (λ kinds. or_else kinds (conflict_by (subcommand_of cbpf_app words))) none)

  -- a parse that fails has a fault of the words
  pub faults-unparsed : (fault : LineFault) → (is_simple_and_free a ≡ true → IsFaultOf (fault_of a words) fault)
      → IsFaultOf (request_faults words) fault
  unfolding request_faults
  faults-unparsed fault h = fault-first _ _ fault (faults-wide (λ kinds. IsFaultOf kinds fault) h)

-- without a word after the program's name it is the debugger
pub requested_for-none : (words : List Text) → length words ≤ 1 → requested_for words ≡ job (dbg None None)
unfolding requested_for
requested_for-none [] few = refl
requested_for-none (name ∷ []) few = refl
requested_for-none (name ∷ word ∷ words) few = absurd (omega (arith, few))

pub request_faults-none : (words : List Text) → length words ≤ 1 → request_faults words ≡ []
unfolding request_faults walk_fault defaults_fault
request_faults-none [] few = refl
request_faults-none (name ∷ []) few = refl
request_faults-none (name ∷ word ∷ words) few = absurd (omega (arith, few))
