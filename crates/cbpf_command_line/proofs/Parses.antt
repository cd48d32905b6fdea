-- What a parse by the program's command gives.
use Rattle.std.specs.Prelude.{◌≡◌, ◌≤◌, List, [], ◌∷◌, None, length, true}
use Rattle.std.proofs.Common.{ap, arith, refl, ◌∙◌, subst}
use Rattle.clap.specs.Words.{App, Text, HasMatchesOf, is_simple, is_simple_and_free, fault_of, subcommand_of}
use Rattle.clap.specs.Words.{subcommand_rows_of, Kinds, first_value, first_of, found_of, rows_of}
use Rattle.clap.specs.Faults.{walk_fault, defaults_fault}
use Rattle.clap.specs.Words.{matched_of, raw_values, all_of}
use Rattle.std.specs.Prelude.{option_map}
use Rattle.clap.proofs.WalkLemmas.{first_value-rows, raw_values-rows}
use Rattle.clap.specs.declared.parser.matches.ArgMatches.{ArgMatches}
use Rattle.cbpf_command_line.specs.CommandLine.{app_without_why, dbg, asked_for, asked_by, faults_in}

is_simple-cbpf : is_simple app_without_why ≡ true
is_simple-cbpf = refl

is_free-cbpf : is_simple_and_free app_without_why ≡ true
is_free-cbpf = refl

-- the job asked for is that of the subcommand's matches
pub asked_for-matches : (a : App) (words : List Text) (m : ArgMatches) → a ≡ app_without_why → HasMatchesOf a words m
    → asked_by (subcommand_rows_of m) ≡ asked_for words
unfolding asked_for
asked_for-matches a words m e h =
    ap asked_by ((h (ap is_simple e ∙ is_simple-cbpf)).1 ∙ ap (λ b. subcommand_of b words) e)

-- what holds of the command's faults holds of those of the words
pub faults_in-command : (P : Kinds → Type 0) (a : App) (words : List Text) → a ≡ app_without_why
    → (is_simple_and_free a ≡ true → P (fault_of a words)) → P (faults_in words)
unfolding faults_in
faults_in-command P a words e h =
    subst P (ap (λ b. fault_of b words) e) (h (ap is_simple_and_free e ∙ is_free-cbpf))

-- the first value of an argument is that of its row
pub first_text : (m : ArgMatches) (id : Text) → first_value (found_of m) id ≡ first_of id (rows_of (found_of m))
first_text m id = first_value-rows (found_of m) id

-- without a word after the program's name it is the debugger
pub asked_for-none : (words : List Text) → length words ≤ 1 → asked_for words ≡ dbg None None
unfolding asked_for
asked_for-none [] few = refl
asked_for-none (name ∷ []) few = refl
asked_for-none (name ∷ word ∷ words) few = absurd (omega (arith, few))

pub faults_in-none : (words : List Text) → length words ≤ 1 → faults_in words ≡ []
unfolding faults_in walk_fault defaults_fault
faults_in-none [] few = refl
faults_in-none (name ∷ []) few = refl
faults_in-none (name ∷ word ∷ words) few = absurd (omega (arith, few))

pub all_texts : (m : ArgMatches) (id : Text)
    → option_map raw_values (matched_of (found_of m) id) ≡ all_of id (rows_of (found_of m))
all_texts m id = raw_values-rows (found_of m) id
