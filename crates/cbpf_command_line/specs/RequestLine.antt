-- The command line of the program with `why`, and what its words ask for:
-- this project's own, by `clap`'s meaning of a command line.
use Rattle.std.specs.Prelude.{◌≡◌, Bool, true, false, nat_lt, if◌then◌else◌, List, [], ◌∷◌, map, filter, fold}
use Rattle.std.specs.Prelude.{length}
use Rattle.std.specs.Prelude.{Option, Some, option_map, slice_get, unwrap_or, codes, bytes_eq, Result}
use Rattle.std.specs.Prelude.{MatchResult}
use Rattle.std.specs.Option.{option_map_or}
use Rattle.clap.specs.Lexer.{usize_max}
use Rattle.clap.specs.Words.{App, Rule, Row, Text, new_app, new_rule, with_rule, with_subcommand, first_of, all_of}
use Rattle.clap.specs.Words.{subcommand_of, fault_of}
pub use Rattle.clap.specs.Kinds.{Kinds, or_else}
use Rattle.clap.specs.declared.builder.action.ArgAction.TheVariants.{Append}
use Rattle.clap.specs.declared.error.kind.ErrorKind.TheVariants.{ArgumentConflict, ValueValidation}
use Rattle.cbpf_command_line.specs.CommandLine.{app_without_why, Asked, asked_by, asked_for, faults_in, meaning}
use Rattle.cbpf_command_line.specs.CommandLine.{text_of, IsFaultOf, flag_rule, file_rule, is_set}
use Rattle.cbpf_command_line.specs.declared.job.LineFault.{LineFault}
use Rattle.cbpf_command_line.specs.declared.request.Detail.{Detail}
use Rattle.cbpf_command_line.specs.declared.request.Detail.TheVariants.{Packets, Listing, Graph}
use Rattle.cbpf_command_line.specs.declared.request.WhyWords.{WhyWords}
use Rattle.cbpf_command_line.specs.declared.request.RequestWords.{RequestWords}
use Rattle.cbpf_command_line.specs.declared.request.RequestWords.TheVariants as request

-- `-v EXT=N`, as often as wanted
abbrev pub value_rule : Rule
value_rule = record (new_rule (codes "value")) { short = Some 118; value_names = 1; action = Some Append }

-- the filter's file, which may not be left out
abbrev pub filter_rule : Rule
filter_rule = record (file_rule (codes "filter")) { required = true }

-- any number of packets
abbrev pub packet_rule : Rule
packet_rule = record (new_rule (codes "packet")) {
  value_names = 1;
  range = Some (record { start_inclusive = 0; end_inclusive = usize_max });
}

-- `-l`, `-g` and `-p`
abbrev pub detail_rules : List Rule
detail_rules =
    flag_rule (codes "l") 108 ∷ flag_rule (codes "g") 103 ∷ flag_rule (codes "p") 112 ∷ []

-- `[-v EXT=N].. FILTER [CAPTURE [PACKET..]]`
abbrev pub word_rules : List Rule
word_rules = value_rule ∷ filter_rule ∷ file_rule (codes "capture") ∷ packet_rule ∷ []

-- `why` with these
abbrev pub why_app : App
why_app = fold with_rule (fold with_rule (new_app (codes "why")) detail_rules) word_rules

-- `cbpf` with `why` beside its two other subcommands
abbrev pub cbpf_app : App
cbpf_app = with_subcommand app_without_why why_app.top

-- what `why` is asked, in texts
pub record WhyAsked : Type 0 where
  pub detail : Option Detail
  pub values : List Text
  pub filter : Text
  pub capture : Option Text
  pub packets : List Text

-- what the program is asked, with `why` beside its two jobs
pub data Requested : Type 0 where
  job : (asked : Asked) → Requested
  why : (asked : WhyAsked) → Requested

-- the flag of a report
abbrev pub flag_of : Detail → Text
flag_of Listing = codes "l"
flag_of Graph = codes "g"
flag_of Packets = codes "p"

-- the reports whose flags are set
abbrev pub details_in : List Row → List Detail
details_in rows = filter (λ d. is_set (flag_of d) rows) (Listing ∷ Graph ∷ Packets ∷ [])

-- two of these flags can't stand together
abbrev pub conflict_in : List Row → Kinds
conflict_in rows = if nat_lt 1 (length (details_in rows)) then ArgumentConflict ∷ [] else []

-- the kind of the fault of a word that gives no value, or names no packets, where `why` wants one; Requests.antt of
-- `cbpf_tool` says which words these are
abbrev pub word_faults : Kinds
word_faults = ValueValidation ∷ []

-- all texts that were found for an argument
abbrev pub texts_in : Text → List Row → List Text
texts_in id rows = unwrap_or (all_of id rows) []

-- by what was found for the arguments of `why`
abbrev pub why_asked : List Row → WhyAsked
why_asked rows = record {
  detail = slice_get (details_in rows) 0;
  values = texts_in (codes "value") rows;
  filter = unwrap_or (first_of (codes "filter") rows) [];
  capture = first_of (codes "capture") rows;
  packets = texts_in (codes "packet") rows;
}

-- the subcommand is `why`
abbrev pub is_why : Option (Text × List Row) → Bool
is_why sub = option_map_or (λ s. bytes_eq s.0 (codes "why")) sub false

-- what was found for the arguments of the subcommand
abbrev pub rows_in : Option (Text × List Row) → List Row
rows_in sub = option_map_or (λ s. s.1) sub []

-- by the subcommand
abbrev pub requested_by : Option (Text × List Row) → Requested
requested_by sub = if is_why sub then why (why_asked (rows_in sub)) else job (asked_by sub)

-- `conflict_in` of the flags of `why`, where the subcommand is `why`
abbrev pub conflict_by : Option (Text × List Row) → Kinds
conflict_by sub = if is_why sub then conflict_in (rows_in sub) else []

-- the subcommand that the words name is `why`
unfoldable pub names_why : List Text → Bool
names_why words = is_why (subcommand_of cbpf_app words)

-- what the words ask of the program with `why`
unfoldable pub requested_for : List Text → Requested
requested_for words = requested_by (subcommand_of cbpf_app words)

-- the kinds of faults that the words may have for the program with `why`: those of `clap`; where there are none, that
-- of the flags. What the texts after `why` spell isn't checked here
unfoldable pub request_faults : List Text → Kinds
request_faults words = or_else (fault_of cbpf_app words) (conflict_by (subcommand_of cbpf_app words))

-- what the words of `why` stand for
abbrev pub why_meaning : WhyWords → WhyAsked
why_meaning w = record {
  detail = w.detail;
  values = map text_of w.values.items;
  filter = text_of w.filter;
  capture = option_map text_of w.capture;
  packets = map text_of w.packets.items;
}

-- what `RequestWords` stand for
abbrev pub request_meaning : RequestWords → Requested
request_meaning (request.Job j) = job (meaning j)
request_meaning (request.Why w) = why (why_meaning w)

-- A line whose subcommand isn't `why` asks for the same job as without `why`, and has no fault there. Or it has a fault of
-- one of the kinds that it may have there, or there was no memory. The texts of faults may differ, as the help lists `why`.
abbrev pub AnswersAsWithoutWhy : List Text → Result RequestWords LineFault → Type 0
AnswersAsWithoutWhy words result = names_why words ≡ false
    → MatchResult result (λ r. (request_meaning r ≡ job (asked_for words)) × (faults_in words ≡ []))
    (IsFaultOf (faults_in words))
