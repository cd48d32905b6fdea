use Rattle.std.proofs.Common.{map, length, ◌≤◌, ◌∙◌, arith, sym}
use Rattle.std.proofs.lemmas.List.{length-map}
use Rattle.std.proofs.lemmas.Result.{IfOk-weaker}
use Rattle.clap.specs.Words.{app_of}
use Rattle.cbpf_command_line.specs.CommandLine as spec
use Rattle.cbpf_command_line.proofs.Requests.{requested_for-matches, requested_for-none, request_faults-none}
use Rattle.cbpf_command_line.proofs.Requests.{faults-parsed, faults-unparsed}
use Rattle.cbpf_command_line.proofs.why.request_of.Goals as goal

pub returns-then-words-le1-clause-request : goal.returns-then-words-le1-clause-request
returns-then-words-le1-clause-request c =
    let few : length (map spec.text_of c.args.words.now) ≤ 1 =
    omega (arith, length-map c.args.words.now spec.text_of, c.if-words-le1.true) in
    sym (requested_for-none (map spec.text_of c.args.words.now) few)

pub returns-then-words-le1-clause-taken : goal.returns-then-words-le1-clause-taken
returns-then-words-le1-clause-taken c =
    let few : length (map spec.text_of c.args.words.now) ≤ 1 =
    omega (arith, length-map c.args.words.now spec.text_of, c.if-words-le1.true) in
    request_faults-none (map spec.text_of c.args.words.now) few

pub returns-in-Err-clause-refused : goal.returns-in-Err-clause-refused
returns-in-Err-clause-refused c =
    faults-unparsed (app_of c.in-Ok.command) (map spec.text_of c.args.words.now) c.in-Ok.ensures
    c.parse_fault.result (λ simple. c.parse_fault.ensures _ (c.in-Err.ensures.kinds simple))

pub returns-in-Ok-try_get_matches_from-clause-request : goal.returns-in-Ok-try_get_matches_from-clause-request
returns-in-Ok-try_get_matches_from-clause-request c = IfOk-weaker c.request_asked.result _ _
    (λ r h. h ∙ requested_for-matches (app_of c.in-Ok.command) (map spec.text_of c.args.words.now) c.in-Ok.ensures
    c.in-Ok-try_get_matches_from.matches c.in-Ok-try_get_matches_from.ensures.matches)
    c.request_asked.ensures.request

pub returns-in-Ok-try_get_matches_from-clause-taken : goal.returns-in-Ok-try_get_matches_from-clause-taken
returns-in-Ok-try_get_matches_from-clause-taken c =
    let same = faults-parsed (app_of c.in-Ok.command) (map spec.text_of c.args.words.now) c.in-Ok.ensures
    c.in-Ok-try_get_matches_from.matches c.in-Ok-try_get_matches_from.ensures.matches
    c.in-Ok-try_get_matches_from.ensures.kinds in
    IfOk-weaker c.request_asked.result _ _ (λ r h. sym same ∙ h) c.request_asked.ensures.taken

pub returns-in-Ok-try_get_matches_from-clause-refused : goal.returns-in-Ok-try_get_matches_from-clause-refused
returns-in-Ok-try_get_matches_from-clause-refused c =
    let same = faults-parsed (app_of c.in-Ok.command) (map spec.text_of c.args.words.now) c.in-Ok.ensures
    c.in-Ok-try_get_matches_from.matches c.in-Ok-try_get_matches_from.ensures.matches
    c.in-Ok-try_get_matches_from.ensures.kinds in
    rw same at c.request_asked.ensures.refused
