use Rattle.std.proofs.Common.{map, length, ◌≡◌, ◌≤◌, ◌∙◌, [], arith, sym}
use Rattle.std.proofs.lemmas.List.{length-map}
use Rattle.clap.specs.Words.{app_of}
use Rattle.clap.specs.Kinds.{HasKind}
use Rattle.cbpf_command_line.specs.CommandLine as spec
use Rattle.cbpf_command_line.proofs.Parses.{asked_for-matches, asked_for-none, faults_in-command, faults_in-none}
use Rattle.cbpf_command_line.proofs.parse.job_asked.Goals as goal

pub returns-then-words-le1-clause-job : goal.returns-then-words-le1-clause-job
returns-then-words-le1-clause-job c =
    let few : length (map spec.text_of c.args.words.now) ≤ 1 =
    omega (arith, length-map c.args.words.now spec.text_of, c.if-words-le1.true) in
    sym (asked_for-none (map spec.text_of c.args.words.now) few)

pub returns-then-words-le1-clause-taken : goal.returns-then-words-le1-clause-taken
returns-then-words-le1-clause-taken c =
    let few : length (map spec.text_of c.args.words.now) ≤ 1 =
    omega (arith, length-map c.args.words.now spec.text_of, c.if-words-le1.true) in
    faults_in-none (map spec.text_of c.args.words.now) few

pub returns-in-Err-clause-refused : goal.returns-in-Err-clause-refused
returns-in-Err-clause-refused c =
    c.parse_fault.ensures _ (faults_in-command (λ kinds. HasKind kinds c.in-Err.error) (app_of c.in-Ok.command)
    (map spec.text_of c.args.words.now) c.in-Ok.ensures c.in-Err.ensures.kinds)

pub returns-in-Ok-job_of-clause-job : goal.returns-in-Ok-job_of-clause-job
returns-in-Ok-job_of-clause-job c =
    c.in-Ok-job_of.ensures
    ∙ asked_for-matches (app_of c.in-Ok.command) (map spec.text_of c.args.words.now)
    c.in-Ok-try_get_matches_from.matches c.in-Ok.ensures c.in-Ok-try_get_matches_from.ensures.matches

pub returns-in-Ok-job_of-clause-taken : goal.returns-in-Ok-job_of-clause-taken
returns-in-Ok-job_of-clause-taken c =
    faults_in-command (λ kinds. kinds ≡ []) (app_of c.in-Ok.command) (map spec.text_of c.args.words.now)
    c.in-Ok.ensures c.in-Ok-try_get_matches_from.ensures.kinds
