use Rattle.std.proofs.Common.{rules, map}
use Rattle.cbpf_command_line.specs.CommandLine.{text_of}
use Rattle.cbpf_command_line.specs.RequestLine.{why_meaning}
use Rattle.cbpf_tool.proofs.RequestLemmas.{none-of-why, fault-of-why}
use Rattle.cbpf_tool.proofs.request.read_request.Goals as goal

pub returns-in_err-why_of-in-Why-clause-refused : goal.returns-in_err-why_of-in-Why-clause-refused
returns-in_err-why_of-in-Why-clause-refused c =
    let asks = rw c.in-Why.is at c.in_ok-job.ensures.request in
    let fault = fault-of-why (map text_of c.args.words.items) (why_meaning c.in-Why.words) asks
    c.in_ok-job.ensures.taken c.in_err-why_of-in-Why.field-0.0 c.in_err-why_of-in-Why.ensures in
    search (rules, fault)

pub returns-in_ok-why_of-in-Why-clause-taken : goal.returns-in_ok-why_of-in-Why-clause-taken
returns-in_ok-why_of-in-Why-clause-taken c =
    let asks = rw c.in-Why.is at c.in_ok-job.ensures.request in
    none-of-why (map text_of c.args.words.items) (why_meaning c.in-Why.words) asks c.in_ok-job.ensures.taken
    c.in_ok-why_of-in-Why.ensures.0
