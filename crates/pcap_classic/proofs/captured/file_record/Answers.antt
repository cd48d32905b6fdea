use Rattle.std.proofs.Common.{◌≡◌, ◌-◌, ◌+◌, drop, arith, ◌∙◌, ap, sym}
use Rattle.std.specs.Prelude.{Some}
use Rattle.std.proofs.lemmas.List.{take_rest}
use Rattle.pcap_classic.specs.Lent.{record_of}
use Rattle.pcap_classic.specs.Records.{Record, record_at}
use Rattle.pcap_classic.proofs.ReachLemmas.{onward_more}
use Rattle.pcap_classic.proofs.captured.file_record.Goals as goal

pub front_record-requires-clause-header : goal.front_record-requires-clause-header
front_record-requires-clause-header c =
    let on = onward_more _ _ _ _ c.requires.there (omega arith) in rw take_rest (omega (arith, on.header, on.within))

pub front_record-requires-clause-whole : goal.front_record-requires-clause-whole
front_record-requires-clause-whole c =
    let on = onward_more _ _ _ _ c.requires.there (omega arith) in rw take_rest on.within

pub returns-clause-record : goal.returns-clause-record
returns-clause-record c =
    let on = onward_more _ _ _ _ c.requires.there (omega arith) in
    let here : record_of c.front_record.result
    ≡ record_at c.args.order c.args.number c.args.start (drop c.args.start c.args.file.now) =
    rw take_rest at c.front_record.ensures in
    let number : c.args.number - 1 + 1 ≡ c.args.number = omega arith in
    rw number at on.found ∙ ap (λ (r : Record). Some r) (sym here)
