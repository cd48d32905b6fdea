use Rattle.std.proofs.Common.{◌∙◌, ap, arith, drop}
use Rattle.pcap_classic.specs.Reading.{Unread}
use Rattle.pcap_classic.proofs.UnreadLemmas.{slice_range_after}
use Rattle.pcap_classic.proofs.window.Window.take.Goals as goal

pub returns-clause-place : goal.returns-clause-place
returns-clause-place g c = omega (arith, ap (λ (u : Unread). u.offset) c.self.view_is)

pub returns-clause-bytes : goal.returns-clause-bytes
returns-clause-bytes g c =
    let w = c.self.inside in
    let bytes = ap (λ (u : Unread). u.bytes) c.self.view_is in
    slice_range_after w.buf.items w.start w.end c.args.count (rw (← bytes) at c.requires) ∙ ap (drop c.args.count) bytes
