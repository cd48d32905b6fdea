use Rattle.pcap_classic.proofs.ReadingLemmas.{opened, refused}
use Rattle.pcap_classic.specs.Reading.{Unread}
use Rattle.pcap_classic.specs.declared.header.TheConstants.{FILE_HEADER}
use Rattle.std.proofs.Common.{◌≡◌, ◌+◌, ap, arith, sym, ◌∙◌}
use Rattle.pcap_classic.proofs.capture_reader.CaptureReader.new.Goals as goal

pub returns-in-Err-header_of-clause-refused : goal.returns-in-Err-header_of-clause-refused
returns-in-Err-header_of-clause-refused g c =
    refused _ _ c.fill.new.window.bytes c.in-Err-header_of.fault (rw c.in-Ok.ensures at c.fill.ensures.kept)
    c.in_default-fill.ensures.end (rw c.as_slice.ensures at (sym c.header_of.ensures ∙ c.in-Err-header_of.is))

pub returns-clause-capture : goal.returns-clause-capture
returns-clause-capture g c =
    let starts = ap (λ (u : Unread). u.offset) c.in-Ok.ensures in
    let place : c.take.new.self.offset + 0 ≡ FILE_HEADER = omega (arith, starts, c.fill.ensures.place, c.take.ensures.place) in
    rw (c.take.ensures.bytes, place) (opened _ _ c.fill.new.window.bytes c.in-Ok-header_of.header
    (rw c.in-Ok.ensures at c.fill.ensures.kept)
    (rw c.as_slice.ensures at (sym c.header_of.ensures ∙ c.in-Ok-header_of.is)))
