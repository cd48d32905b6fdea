use Rattle.std.proofs.Common.{◌≡◌, ◌+◌, ◌<◌, ◌^◌, drop, ap, refl, sym, ◌∙◌, None, arith}
use Rattle.std.specs.Prelude.{Option, Some}
use Rattle.std.proofs.KnownBytes.{Keeps-refl}
use Rattle.pcap_classic.specs.Contents.{extent_of}
use Rattle.pcap_classic.specs.declared.captured.Extent.TheVariants.{WholeRecord}
use Rattle.pcap_classic.specs.Lent.{record_of}
use Rattle.pcap_classic.specs.Reading.{NoneLeftWhere}
use Rattle.pcap_classic.specs.Records.{Record, record_at}
use Rattle.pcap_classic.specs.declared.ending.Ending.{Ending}
use Rattle.pcap_classic.proofs.ReadingLemmas.{all_after, given}
use Rattle.pcap_classic.proofs.capture_reader.CaptureReader.next_buffered.Goals as goal

pub returns : goal.returns
returns g c =
    let w = c.self.inside in
    let item = c.front_record.result in
    let starts : c.offset-start.result ≡ w.window.offset + w.last =
    omega (arith, c.take.ensures.place, c.offset-start.ensures.value) in
    let is : record_of item ≡ record_at w.header.magic.order (w.count + 1) (w.window.offset + w.last) c.take.new.self.bytes =
    rw (c.as_slice-2.ensures, starts) at c.front_record.ensures in
    let whole : extent_of w.header.magic.order c.take.new.self.bytes ≡ WholeRecord c.in-WholeRecord.size =
    rw (c.as_slice.ensures, all_after w.window.bytes w.last, ← c.take.ensures.bytes) at (sym c.extent_of.ensures ∙ c.in-WholeRecord.is) in
    let few : w.count + 1 < 2 ^ 60 = omega (arith, c.self.invariant, starts, c.offset-start.ensures.bound) in
    rw (← c.self.view_is) (
      (
        refl,
        λ _. tt,
        (
          (ap (λ (r : Record). r.number) is, refl, few, unended w.ending c.self.invariant.2),
          given w.header (w.count + 1) (w.count + 1) (w.window.offset + w.last) c.in-WholeRecord.size _
              (drop w.last w.window.bytes) c.take.new.self.bytes _ _ w.ending item (rw c.take.ensures.bytes (Keeps-refl _))
              whole (omega (arith, c.take.ensures.place)) is,
        ),
      ),
      tt,
    )
  where
    unended : (o : Option Ending) → NoneLeftWhere o c.self.inside.header.magic.order (drop c.self.inside.last c.self.inside.window.bytes) → o ≡ None
    unended None h = refl
    unended (Some how) h = absurd (h _ (rw (c.as_slice.ensures, all_after c.self.inside.window.bytes c.self.inside.last) at
        (sym c.extent_of.ensures ∙ c.in-WholeRecord.is)))
