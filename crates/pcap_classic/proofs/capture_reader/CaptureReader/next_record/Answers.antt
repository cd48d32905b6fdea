use Rattle.std.proofs.Common.{◌≡◌, ◌+◌, ◌<◌, ◌^◌, drop, ap, refl, None, Err, arith}
use Rattle.pcap_classic.specs.Lent.{record_of}
use Rattle.pcap_classic.specs.Records.{Record, record_at}
use Rattle.pcap_classic.proofs.ReadingLemmas.{given, ended, stayed}
use Rattle.pcap_classic.proofs.capture_reader.CaptureReader.next_record.Goals as goal

pub returns-in-WholeRecord : goal.returns-in-WholeRecord
returns-in-WholeRecord g c =
    let w = c.self.inside in
    let item = c.front_record.result in
    let starts : c.offset-start.result ≡ w.window.offset + w.last =
    omega (arith, c.fill_record.ensures.place, c.take.ensures.place, c.offset-start.ensures.value) in
    let is : record_of item ≡ record_at w.header.magic.order (w.count + 1) (w.window.offset + w.last)
    c.fill_record.new.window.bytes = rw (c.as_slice-bytes.ensures, starts) at c.front_record.ensures in
    let few : w.count + 1 < 2 ^ 60 = omega (arith, c.self.invariant, starts, c.offset-start.ensures.bound) in
    rw (← c.self.view_is) (
      (
        refl,
        λ _. tt,
        (
          (ap (λ (r : Record). r.number) is, refl, few, refl),
          given w.header (w.count + 1) (w.count + 1) (w.window.offset + w.last) c.in-WholeRecord.size _
              (drop w.last w.window.bytes) c.fill_record.new.window.bytes _ _ None item
              (rw c.take.ensures.bytes at c.fill_record.ensures.kept)
              (rw (← c.as_slice.ensures, ← c.extent_of-extent.ensures) c.in-WholeRecord.is) (omega (arith, starts, c.offset-start.ensures.value)) is,
        ),
      ),
      tt,
    )

pub returns : goal.returns
returns g c =
    let w = c.self.inside in
    let place : c.fill_record.new.window.offset + 0 ≡ w.window.offset + w.last =
    omega (arith, c.fill_record.ensures.place, c.take.ensures.place) in
    let starts : c.offset-start.result ≡ w.window.offset + w.last = omega (arith, place, c.offset-start.ensures.value) in
    rw (← c.self.view_is, place) (
      (
        refl,
        λ _. tt,
        (
          (refl, refl),
          ended w.header w.count (w.count + 1) (w.window.offset + w.last) (drop w.last w.window.bytes) c.fill_record.new.window.bytes _ _
              c.extent_of-extent.result c.ending_by.result (rw c.take.ensures.bytes at c.fill_record.ensures.kept)
              c.in_default.ensures.end (rw (← c.as_slice.ensures, c.extent_of-extent.ensures) refl) c.in_default-extent.not-WholeRecord (rw starts at c.ending_by.ensures),
        ),
      ),
      tt,
    )

pub returns-in-Err : goal.returns-in-Err
returns-in-Err g c =
    let w = c.self.inside in
    let place : c.fill_record.new.window.offset + 0 ≡ w.window.offset + w.last =
    omega (arith, c.fill_record.ensures.place, c.take.ensures.place) in
    rw (← c.self.view_is, place) (
      (
        refl,
        λ _. tt,
        (
          (refl, refl),
          stayed w.header w.count (w.count + 1) (w.window.offset + w.last) (drop w.last w.window.bytes) c.fill_record.new.window.bytes _ _
              c.in-Err.fault (rw c.take.ensures.bytes at c.fill_record.ensures.kept)
              (λ is. c.in-Err.ensures.refused (ap Err is)),
        ),
      ),
      tt,
    )
