use Rattle.std.proofs.Common.{◌≡◌, ◌+◌, drop, true, ℕ, ap}
use Rattle.std.specs.Prelude.{Option, Some, None, Bool, not}
use Rattle.std.specs.Option.{is_some}
use Rattle.pcap_classic.proofs.ReadingLemmas.{all_after, has-record}
use Rattle.pcap_classic.proofs.capture_reader.CaptureReader.has_next.Goals as goal

is_none : (o : Option ℕ) (b : Bool) → is_some o ≡ not b → b ≡ true → o ≡ None
is_none None b e h = cc
is_none (Some n) b e h = absurd (cc (ap not h))

pub returns : goal.returns
returns g c = λ is.
    let w = c.self.inside in
    let none = is_none c.needed.result c.is_none.result c.is_none.ensures is in
    rw (← c.self.view_is) (has-record w.header (w.count + 1) (w.window.offset + w.last) _
    (drop w.last w.window.bytes) _
    (rw (all_after w.window.bytes w.last) at (rw (none, c.as_slice.ensures) at c.needed.ensures.none)))
