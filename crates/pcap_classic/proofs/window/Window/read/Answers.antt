use Rattle.std.proofs.Common.{◌≡◌, ◌-◌, ap, take}
use Rattle.pcap_classic.specs.Reading.{Unread}
use Rattle.pcap_classic.proofs.UnreadLemmas.{grown, unread-grown}
use Rattle.pcap_classic.proofs.window.Window.read.Goals as goal

pub returns-in-Ok-clause-kept : goal.returns-in-Ok-clause-kept
returns-in-Ok-clause-kept g c =
    let w = c.self.inside in
    let same : take (w.end - w.start) c.read_after.new.buf.items ≡ c.args.self.now.bytes =
    rw (c.read_after.ensures.same, c.make_room.ensures.same, c.move_to_front.ensures.same)
    (ap (λ (u : Unread). u.bytes) c.self.view_is) in
    unread-grown _ _ _ _ _ (grown _ c.read_after.new.buf.items (w.end - w.start) c.in-Ok.count same) c.in-Ok.ensures.bytes
