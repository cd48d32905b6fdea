use Rattle.std.proofs.Common.{◌≡◌, ℕ, List, Some, ap, sym, ◌∙◌, subst}
use Rattle.cbpf_code.specs.Writing.{Wrote}
use Rattle.pcap_classic.specs.Lent.{record_of}
use Rattle.cbpf_dbg.specs.View.{View}
use Rattle.cbpf_dbg.proofs.ShownLemmas.{text-within}
use Rattle.cbpf_dbg.proofs.session.Session.write_stop.Goals as goal

pub returns : goal.returns
returns g c =
    let p : c.args.self.now.program ≡ Some c.in-Some-Some.program =
    ap (λ (v : View). v.program) (sym c.self.view_is) ∙ c.in-Some-Some.is-0 in
    let q : c.args.self.now.capture ≡ Some c.in-Some-Some.capture =
    ap (λ (v : View). v.capture) (sym c.self.view_is) ∙ c.in-Some-Some.is-1 in
    subst (λ (t : List ℕ).
    Wrote (g.W.Write.contents c.args.w.now) (g.W.Write.contents c.write_stop.new.w) c.write_stop.result t)
    (text-within c.args.self.now c.args.stop.now c.in-Some-Some.program c.in-Some-Some.capture
    (record_of c.item_at-packet.result) p q c.item_at-packet.ensures.record)
    c.write_stop.ensures
