use Rattle.std.proofs.Common.{◌≡◌, arith, sym, subst, ap, length-take}
use Rattle.cbpf_machine.specs.Trace.{trace}
use Rattle.pcap_classic.specs.Lent.{record_of}
use Rattle.cbpf_dbg.specs.declared.cursor.Cursor.{Cursor}
use Rattle.cbpf_dbg.specs.Loaded.{machine_in, records_in}
use Rattle.cbpf_dbg.specs.Cursor.{Stands, entered}
use Rattle.cbpf_dbg.proofs.CursorLemmas.{stands-entered}
use Rattle.cbpf_dbg.proofs.KeepLemmas.{keeps_push}
use Rattle.cbpf_dbg.proofs.step.enter_packet.Goals as goal

pub push-requires : goal.push-requires
push-requires g c =
    let none = g.met.T.Trail.as_long c.args.trail.now _ (c.requires.keeps (record_of c.args.here.now) c.requires.here) in
    omega (
      arith,
      none,
      length-take c.args.cursor.now.place.step
          (trace (machine_in c.args.loaded.now) c.args.here.now.bytes.now c.args.here.now.wire),
    )

pub returns-clause-stands : goal.returns-clause-stands
returns-clause-stands g c = subst (λ w. Stands (machine_in c.args.loaded.now) (records_in c.args.loaded.now) w)
    (sym c.enter.ensures) (stands-entered _ _ c.args.cursor.now _ c.requires.stands c.requires.here)

pub returns-clause-keeps : goal.returns-clause-keeps
returns-clause-keeps g c =
    let same : c.enter.new.self ≡ entered c.args.cursor.now = c.enter.ensures in
    let packet = ap (λ (w : Cursor). w.place.packet) same in
    let step = ap (λ (w : Cursor). w.place.step) same in
    keeps_push (λ xs. g.T.Trail.stands_for c.args.trail.now xs) (λ xs. g.T.Trail.stands_for c.push.new.self xs)
    (machine_in c.args.loaded.now) (records_in c.args.loaded.now) c.args.cursor.now.place c.enter.new.self
    (record_of c.args.here.now) (returns-clause-stands g c) (rw packet c.requires.here) packet (omega (arith, step)) c.push.ensures
    c.requires.keeps
