-- A place of a session is one that `resume` takes.
use Rattle.std.proofs.Common.{◌≡◌, ℕ, zero, suc, ◌-◌, ◌<◌, ◌≤◌, List, [], ◌∷◌, length, ◌==◌, arith, refl, ◌∙◌, cond}
use Rattle.std.proofs.Common.{Bool, true, false, inl, inr, ◌⊎◌}
use Rattle.std.specs.Prelude.{Option, Some, None, Ok, Err, IsOk, is_some, slice_get, nat_le}
use Rattle.std.proofs.lemmas.Bool.Decides.{nat_tests}
use Rattle.std.proofs.lemmas.Option.{slice_get_within}
use Rattle.cbpf_code.specs.declared.insn.Insn.{Insn}
use Rattle.cbpf_machine.specs.Registers.{Registers}
use Rattle.cbpf_machine.specs.Values.{Values}
use Rattle.cbpf_machine.specs.Machine.{Machine, machine_of}
use Rattle.cbpf_machine.specs.Trace.{trace}
use Rattle.pcap_classic.specs.Records.{Record}
use Rattle.pcap_classic.specs.Savefile.{Savefile}
use Rattle.cbpf_reply.specs.declared.reply.Place.{Place}
use Rattle.cbpf_reply.specs.declared.reply.SessionFault.TheVariants.{NoPackets, NoPacket, NoStep}
use Rattle.cbpf_dbg.specs.declared.cursor.Cursor.{Cursor}
use Rattle.cbpf_dbg.specs.Cursor.{IsEntry}
use Rattle.cbpf_dbg.specs.Session.{Fits, IsInside}
use Rattle.cbpf_dbg.specs.View.{View}
use Rattle.cbpf_dbg.specs.Commands.{Answer, has_packet, steps_of, IsResumable}

steps-at : (machine : Machine) (capture : List Record) (p k : ℕ) (s : Registers)
    → (0 < k → IsEntry machine capture (record { packet = p; step = k }) s)
    → k ≤ steps_of machine (slice_get capture (p - 1))
steps-at machine capture p zero s h = omega arith
steps-at machine capture p (suc k) s h =
    let e = h (omega arith) in
    let within = slice_get_within (trace machine e.0.bytes e.0.wire) (suc k - 1) s e.2 in
    rw e.1 (omega arith)

ok-all : {X Y : Type 0} (a b c : Bool) (x : X) (d e f : Y) → a ≡ false → b ≡ true → c ≡ true
    → IsOk (cond a (Err d) (cond b (cond c (Ok x) (Err e)) (Err f)))
ok-all a b c x d e f i h g = rw (i, h, g) refl

-- the answer of `resume` where a packet and a step are there
abbrev answer : Machine → List Record → Place → Unit {0} × View → Answer (Unit {0})
answer machine capture place x =
    let steps = steps_of machine (slice_get capture (place.packet - 1)) in
    cond (length capture == 0) (Err NoPackets) (cond (has_packet capture place.packet)
    (cond (nat_le place.step steps) (Ok x) (Err (NoStep steps))) (Err NoPacket))

pub taken : (machine : Machine) (capture : List Record) (place : Place) (x : Unit {0} × View) → 1 ≤ place.packet
    → IsInside capture place → place.step ≤ steps_of machine (slice_get capture (place.packet - 1))
    → IsOk (answer machine capture place x) ⊎ (answer machine capture place x ≡ Err NoPackets)
taken machine [] place x one inside steps = inr refl
taken machine (r ∷ more) place x one inside steps =
    let within = inside (omega arith) in
    let steps_in = steps_of machine (slice_get (r ∷ more) (place.packet - 1)) in
    inl (ok-all (length (r ∷ more) == 0) (has_packet (r ∷ more) place.packet) (nat_le place.step steps_in) x NoPackets
    (NoStep steps_in) NoPacket (grind (arith, nat_tests)) (grind (arith, nat_tests)) (grind (arith, nat_tests)))

pub resumable : (stands_for : List Registers → Type 0) (program : Option (List Insn)) (values : Values)
    (capture : Option Savefile) (w : Cursor) (m : View) → Fits stands_for program values capture w
    → m.program ≡ program → m.values ≡ values → m.capture ≡ capture → is_some program ≡ true
    → is_some capture ≡ true → IsResumable m w.place
resumable stands_for None values capture w m h p v c some held = absurd cc
resumable stands_for (Some list) values None w m h p v c some held = absurd cc
resumable stands_for (Some list) values (Some file) w m h p v c some held = λ n np nv nc.
    rw (np ∙ p, nv ∙ v, nc ∙ c) (taken (machine_of list values) file.records w.place _
    (let from_one = h.0.from_one in let ordered = h.0.ordered in omega arith) h.2
    (steps-at (machine_of list values) file.records w.place.packet w.place.step w.state h.0.at))
