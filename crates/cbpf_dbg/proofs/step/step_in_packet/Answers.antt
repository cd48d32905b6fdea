use Rattle.std.proofs.Common.{arith, refl, rules}
use Rattle.cbpf_dbg.specs.declared.cursor.Moved.TheVariants as moved
use Rattle.pcap_classic.specs.Lent.{record_of}
use Rattle.cbpf_dbg.specs.Loaded.{machine_in, records_in}
use Rattle.cbpf_dbg.proofs.CountLemmas.{countable}
use Rattle.cbpf_dbg.proofs.KeepLemmas.{kept_here, keeps_followed}
use Rattle.cbpf_dbg.proofs.StepLemmas.{on_by, out_by, steps_fit_by}
use Rattle.cbpf_dbg.proofs.step.step_in_packet.Goals as goal

pub apply-requires-clause-counts : goal.apply-requires-clause-counts
apply-requires-clause-counts g c = countable _ _ c.args.cursor.now c.requires.stands c.args.loaded.now.few

pub apply-requires-clause-steps : goal.apply-requires-clause-steps
apply-requires-clause-steps g c = λ n e.
    let kept = kept_here (λ xs. g.T.Trail.stands_for c.args.trail.now xs) (machine_in c.args.loaded.now)
    (records_in c.args.loaded.now) c.args.cursor.now (record_of c.args.here.now) (g.T.Trail.kept c.args.trail.now) c.requires.stands
    c.requires.here c.requires.begun c.requires.keeps (λ ys h. g.met.T.Trail.as_long c.args.trail.now ys h) in
    let fit = steps_fit_by _ _ c.args.cursor.now (record_of c.args.here.now) c.requires.stands c.requires.here c.requires.begun
    c.min-most.result n c.advance-followed.new.s (rw (c.task_of-task.ensures, kept, e) at c.advance-followed.ensures.follows) in
    omega (arith, fit)

pub returns-in-Entry : goal.returns-in-Entry
returns-in-Entry g c =
    let kept = kept_here (λ xs. g.T.Trail.stands_for c.args.trail.now xs) (machine_in c.args.loaded.now)
    (records_in c.args.loaded.now) c.args.cursor.now (record_of c.args.here.now) (g.T.Trail.kept c.args.trail.now) c.requires.stands
    c.requires.here c.requires.begun c.requires.keeps (λ ys h. g.met.T.Trail.as_long c.args.trail.now ys h) in
    let on = on_by _ _ c.args.cursor.now (record_of c.args.here.now) c.requires.stands c.requires.here c.requires.begun
    c.advance-followed.new.s c.apply.new.self c.min-most.result c.args.n c.args.meter.now c.advance-followed.new.meter
    c.min-most.ensures (rw (c.task_of-task.ensures, kept) at c.advance-followed.ensures.turns) c.advance-followed.result
    c.in-Entry.ensures.moved c.in-Entry.ensures.cursor (rw (c.task_of-task.ensures, kept) at c.advance-followed.ensures.follows) in
    record {
      stands = on.0;
      origin = search rules;
      keeps = λ _. keeps_followed (λ xs. g.T.Trail.stands_for c.advance-followed.new.self xs) _ _ c.args.cursor.now
          (record_of c.args.here.now) c.requires.here c.advance-followed.result c.advance-followed.new.s moved.Entry
          c.apply.new.self c.in-Entry.ensures.cursor c.in-Entry.ensures.moved
          (rw (c.task_of-task.ensures, kept) at c.advance-followed.ensures.stands) refl;
      on = λ _. on.1;
      out = tt;
    }

pub returns-in-Packet : goal.returns-in-Packet
returns-in-Packet g c =
    let kept = kept_here (λ xs. g.T.Trail.stands_for c.args.trail.now xs) (machine_in c.args.loaded.now)
    (records_in c.args.loaded.now) c.args.cursor.now (record_of c.args.here.now) (g.T.Trail.kept c.args.trail.now) c.requires.stands
    c.requires.here c.requires.begun c.requires.keeps (λ ys h. g.met.T.Trail.as_long c.args.trail.now ys h) in
    let out = out_by _ _ c.args.cursor.now (record_of c.args.here.now) c.requires.stands c.requires.here c.requires.begun
    c.advance-followed.new.s c.apply.new.self c.min-most.result c.args.n c.args.meter.now c.advance-followed.new.meter
    c.min-most.ensures (rw (c.task_of-task.ensures, kept) at c.advance-followed.ensures.turns) c.advance-followed.result
    c.in-Packet.ensures.moved c.in-Packet.ensures.cursor (rw (c.task_of-task.ensures, kept) at c.advance-followed.ensures.follows) in
    record {
      stands = out.0;
      origin = search rules;
      keeps = λ e. absurd cc;
      on = λ e. absurd cc;
      out = rw (c.spent.ensures, c.spent-before.ensures) out.1;
    }
