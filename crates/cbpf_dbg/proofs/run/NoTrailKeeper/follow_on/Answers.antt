use Rattle.std.proofs.Common.{◌-◌}
use Rattle.cbpf_machine.specs.OnPacket.{in_task}
use Rattle.cbpf_machine.proofs.TraceLemmas.{ahead_at, goes_from_entry}
use Rattle.cbpf_dbg.proofs.run.NoTrailKeeper.follow_on.Goals as goal

pub follow_on-requires-clause-inside : goal.follow_on-requires-clause-inside
follow_on-requires-clause-inside g c =
    let at = c.requires.keeps in
    (goes_from_entry _ c.requires.sound (at.0 - 1) c.args.state.now at.1.entry).inside

pub returns : goal.returns
returns g c =
    let ahead = ahead_at (in_task c.args.task.now) c.requires.sound in
    record {
      follows = λ k at. rw (ahead k _ at.from_one at.entry).0 at (rw (ahead k _ at.from_one at.entry).1 at c.follow_on.ensures.follows);
      turns = λ k at. rw (ahead k _ at.from_one at.entry).0 at c.follow_on.ensures.turns;
      stands = λ k at n is. tt;
    }
