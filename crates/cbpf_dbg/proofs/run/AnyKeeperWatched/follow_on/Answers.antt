use Rattle.std.proofs.Common.{arith}
use Rattle.cbpf_machine.specs.OnPacket.{in_task}
use Rattle.cbpf_machine.proofs.FollowLemmas.{few_entries}
use Rattle.cbpf_dbg.proofs.KeepLemmas.{keeps_as_many}
use Rattle.cbpf_dbg.proofs.run.AnyKeeperWatched.follow_on.Goals as goal

pub follow-requires : goal.follow-requires
follow-requires g c =
    let at = c.requires.keeps.1 in
    let kept = keeps_as_many (λ xs. g.T.Trail.stands_for c.args.self.now xs) _ _ _ _ at
    (g.met.T.Trail.as_long c.args.self.now) in
    record {
      from_one = rw kept at.from_one;
      of_trace = rw kept at.stands;
      last = rw kept at.entry;
      spare = omega (arith, few_entries (in_task c.args.task.now) c.requires.sound, c.requires.spare);
      knows = c.requires.knows;
    }

pub returns : goal.returns
returns g c =
    record {
      follows = λ k at. rw (keeps_as_many (λ xs. g.T.Trail.stands_for c.args.self.now xs) _ k _ _ at
          (g.met.T.Trail.as_long c.args.self.now)) at c.follow.ensures.follows;
      turns = λ k at. rw (keeps_as_many (λ xs. g.T.Trail.stands_for c.args.self.now xs) _ k _ _ at
          (g.met.T.Trail.as_long c.args.self.now)) at c.follow.ensures.turns;
      stands = λ k at. rw (keeps_as_many (λ xs. g.T.Trail.stands_for c.args.self.now xs) _ k _ _ at
          (g.met.T.Trail.as_long c.args.self.now)) at c.follow.ensures.stands;
    }
