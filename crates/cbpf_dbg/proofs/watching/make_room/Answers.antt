use Rattle.std.proofs.Common.{sym, ◌∙◌, refl}
use Rattle.cbpf_dbg.proofs.CarryLemmas.{room-there}
use Rattle.cbpf_dbg.proofs.watching.make_room.Goals as goal

pub returns-then-contains_key-clause-here : goal.returns-then-contains_key-clause-here
returns-then-contains_key-clause-here g c = room-there c.args.i c.args.breakpoints.now.entries _ _ refl
    (sym c.contains_key.ensures ∙ c.if-contains_key.true) c.requires.room
