use Rattle.std.proofs.Common.{arith}
use Rattle.cbpf_dbg.proofs.CursorLemmas.{counts-at}
use Rattle.cbpf_dbg.proofs.cursor.Cursor.at.Goals as goal

pub returns-clause-stands : goal.returns-clause-stands
returns-clause-stands c = λ list capture sound within entry.
    record {
      sound = sound;
      from_one = c.requires;
      ordered = omega arith;
      within = within;
      at = entry;
      counted = counts-at list capture c.args.place.packet;
    }
