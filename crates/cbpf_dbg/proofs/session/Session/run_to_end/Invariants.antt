use Rattle.cbpf_machine.specs.Machine.{Machine}
use Rattle.pcap_classic.specs.Savefile.{Savefile}
use Rattle.cbpf_dbg.specs.Commands.{stops}
use Rattle.cbpf_dbg.proofs.WholeLemmas.{Going, how_many}
use Rattle.cbpf_dbg.proofs.session.Session.run_to_end.Given as goal

abbrev pub invariant-runs : goal.invariant-runs
invariant-runs g l =
    record {
      going : (machine : Machine) × (c : Savefile)
          × Going machine c l.initial.self l.self l.initial.found.items l.found.items l.initial.meter l.meter;
    }

abbrev pub decreases-runs : goal.decreases-runs
decreases-runs g l = how_many (stops l.self)
