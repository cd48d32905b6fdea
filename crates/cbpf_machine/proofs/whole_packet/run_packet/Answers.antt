use Rattle.cbpf_machine.specs.OnPacket.{on_packet}
use Rattle.cbpf_machine.proofs.TraceLemmas.{trace-is_run}
use Rattle.cbpf_machine.proofs.whole_packet.run_packet.Goals as goal

pub returns-clause-whole : goal.returns-clause-whole
returns-clause-whole g c = trace-is_run (on_packet c.args.p.now c.args.values.now c.args.packet) c.len-sound.ensures.sound
