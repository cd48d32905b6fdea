use Rattle.std.proofs.Common.{◌≡◌, ◌-◌, ◌≤◌, length, take, option_map}
use Rattle.std.specs.List.{flat_map}
use Rattle.cbpf_code.specs.Writing.{Appended}
use Rattle.cbpf_machine.specs.Machine.{machine_of}
use Rattle.cbpf_machine.specs.OnPacket.{IsOnTrace, on_packet, trace_in}
use Rattle.pcap_classic.specs.Lent.{record_of}
use Rattle.cbpf_machine.specs.Choices.{last_test}
use Rattle.cbpf_why.specs.Traces.{step_text, test_of}
use Rattle.cbpf_why.proofs.traces.write_steps.Given as goal

abbrev pub invariant-turns : goal.invariant-turns
invariant-turns g l = record {
  here : IsOnTrace (on_packet l.p l.values l.packet) l.meter l.s;
  rises : l.meter ≤ l.s.pc;
  written : Appended (g.W.Write.contents l.fn.w) (g.W.Write.contents l.w)
      (flat_map (step_text l.long (machine_of l.p l.values) (record_of l.item)) (take l.meter (trace_in (on_packet l.p l.values l.packet))));
  test : l.test ≡ option_map (test_of l.p) (last_test l.p (take l.meter (trace_in (on_packet l.p l.values l.packet))));
}

abbrev pub decreases-turns : goal.decreases-turns
decreases-turns g l = length l.p - l.s.pc
