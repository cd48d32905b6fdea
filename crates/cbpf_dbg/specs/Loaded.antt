-- The machine, the records and the breakpoints of a `Loaded` (src/loaded.rt). The commands of a session and its iterator
-- `Stops` (src/stops.rt) go over these.
use Rattle.std.specs.Prelude.{List}
use Rattle.cbpf_machine.specs.Machine.{Machine, machine_of}
use Rattle.pcap_classic.specs.Records.{Record}
use Rattle.cbpf_dbg.specs.Breakpoints.{Breakpoints}
use Rattle.cbpf_dbg.specs.declared.loaded.Loaded.{Loaded}

-- the program that is loaded, with its values
abbrev pub machine_in : {A : Type 0} → Loaded A → Machine
machine_in l = machine_of l.program.now l.values.now

-- the records of the capture that is loaded
abbrev pub records_in : {A : Type 0} → Loaded A → List Record
records_in l = l.capture.now.records

-- the breakpoints that are set
abbrev pub breakpoints_in : {A : Type 0} → Loaded A → Breakpoints
breakpoints_in l = l.breakpoints.now.entries
