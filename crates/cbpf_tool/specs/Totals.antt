-- What `cbpf why` counts of a capture is what the debugger's `run` counts of it (this project's own).
use Rattle.std.specs.Prelude.{◌≡◌, ◌+◌, ℕ, List, count_by, length, nat_eq}
use Rattle.cbpf_dbg.specs.Joined.{counts, joined}
use Rattle.cbpf_dbg.specs.Machine.{Machine}
use Rattle.cbpf_why.specs.Ends.{ends_of}
use Rattle.cbpf_why.specs.Groups.{totals}
use Rattle.cbpf_why.specs.Runs.{executed}
use Rattle.pcap_classic.specs.Records.{Record}

-- the totals of the ends of all packets are the counts of a run from packet 1 to the end
abbrev pub SameTotals : Type 0
SameTotals = (m : Machine) (capture : List Record) → totals (ends_of m capture) ≡ counts m capture 1 (length capture + 1)

-- how often an instruction ran over all packets is how many entries of their joined traces stand at it
abbrev pub RunsCountEntries : Type 0
RunsCountEntries = (m : Machine) (capture : List Record) (i : ℕ)
    → executed m capture i ≡ count_by (λ e. nat_eq e.state.pc i) (joined m capture)
