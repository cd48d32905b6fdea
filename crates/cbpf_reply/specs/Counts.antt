-- Places, and counts of packets (the kernel's Documentation/networking/filter shows the counts of `run` for
-- `bpf_dbg`; the rest is this project's own).
use Rattle.std.specs.Prelude.{ℕ, ◌==◌, if◌then◌else◌, List, [], ◌∷◌, ◌++◌, codes, count_by, decimal, map}
use Rattle.cbpf_code.specs.Text.{concat, with_number, with_numbers}
use Rattle.cbpf_machine.specs.Machine.{Machine}
use Rattle.cbpf_machine.specs.Outcomes.{is_fail, is_pass, is_unknown}
use Rattle.cbpf_machine.specs.Trace.{outcome}
use Rattle.cbpf_machine.specs.declared.outcome.Outcome.{Outcome}
use Rattle.pcap_classic.specs.Records.{Record}
use Rattle.cbpf_reply.specs.declared.reply.Counts.{Counts}
use Rattle.cbpf_reply.specs.declared.reply.Place.{Place}

-- the outcomes of packets
abbrev pub outcomes_of : Machine → List Record → List Outcome
outcomes_of machine records = map (λ r. outcome machine r.bytes r.wire) records

-- how many of them pass, fail, and ask for an extension without a value
abbrev pub counts_of : List Outcome → Counts
counts_of all = record { passes = count_by is_pass all; fails = count_by is_fail all; unknown = count_by is_unknown all }

-- a place after a text
abbrev pub place_after : List ℕ → Place → List ℕ
place_after before p = with_numbers before p.packet (codes " ") p.step (codes "\n")

-- a place on a line of its own
unfoldable pub place_text : Place → List ℕ
place_text p = place_after [] p

-- the place that a command went to
unfoldable pub at_text : Place → List ℕ
at_text p = place_after (codes "at ") p

-- how many packets asked for an extension without a value, where one did
abbrev pub unknown_text : ℕ → List ℕ
unknown_text n = if n == 0 then [] else concat (codes " unknown:" ∷ decimal n ∷ [])

-- how many packets passed and failed, and how many asked for an extension without a value
unfoldable pub counts_text : Counts → List ℕ
counts_text n = with_numbers (codes "bpf passes:") n.passes (codes " fails:") n.fails [] ++ unknown_text n.unknown

-- the reply of a run that came to its limit: the counts, and the next packet
abbrev pub limit_text : Counts → ℕ → List ℕ
limit_text n packet = counts_text n ++ with_number (codes " next:") packet (codes "\n")

-- the reply of a run that came to the capture's end
abbrev pub finished_text : Counts → List ℕ
finished_text n = counts_text n ++ codes "\n"
