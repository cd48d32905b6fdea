-- How a packet ends, where and why there (Linux Documentation/networking/filter: a filter runs to a return, whose value
-- decides; the words are this project's own).
use Rattle.std.specs.Prelude.{ℕ, Bool, true, false, List, [], ◌∷◌, ◌++◌, codes, decimal, map, Option, None}
use Rattle.cbpf_code.specs.Extension.{ext_name}
use Rattle.cbpf_code.specs.Listing.{line_text}
use Rattle.cbpf_code.specs.Text.{concat}
use Rattle.cbpf_code.specs.declared.insn.Insn.{Insn}
use Rattle.cbpf_machine.specs.Machine.{Machine}
use Rattle.cbpf_machine.specs.Registers.{Registers, zero_state}
use Rattle.cbpf_machine.specs.InPlace.{turn_of}
use Rattle.cbpf_machine.specs.Trace.{trace, last_or, outcome_of}
use Rattle.cbpf_machine.specs.Turn.{turn}
use Rattle.cbpf_machine.specs.Choices.{last_choice}
use Rattle.cbpf_machine.specs.declared.follow.Choice.{Choice}
use Rattle.cbpf_machine.specs.declared.outcome.Turn.{Turn}
use Rattle.cbpf_machine.specs.declared.outcome.Turn.TheVariants as turn_is
use Rattle.cbpf_machine.specs.declared.outcome.End.{End}
use Rattle.cbpf_machine.specs.declared.outcome.End.TheVariants.{Returned, Outside, ZeroDivisor, Unknown}
use Rattle.cbpf_machine.specs.declared.outcome.Outcome.{Outcome}
use Rattle.cbpf_machine.specs.declared.outcome.Outcome.TheVariants as outcome_is
use Rattle.pcap_classic.specs.Records.{Record}
use Rattle.cbpf_why.specs.declared.ended.Verdict.{Verdict}
use Rattle.cbpf_why.specs.declared.ended.Verdict.TheVariants as verdict_is
use Rattle.cbpf_why.specs.declared.ended.Ended.{Ended}
use Rattle.cbpf_why.specs.declared.ended.EndedBy.{EndedBy}

-- the kind of an outcome
abbrev pub kind_of : Outcome → Verdict
kind_of (outcome_is.Pass v) = verdict_is.Pass
kind_of outcome_is.Fail = verdict_is.Fail
kind_of (outcome_is.Unknown e) = verdict_is.Unknown

-- the verdict on a packet that ends for this reason: the kind of the outcome of its last turn
abbrev pub verdict_of : End → Verdict
verdict_of reason = kind_of (outcome_of (turn_of reason))

-- whether two verdicts are the same
abbrev pub is_verdict : Verdict → Verdict → Bool
is_verdict verdict_is.Pass verdict_is.Pass = true
is_verdict verdict_is.Fail verdict_is.Fail = true
is_verdict verdict_is.Unknown verdict_is.Unknown = true
is_verdict _ _ = false

-- how a turn ends a packet; `Next` is no last turn
abbrev pub end_by : Turn → End
end_by (turn_is.Next s) = Outside
end_by (turn_is.Returned v) = Returned v
end_by turn_is.Outside = Outside
end_by turn_is.ZeroDivisor = ZeroDivisor
end_by (turn_is.Unknown e) = Unknown e

-- how a packet ends, by the state before the last instruction that it executes
abbrev pub ended_at : Machine → Record → Registers → Ended
ended_at m r s = record { packet = r.number; pc = s.pc; reason = end_by (turn m r.bytes r.wire s) }

-- how a packet ends: its number, its last instruction, and what the turn there gave
abbrev pub ended : Machine → Record → Ended
ended m r = ended_at m r (last_or zero_state (trace m r.bytes r.wire))

-- how packets end
abbrev pub ends_of : Machine → List Record → List Ended
ends_of m records = map (ended m) records

-- the last conditional jump of a packet that ended for this reason, where it decided: where the packet returned
abbrev pub deciding : {T : Type 0} → End → Option T → Option T
deciding (Returned v) last = last
deciding Outside last = None
deciding ZeroDivisor last = None
deciding (Unknown e) last = None

-- how a packet ends, and which conditional jump decided that, if one did: the last one before a return
abbrev pub decided : Machine → Record → EndedBy
decided m r = record {
  ended = ended m r;
  by = deciding (ended m r).reason (last_choice m.list (trace m r.bytes r.wire));
}

-- how packets end, each with what decided it
abbrev pub decided_of : Machine → List Record → List EndedBy
decided_of m records = map (decided m) records

-- the same without the jump
abbrev pub only_ended : Machine → Record → EndedBy
only_ended m r = record { ended = ended m r; by = None }

-- how packets end, each with no jump beside
abbrev pub only_ended_of : Machine → List Record → List EndedBy
only_ended_of m records = map (only_ended m) records

-- ---- the words for it

-- the word for a verdict
abbrev pub verdict_text : Verdict → List ℕ
verdict_text verdict_is.Pass = codes "pass"
verdict_text verdict_is.Fail = codes "fail"
verdict_text verdict_is.Unknown = codes "unknown"

-- the word for whether a comparison held
abbrev pub truth_text : Bool → List ℕ
truth_text true = codes "true"
truth_text false = codes "false"

-- a conditional jump, and whether its comparison held
abbrev pub test_text : List Insn → Choice → List ℕ
test_text list c = concat (line_text list c.pc ∷ codes ", " ∷ truth_text c.taken ∷ [])

-- the word for the verdict of a packet that ended
abbrev pub verdict_in : Ended → List ℕ
verdict_in e = verdict_text (verdict_of e.reason)

-- the value that was returned, or why it ended without one
abbrev pub reason_text : End → List ℕ
reason_text (Returned v) = decimal v
reason_text Outside = codes "outside the packet"
reason_text ZeroDivisor = codes "division by 0"
reason_text (Unknown e) = ext_name e ++ codes " has no value"

-- the same after other words; nothing for a return: what a `ret #k` returns stands in the text of its instruction, and
-- what a `ret a` returns isn't written here
abbrev pub reason_after : End → List ℕ
reason_after (Returned v) = []
reason_after Outside = codes ", outside the packet"
reason_after ZeroDivisor = codes ", division by 0"
reason_after (Unknown e) = codes ", " ++ (ext_name e ++ codes " has no value")
