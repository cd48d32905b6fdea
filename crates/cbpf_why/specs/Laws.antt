-- What the verdicts and the totals of a report are, by the outcomes of packets (Linux Documentation/networking/filter: a
-- packet passes where a run of the filter on it returns a number other than 0); that a text is one filter or none; what
-- the packets of a group share; and that the counts of a graph agree.
use Rattle.std.specs.Prelude.{◌≡◌, ◌≢◌, ◌⊎◌, ◌<◌, ◌*◌, ◌+◌, ◌==◌, ℕ, zero, suc, true, All, List, length, slice_get, sum_by, if◌then◌else◌}
use Rattle.cbpf_code.specs.Sound.{IsSound}
use Rattle.cbpf_code.specs.declared.insn.Insn.{Insn}
use Rattle.cbpf_machine.specs.declared.outcome.End.{End}
use Rattle.cbpf_machine.specs.declared.outcome.End.TheVariants.{Returned, Outside, ZeroDivisor, Unknown}
use Rattle.cbpf_machine.specs.Machine.{Machine}
use Rattle.cbpf_machine.specs.Trace.{outcome}
use Rattle.cbpf_reply.specs.Counts.{counts_of, outcomes_of}
use Rattle.pcap_classic.specs.Records.{Record}
use Rattle.cbpf_why.specs.declared.ended.EndedBy.{EndedBy}
use Rattle.cbpf_why.specs.declared.ended.Verdict.{Verdict}
use Rattle.cbpf_why.specs.declared.filter.FilterFault.{FilterFault, TheVariants.Memory}
use Rattle.cbpf_why.specs.Filters.{IsFilter, IsNoFilter}
use Rattle.cbpf_why.specs.Ends.{decided, decided_of, ended, ends_of, kind_of, only_ended_of, verdict_of}
use Rattle.cbpf_why.specs.Graph.{Edge, block_of, edges_of, ended_in, facts_at, is_last}
use Rattle.cbpf_why.specs.Groups.{ended_with, group, is_in_group, row, totals}
use Rattle.cbpf_why.specs.Runs.{executed}

-- the verdict on a packet is the kind of its outcome
abbrev pub VerdictIsOutcome : Type 0
VerdictIsOutcome = (m : Machine) (r : Record) → verdict_of (ended m r).reason ≡ kind_of (outcome m r.bytes r.wire)

-- the totals count the outcomes
abbrev pub TotalsCountOutcomes : Type 0
TotalsCountOutcomes = (m : Machine) (records : List Record) → totals (ends_of m records) ≡ counts_of (outcomes_of m records)

-- ---- filters

-- a text has one program at most
abbrev pub OneProgram : Type 0
OneProgram = (text : List ℕ) (a b : List Insn) → IsFilter text a → IsFilter text b → a ≡ b

-- out of memory aside, a text is refused for one reason
abbrev pub OneReason : Type 0
OneReason = (text : List ℕ) (f g : FilterFault) → f ≢ Memory → g ≢ Memory → IsNoFilter text f → IsNoFilter text g → f ≡ g

-- no text that has a program is refused for another reason than out of memory
abbrev pub NeverBoth : Type 0
NeverBoth = (text : List ℕ) (list : List Insn) (f : FilterFault) → IsFilter text list → IsNoFilter text f → f ≡ Memory

-- each text has a program, or is refused for another reason than out of memory
abbrev pub EachAnswered : Type 0
EachAnswered = (text : List ℕ) → ((list : List Insn) × IsFilter text list)
    ⊎ ((f : FilterFault) × (f ≢ Memory) × IsNoFilter text f)

-- ---- groups, of which there is one for each row and verdict; all of a checked program

-- a packet is in one group, and in no other
pub record InOneGroup (n : ℕ) (d : EndedBy) : Type 0 where
  pub inside : row d < 2 * n
  pub there : is_in_group (row d) (verdict_of d.ended.reason) d ≡ true
  pub alone : (i : ℕ) (v : Verdict) → is_in_group i v d ≡ true → (i ≡ row d) × (v ≡ verdict_of d.ended.reason)

-- each record is in exactly one group
abbrev pub EachInOneGroup : Type 0
EachInOneGroup = (m : Machine) → IsSound m.list → (r : Record) → InOneGroup (length m.list) (decided m r)

-- the sum of the first n values of f
abbrev pub sum_of_first : (ℕ → ℕ) → ℕ → ℕ
sum_of_first f zero = 0
sum_of_first f (suc n) = sum_of_first f n + f n

-- the counts of a verdict's groups sum to its total
abbrev pub GroupsSumToTotals : Type 0
GroupsSumToTotals = (m : Machine) → IsSound m.list → (records : List Record) (v : Verdict)
    → sum_of_first (λ i. length (group (decided_of m records) i v)) (2 * length m.list) ≡ ended_with (ends_of m records) v

-- why a packet ended, without the value that was returned
abbrev pub without_value : End → End
without_value (Returned v) = Returned 0
without_value Outside = Outside
without_value ZeroDivisor = ZeroDivisor
without_value (Unknown e) = Unknown e

-- two packets ended at the same instruction for the same reason, and the same way of the same jump decided, if one did
pub record SameEnd (d e : EndedBy) : Type 0 where
  pub pc : d.ended.pc ≡ e.ended.pc
  pub by : d.by ≡ e.by
  pub reason : without_value d.ended.reason ≡ without_value e.ended.reason

-- all packets of a group ended so
abbrev pub GroupsEndAlike : Type 0
GroupsEndAlike = (m : Machine) → IsSound m.list → (i : ℕ) (v : Verdict) (r s : Record)
    → is_in_group i v (decided m r) ≡ true → is_in_group i v (decided m s) ≡ true → SameEnd (decided m r) (decided m s)

-- ---- the graph

-- the edges from an instruction at the end of a block, as the graph of some records has them
abbrev pub edges_at : Machine → List Record → ℕ → List Edge
edges_at m records i = edges_of i (facts_at m records (only_ended_of m records) i) (slice_get m.list i)

-- how many packets ended at an instruction, where it is one of a block
abbrev pub ended_in_block : Machine → List Record → ℕ → ℕ → ℕ
ended_in_block m records block j =
    if block_of m.list j == block then ended_in (facts_at m records (only_ended_of m records) j) else 0

-- the runs of a block are the sum of the counts of the edges from it and of the packets that ended in it
abbrev pub BlocksSum : Type 0
BlocksSum = (m : Machine) → IsSound m.list → (records : List Record) (i : ℕ) → i < length m.list → is_last m.list i ≡ true
    → executed m records (block_of m.list i)
    ≡ sum_by (λ e. e.count) (edges_at m records i)
    + sum_of_first (ended_in_block m records (block_of m.list i)) (length m.list)

-- an edge leads to the first instruction of a block, whose name the block's node has
abbrev pub LeadsToBlock : List Insn → Edge → Type 0
LeadsToBlock list e = (e.to < length list) × (block_of list e.to ≡ e.to)

-- all edges do
abbrev pub EdgesLead : Type 0
EdgesLead = (m : Machine) → IsSound m.list → (records : List Record) (i : ℕ) → i < length m.list → is_last m.list i ≡ true
    → All (LeadsToBlock m.list) (edges_at m records i)
