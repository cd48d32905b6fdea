-- What was taken of a capture, packet by packet (this project's own). No public clause names it.
use Rattle.std.specs.Prelude.{◌≡◌, ℕ, ◌+◌, ◌<◌, ◌≤◌, nat_le, Bool, true, false, List, [], ◌++◌, length, filter, map, slice_get, if◌then◌else◌}
use Rattle.std.specs.Prelude.{Option, Some, None, IfSome, ◌^◌, Result, Ok, Err}
use Rattle.cbpf_machine.specs.Machine.{Machine}
use Rattle.cbpf_machine.specs.Choices.{Counted, runs_at}
use Rattle.pcap_classic.specs.Reading.{NeedsRoom, Reading}
use Rattle.pcap_classic.specs.Records.{Record}
use Rattle.pcap_classic.specs.Savefile.{Savefile}
use Rattle.cbpf_why.specs.declared.chosen.PacketRange.{PacketRange}
use Rattle.cbpf_why.specs.declared.ended.EndedBy.{EndedBy}
use Rattle.cbpf_why.specs.declared.gathered.Gathered.{Gathered}
use Rattle.cbpf_why.specs.declared.question.Question.{Question}
use Rattle.cbpf_why.specs.declared.report.Report.{Report}
use Rattle.cbpf_why.specs.declared.report.Report.TheVariants.{Summary, Traces, Packets, Coverage, Graph}
use Rattle.cbpf_why.specs.Chosen.{chosen}
use Rattle.cbpf_why.specs.Columns.{IsLongest}
use Rattle.cbpf_why.specs.Ends.{decided, only_ended}
use Rattle.cbpf_why.specs.Groups.{KeepsAll}
use Rattle.cbpf_why.specs.Question.{machine_in}
use Rattle.cbpf_why.specs.Reports.{ReadsWithin, goes_to_end, packets_text}
use Rattle.cbpf_why.specs.Runs.{executed, taken}
use Rattle.cbpf_code.specs.Writing.{Appended, AppendedPart}
use Rattle.cbpf_why.specs.declared.reporting.WhyFault.{WhyFault}
use Rattle.cbpf_why.specs.declared.reporting.WhyFault.TheVariants.{Read, Write, Memory}

-- the reports for which groups of packets are counted, and those for which it is counted how often instructions ran;
-- `Coverage` shows only the second, but both are counted for it
abbrev pub counts_groups : Report → Bool
counts_groups Summary = true
counts_groups Coverage = true
counts_groups Graph = true
counts_groups Traces = false
counts_groups Packets = false

abbrev pub counts_runs : Report → Bool
counts_runs Coverage = true
counts_runs Graph = true
counts_runs Summary = false
counts_runs Traces = false
counts_runs Packets = false

-- what the groups keep of a packet: the summary alone names the jump that decided
abbrev pub kept_end : Report → Machine → Record → EndedBy
kept_end Summary m r = decided m r
kept_end Coverage m r = only_ended m r
kept_end Graph m r = only_ended m r
kept_end Traces m r = only_ended m r
kept_end Packets m r = only_ended m r

abbrev pub kept_ends : Report → Machine → List Record → List EndedBy
kept_ends report m records = map (kept_end report m) records

-- the records where they are counted
abbrev pub where_counted : Bool → List Record → List Record
where_counted counts records = if counts then records else []

-- a tally of a machine on some records
pub record Tallies (t : Counted) (m : Machine) (records : List Record) : Type 0 where
  pub packets : t.packets ≡ length records
  pub long : length t.runs ≡ length m.list
  pub runs : (i : ℕ) → runs_at t.runs i ≡ record { executed = executed m records i; taken = taken m records i }

-- what is counted of the records that were taken, and the length of the program's longest instruction
pub record HasGathered {A P : Type 0} (q : Question P) (c : Gathered A) (records : List Record) : Type 0 where
  pub groups : KeepsAll c.groups (length q.program.now) (kept_ends q.report (machine_in q) (where_counted (counts_groups q.report) records))
  pub runs : Tallies c.tally (machine_in q) (where_counted (counts_runs q.report) records)
  pub longest : IsLongest c.longest q.program.now

-- the records of a list whose number isn't below a first one
abbrev pub from_first : ℕ → List Record → List Record
from_first first records = filter (λ r. nat_le first r.number) records

-- of what was left of a capture the first records were read, and those were taken whose number is not below a range's
-- first one
pub record TookFrom (first : ℕ) (s rest : Savefile) (before after : ℕ) (more : List Record) : Type 0 where
  pub front : List Record
  pub split : s ≡ record rest { records = front ++ rest.records }
  pub counted : after ≡ before + length front
  pub numbered : (i : ℕ) (r : Record) → slice_get front i ≡ Some r → r.number ≡ before + i + 1
  pub taken : more ≡ from_first first front

-- what is known of the capture before and after, where anything is
abbrev pub TookFromKnown : ℕ → Option Savefile → Option Savefile → ℕ → ℕ → List Record → Type 0
TookFromKnown first None new before after more = Unit {0}
TookFromKnown first (Some s) new before after more = (rest : Savefile) × (new ≡ Some rest) × TookFrom first s rest before after more

-- after some text: a fault of a write, which leaves a beginning of it; or of a read, or out of memory, which leave all
-- of it
abbrev pub LeftAfter : WhyFault → Option (List ℕ) → Option (List ℕ) → List ℕ → Type 0
LeftAfter Write old new text = AppendedPart old new text
LeftAfter Read old new text = Appended old new text
LeftAfter Memory old new text = Appended old new text

-- what is written of all packets together: all of it, or a beginning, or nothing where there was no memory
abbrev pub Closed : Option (List ℕ) → Option (List ℕ) → Result (Unit {0}) WhyFault → List ℕ → Type 0
Closed old new (Ok x) text = Appended old new text
Closed old new (Err Write) text = AppendedPart old new text
Closed old new (Err Memory) text = Appended old new []
Closed old new (Err Read) text = ⊥

-- out of memory comes where the next record of a capture that is known needs room
abbrev pub HasCause : WhyFault → Option Savefile → Reading → Type 0
HasCause Memory old new = IfSome old (λ _. IfSome new.left (λ s. NeedsRoom s.records s.ending))
HasCause Read old new = Unit {0}
HasCause Write old new = Unit {0}

-- nothing is left of a capture that is known, and its ending is known
abbrev pub IsOver : Option Savefile → Reading → Type 0
IsOver old new = IfSome old (λ _. IfSome new.left (λ s. (s.records ≡ []) × (new.ended ≡ Some s.ending)))

-- of a range: `records` were taken before it; since then the reader has come from `old` to `new`, and `more` was taken
-- too. `w` and `v` are what the writer held then and holds now
pub record Going {A P : Type 0} (q : Question P) (first : ℕ) (records : List Record) (old new : Reading)
    (c : Gathered A) (w v : Option (List ℕ)) : Type 0 where
  pub more : List Record
  pub took : HasGathered q c (records ++ more)
  pub few : length (records ++ more) ≤ new.count
  pub reads : TookFromKnown first old.left new.left old.count new.count more
  pub wrote : Appended w v (packets_text q.report (machine_in q) more)

-- what is known of a range with the reader at `old` is known of it at `new`, and nothing was written meanwhile
abbrev pub KeepsGoing : {A P : Type 0} → Question P → ℕ → Reading → Reading → Gathered A → Gathered A → Type 0
KeepsGoing q first old new c d = (start : Reading) (records : List Record) (w v : Option (List ℕ))
    → Going q first records start old c w v → Going q first records start new d w v

-- The same of all packets of a range. Where the last packet read has a number below the range's last, the end of the
-- capture was reached, if the capture is known.
pub record Ranged {A P : Type 0} (q : Question P) (range : PacketRange) (records : List Record) (old new : Reading)
    (c : Gathered A) (w v : Option (List ℕ)) : Type 0 where
  pub going : Going q range.first records old new c w v
  pub since : old.count ≤ new.count
  pub up_to : old.count < new.count → new.count ≤ range.last
  pub most : new.count < 2 ^ 60
  pub ends : new.count < range.last → IsOver old.left new

-- or a fault came, after the records that were taken last
pub record RangeFault {P : Type 0} (q : Question P) (range : PacketRange) (old new : Reading) (w v : Option (List ℕ))
    (fault : WhyFault) : Type 0 where
  pub more : List Record
  pub up_to : old.count < new.count → new.count ≤ range.last
  pub reads : TookFromKnown range.first old.left new.left old.count new.count more
  pub cause : HasCause fault old.left new
  pub stopped : LeftAfter fault w v (packets_text q.report (machine_in q) more)

-- what is known of the capture before and after a call that reads a record, if there is one
abbrev pub LeavesKnown : ℕ → Option Savefile → Option Savefile → List Record → Type 0
LeavesKnown before None new one = Unit {0}
LeavesKnown before (Some s) new one = (rest : Savefile) × (new ≡ Some rest)
    × (s ≡ record rest { records = one ++ rest.records })
    × ((r : Record) → slice_get one 0 ≡ Some r → r.number ≡ before + 1)

-- a record was read, and taken where its number isn't below `first`; or there was none
pub record Stepped {A P : Type 0} (q : Question P) (first : ℕ) (records : List Record) (old new : Reading) (c : Gathered A)
    (w v : Option (List ℕ)) (has_more : Bool) : Type 0 where
  pub one : List Record
  pub is_one : length one ≡ (if has_more then 1 else 0)
  pub took : HasGathered q c (records ++ from_first first one)
  pub count : new.count ≡ old.count + length one
  pub few : old.count < 2 ^ 60 → new.count < 2 ^ 60
  pub leaves : LeavesKnown old.count old.left new.left one
  pub ends : has_more ≡ false → IfSome old.left (λ s. (s.records ≡ []) × (new.ended ≡ Some s.ending))
  pub wrote : Appended w v (packets_text q.report (machine_in q) (from_first first one))

-- or a fault came, of the write of a record that was read, or of a read
pub record StepFault {P : Type 0} (q : Question P) (first : ℕ) (old new : Reading) (w v : Option (List ℕ)) (fault : WhyFault)
    : Type 0 where
  pub one : List Record
  pub is_few : length one ≤ 1
  pub count : new.count ≡ old.count + length one
  pub leaves : LeavesKnown old.count old.left new.left one
  pub cause : HasCause fault old.left new
  pub stopped : LeftAfter fault w v (packets_text q.report (machine_in q) (from_first first one))

-- ---- packets of several ranges

-- of a capture the first `count` records were read, and `records` are those of them that are looked at
pub record Looked (ranges : List PacketRange) (s rest : Savefile) (count : ℕ) (records : List Record) : Type 0 where
  pub front : List Record
  pub split : s ≡ record rest { records = front ++ rest.records }
  pub counted : count ≡ length front
  pub among : records ≡ chosen ranges front

abbrev pub LookedKnown : List PacketRange → Option Savefile → Option Savefile → ℕ → List Record → Type 0
LookedKnown ranges None new count records = Unit {0}
LookedKnown ranges (Some s) new count records = (rest : Savefile) × (new ≡ Some rest) × Looked ranges s rest count records

-- of the packets that were read, those that are looked at were taken
pub record Went {A P : Type 0} (q : Question P) (old new : Reading) (c : Gathered A) (w v : Option (List ℕ)) : Type 0 where
  pub records : List Record
  pub took : HasGathered q c records
  pub few : length records ≤ new.count
  pub within : ReadsWithin q.packets.now new.count
  pub known : LookedKnown q.packets.now old.left new.left new.count records
  pub wrote : Appended w v (packets_text q.report (machine_in q) records)

-- or a fault came, after the records that were taken last
pub record Broke {P : Type 0} (q : Question P) (old : Option Savefile) (new : Reading) (w v : Option (List ℕ))
    (fault : WhyFault) : Type 0 where
  pub records : List Record
  pub within : ReadsWithin q.packets.now new.count
  pub known : LookedKnown q.packets.now old new.left new.count records
  pub cause : HasCause fault old new
  pub stopped : LeftAfter fault w v (packets_text q.report (machine_in q) records)

-- the end of the capture was read, or it wasn't asked for
pub record Ends (ranges : List PacketRange) (old : Option Savefile) (new : Reading) (is_over : Bool) : Type 0 where
  pub asked : is_over ≡ goes_to_end ranges new.count
  pub over : is_over ≡ true → IsOver old new
