-- How the parts of a session fit together. No public clause names it.
use Rattle.std.specs.Prelude.{◌≡◌, ℕ, ◌<◌, ◌≤◌, List, Bool, true, Option, Some, None, length, take}
use Rattle.std.specs.Prelude.{◌≢◌, nat_eq}
use Rattle.std.specs.Map.{lookup}
use Rattle.cbpf_machine.specs.declared.pause.When.{When}
use Rattle.cbpf_code.specs.declared.insn.Insn.{Insn}
use Rattle.cbpf_code.specs.Sound.{IsSound}
use Rattle.cbpf_machine.specs.Registers.{Registers}
use Rattle.cbpf_machine.specs.Values.{Values}
use Rattle.cbpf_machine.specs.Machine.{Machine, machine_of}
use Rattle.cbpf_machine.specs.Turn.{turn, asked}
use Rattle.cbpf_machine.specs.Follow.{Watching, Knows, KnowsEach, is_watched, room_in}
use Rattle.cbpf_machine.specs.Trace.{entry_at}
use Rattle.pcap_classic.specs.Records.{Record, StartsAt}
use Rattle.pcap_classic.specs.Savefile.{Savefile}
use Rattle.cbpf_reply.specs.declared.reply.Place.{Place}
use Rattle.cbpf_dbg.specs.declared.cursor.Cursor.{Cursor}
use Rattle.cbpf_dbg.specs.Breakpoints.{Breakpoints, carries}
use Rattle.cbpf_dbg.specs.Joined.{is_hit_by}
use Rattle.cbpf_dbg.specs.View.{first_place}
use Rattle.cbpf_dbg.specs.Cursor.{Stands}
use Rattle.cbpf_dbg.specs.Here.{Keeps}

-- the state is the k-th of some entries, counted from 1, and what is kept stands for the entries up to it
pub record KeepsTo (stands_for : List Registers → Type 0) (xs : List Registers) (k : ℕ) (s : Registers) : Type 0 where
  pub from_one : 1 ≤ k
  pub entry : entry_at xs k ≡ Some s
  pub stands : stands_for (take k xs)

-- the place isn't after the last packet, where there is one
abbrev pub IsInside : List Record → Place → Type 0
IsInside capture place = 0 < length capture → place.packet ≤ length capture

-- with a program and a capture the cursor stands at its place, else at the start
abbrev pub Fits : (List Registers → Type 0) → Option (List Insn) → Values → Option Savefile → Cursor → Type 0
Fits stands_for (Some list) values (Some c) w =
    Stands (machine_of list values) c.records w × Keeps stands_for (machine_of list values) c.records w.place
    × IsInside c.records w.place × StartsAt c.records w.place.packet w.start
Fits stands_for _ values _ w = (w.place ≡ first_place) × (w.origin ≡ 1)

-- no turn of a machine asks for an extension that has no value
abbrev pub NeedsNoValue : Machine → Type 0
NeedsNoValue machine = (bytes : List ℕ) (wire : ℕ) (s : Registers) → s.pc < length machine.list
    → asked (turn machine bytes wire s) ≡ None

-- at the first n instructions the entries that are watched are the hits
abbrev pub WatchesTo : Watching → Machine → Breakpoints → ℕ → Type 0
WatchesTo watched machine breakpoints n = (bytes : List ℕ) (wire : ℕ) (s : Registers) → s.pc < n
    → is_watched watched s ≡ is_hit_by breakpoints s (turn machine bytes wire s)

-- at all of them, and the others are carried out by their own code
pub record Watches (watched : Watching) (machine : Machine) (breakpoints : Breakpoints) : Type 0 where
  pub hits_are : WatchesTo watched machine breakpoints (length machine.list)
  pub knows : KnowsEach (λ i insn. Knows watched i insn) machine.list

-- there is room for the condition of each breakpoint
abbrev pub KeepsRoom : Breakpoints → ℕ → Type 0
KeepsRoom breakpoints room = (i : ℕ) (when : When) → lookup (nat_eq i) breakpoints ≡ Some when → i < room

-- the breakpoints at other instructions than i are the same
abbrev pub IsSameBut : ℕ → Breakpoints → Breakpoints → Type 0
IsSameBut i before after = (s : Registers) → s.pc ≢ i → carries after s ≡ carries before s

-- what is known of a program
abbrev pub IsKnown : Bool → Watching → Option (List Insn) → Values → Breakpoints → Type 0
IsKnown needs_no_value watched (Some list) values breakpoints =
    (needs_no_value ≡ true → NeedsNoValue (machine_of list values))
    × Watches watched (machine_of list values) breakpoints × KeepsRoom breakpoints (room_in watched) × IsSound list
IsKnown needs_no_value watched None values breakpoints = Unit {0}
