-- What each command of a session answers, which view it leaves, and how many turns it makes, except for a step back,
-- whose trail says it
-- (commands that `bpf_dbg` has, of Linux Documentation/networking/filter, "BPF engine and instruction set", do what they
-- do there, but for the differences that docs/KERNEL_TOOLS.md lists; the rest is this project's own).
use Rattle.std.specs.Prelude.{◌≡◌, ℕ, ◌+◌, ◌-◌, ◌*◌, zero, suc, nat_lt, nat_le, nat_eq, is_some, ◌==◌, ◌&&◌, Bool, true}
use Rattle.std.specs.Prelude.{List, [], ◌∷◌, ◌++◌, length, map, slice_get, Option, Some, None, Result, Ok, Err}
use Rattle.std.specs.Prelude.{if◌then◌else◌, ℤ, pos, negsuc, ◌⊎◌, IsOk}
use Rattle.cbpf_code.specs.declared.insn.Insn.{Insn}
use Rattle.cbpf_code.specs.declared.extension.Ext.{Ext}
use Rattle.std.specs.Option.{option_map}
use Rattle.std.specs.Result.{result_unwrap_or, result_map_both}
use Rattle.std.specs.Map.{lookup}
use Rattle.cbpf_reply.specs.declared.reply.Counts.{Counts}
use Rattle.cbpf_machine.specs.declared.pause.When.{When}
use Rattle.cbpf_machine.specs.declared.pause.When.TheVariants.{Always}
use Rattle.cbpf_machine.specs.Values.{with_value, takes_value}
use Rattle.cbpf_machine.specs.Machine.{Machine, machine_of}
use Rattle.cbpf_machine.specs.Turn.{turn}
use Rattle.cbpf_machine.specs.Trace.{trace, entry_at, last_or}
use Rattle.pcap_classic.specs.Records.{Record}
use Rattle.pcap_classic.specs.Savefile.{Savefile}
use Rattle.cbpf_reply.specs.declared.reply.Place.{Place}
use Rattle.cbpf_reply.specs.declared.reply.Stop.{Stop}
use Rattle.cbpf_reply.specs.declared.reply.Why.TheVariants as why
use Rattle.cbpf_reply.specs.declared.reply.RunReply.{RunReply}
use Rattle.cbpf_reply.specs.declared.reply.RunReply.TheVariants.{Stopped, Limit, Finished}
use Rattle.cbpf_reply.specs.declared.reply.SessionFault.{SessionFault}
use Rattle.cbpf_reply.specs.declared.reply.SessionFault.TheVariants as fault
use Rattle.cbpf_dbg.specs.Joined.{Entry, entries_after, stops_in, stops_after, stop_at, counts, turns_between, turns_to_end}
use Rattle.cbpf_dbg.specs.Breakpoints.{with_breakpoint, without_breakpoint}
use Rattle.cbpf_dbg.specs.View.{View, first_place}

-- a reply with the view after it, or a refusal, which leaves the view
abbrev pub Answer : Type 0 → Type 0
Answer R = Result (R × View) SessionFault

-- what the call returns
abbrev pub reply_of : {R : Type 0} → Answer R → Result R SessionFault
reply_of (Ok a) = Ok a.0
reply_of (Err e) = Err e

-- the view afterwards, which a refusal leaves as it was
abbrev pub view_after : {R : Type 0} → View → Answer R → View
view_after m (Ok a) = a.1
view_after m (Err e) = m

-- a command that needs a program and a capture: S1 where there is no program, else S2 where there is no capture
abbrev pub with_both : {R : Type 0} → Option (List Insn) → Option Savefile
    → (List Insn → Savefile → Result R SessionFault) → Result R SessionFault
with_both None capture act = Err fault.NoProgram
with_both (Some list) None act = Err fault.NoCapture
with_both (Some list) (Some c) act = act list c

-- a command over what is loaded, as the machine and the records; S1 where no program is, else S2 where no capture is
abbrev pub where_loaded : {R : Type 0} → View → (Machine → List Record → Result R SessionFault) → Result R SessionFault
where_loaded m act = with_both m.program m.capture (λ list c. act (machine_of list m.values) c.records)

-- the reply of a stop, and the session that stands there
abbrev pub stopped : View → Stop → RunReply × View
stopped m stop = (Stopped stop, record m { place = stop.place })

-- the counts up to the capture's end, and back to the start, from where it counts then
abbrev pub finished : View → Machine → List Record → RunReply × View
finished m machine capture =
    (Finished (counts machine capture m.origin (length capture + 1)), record m { place = first_place; origin = 1 })

-- the reply at a limit of packets, and the session before packet `next`
abbrev pub limited : View → Machine → List Record → ℕ → RunReply × View
limited m machine capture next =
    (Limit (counts machine capture m.origin next), record m { place = record { packet = next; step = 0 } })

-- ---- run

-- No stop comes within the limit. The run goes to step 0 of the first packet beyond the limit. Without a limit, or where the
-- capture has no such packet, it finishes.
abbrev pub run_out : View → Machine → List Record → Option ℕ → RunReply × View
run_out m machine capture None = finished m machine capture
run_out m machine capture (Some n) =
    if nat_le (m.place.packet + n) (length capture) then limited m machine capture (m.place.packet + n)
    else finished m machine capture

-- a stop in a packet so many after the place's is within the limit; a limit of n covers the place's packet and the n - 1
-- after it
abbrev pub within_limit : Option ℕ → ℕ → Bool
within_limit None packets = true
within_limit (Some n) packets = nat_lt packets n

-- the answer with these stops ahead: the first of them where it is within the limit
abbrev pub run_to : View → Machine → List Record → Option ℕ → List Stop → RunReply × View
run_to m machine capture limit [] = run_out m machine capture limit
run_to m machine capture limit (stop ∷ rest) =
    if within_limit limit (stop.place.packet - m.place.packet) then stopped m stop else run_out m machine capture limit

-- the answer of a run; a limit of 0 packets is refused
abbrev pub run_in : View → Machine → List Record → Option ℕ → Answer RunReply
run_in m machine capture (Some zero) = Err fault.ZeroCount
run_in m machine capture limit = Ok (run_to m machine capture limit (stops_after machine capture m.breakpoints m.place))

-- on to the first stop ahead, or up to a limit of packets, where there is one, or to the end
abbrev pub run : View → Option ℕ → Answer RunReply
run m limit = where_loaded m (λ machine capture. run_in m machine capture limit)

-- ---- step

-- a step forward to an entry; where there is none, it finishes
abbrev pub step_to : View → Machine → List Record → Option Entry → RunReply × View
step_to m machine capture None = finished m machine capture
step_to m machine capture (Some e) = stopped m (stop_at why.Step e)

-- the entry of a packet at a step
abbrev pub entry_in : Machine → Option Record → Place → Option Entry
entry_in machine None place = None
entry_in machine (Some r) place =
    option_map (λ s. record { place = place; state = s; turn = turn machine r.bytes r.wire s })
    (entry_at (trace machine r.bytes r.wire) place.step)

-- the place so many entries before another one of its packet
abbrev pub back_place : Place → ℕ → Place
back_place place b = record { packet = place.packet; step = place.step - b }

-- the stop at an entry of the packet; or where there is none, a refusal that says how many steps back are possible
abbrev pub back_at : View → Option Entry → Answer RunReply
back_at m None = Err (fault.TooFarBack (m.place.step - 1))
back_at m (Some e) = Ok (stopped m (stop_at why.Step e))

-- b steps back within the packet
abbrev pub back_by : View → Machine → List Record → ℕ → Answer RunReply
back_by m machine capture b = back_at m (if nat_lt b m.place.step
    then entry_in machine (slice_get capture (m.place.packet - 1)) (back_place m.place b) else None)

-- `step` over a capture that has packets
abbrev pub step_in : View → Machine → List Record → ℤ → Answer RunReply
step_in m machine capture (pos zero) = Err fault.ZeroCount
step_in m machine capture (pos (suc n)) = Ok (step_to m machine capture (slice_get (entries_after machine capture m.place) n))
step_in m machine capture (negsuc n) = back_by m machine capture (n + 1)

-- n entries forward, past the ends of packets; where fewer are ahead it finishes, as a run does; or -n entries back in
-- the packet where n is negative; a count of 0 is refused, and so is a capture without packets
abbrev pub step : View → ℤ → Answer RunReply
step m n =
    where_loaded m (λ machine capture. if length capture == 0 then Err fault.NoPackets else step_in m machine capture n)

-- ---- the place

-- the session at a place, from whose packet it counts
abbrev pub moved : View → Place → Unit {0} × View
moved m place = (tt, record m { place = place; origin = place.packet })

-- whether a capture has a packet of this number
abbrev pub has_packet : List Record → ℕ → Bool
has_packet capture n = nat_lt 0 n && nat_le n (length capture)

-- to the place before packet n, from which on it then counts
abbrev pub select : View → ℕ → Answer (Unit {0})
select m n =
    where_loaded m (λ machine capture. if length capture == 0 then Err fault.NoPackets
    else (if has_packet capture n then Ok (moved m (record { packet = n; step = 0 })) else Err fault.NoPacket))

-- the place where it stands
abbrev pub mark : View → Result Place SessionFault
mark m = where_loaded m (λ machine capture. Ok m.place)

-- how many steps a packet has
abbrev pub steps_of : Machine → Option Record → ℕ
steps_of machine None = 0
steps_of machine (Some r) = length (trace machine r.bytes r.wire)

-- `resume` of a place whose packet the capture has
abbrev pub resume_in : View → Machine → List Record → Place → Answer (Unit {0})
resume_in m machine capture place =
    let steps = steps_of machine (slice_get capture (place.packet - 1)) in
    if nat_le place.step steps then Ok (moved m place) else Err (fault.NoStep steps)

-- to a place whose packet has its step; from this packet on it then counts
abbrev pub resume : View → Place → Answer (Unit {0})
resume m place =
    where_loaded m (λ machine capture. if length capture == 0 then Err fault.NoPackets
    else (if has_packet capture place.packet then resume_in m machine capture place else Err fault.NoPacket))

-- Wherever this program, these values and this capture are loaded, `resume` takes the place, or answers that the capture
-- has no packets. Each place that `mark` answers is such a one.
abbrev pub IsResumable : View → Place → Type 0
IsResumable m place = (n : View) → n.program ≡ m.program → n.values ≡ m.values → n.capture ≡ m.capture
    → IsOk (resume n place) ⊎ (resume n place ≡ Err fault.NoPackets)

-- ---- stops ahead

-- the stops ahead
abbrev pub stops : View → Result (List Stop) SessionFault
stops m = where_loaded m (λ machine capture. Ok (stops_after machine capture m.breakpoints m.place))

-- how a run's answer fits the stops ahead before it and after it: a stop is the first of those before, and the others
-- are those after; up to a limit none was passed, so both are the same; where the run finished none was ahead before,
-- and of `after`, which has those from the start again, nothing is said
abbrev pub AgreesWithStops : RunReply → List Stop → List Stop → Type 0
AgreesWithStops (Stopped stop) before after = before ≡ stop ∷ after
AgreesWithStops (Limit n) before after = before ≡ after
AgreesWithStops (Finished n) before after = before ≡ []

-- the same by the views
pub record Continues (old new : View) (reply : RunReply) : Type 0 where
  pub before : List Stop
  pub after : List Stop
  pub before_are : stops old ≡ Ok before
  pub after_are : stops new ≡ Ok after
  pub passes : AgreesWithStops reply before after

-- ---- whole runs

-- A whole run is runs without a limit until one finishes. It answers the counts of the last of them, goes back to the start,
-- and counts from there then.
abbrev pub run_to_end : View → Answer Counts
run_to_end m = where_loaded m (λ machine capture.
    Ok (counts machine capture m.origin (length capture + 1), record m { place = first_place; origin = 1 }))

-- all stops, from the start
abbrev pub all_stops : View → Result (List Stop) SessionFault
all_stops m = where_loaded m (λ machine capture. Ok (stops_in machine capture m.breakpoints))

-- A whole run puts its stops after those of its caller's list, which is `old_found` before it and `new_found` after it. Where
-- memory for that list runs out, it has found some of the stops that were ahead, the first ones in order, or none. The
-- others are still ahead, and only the place differs: it is that of the last one that was found, if one was.
pub record Found (old new : View) (old_found new_found : List Stop) : Type 0 where
  pub first : List Stop
  pub after : List Stop
  pub before_are : stops old ≡ Ok (first ++ after)
  pub after_are : stops new ≡ Ok after
  pub found_are : new_found ≡ old_found ++ first
  pub moves : new ≡ record old { place = last_or old.place (map (λ stop. stop.place) first) }

-- ---- what is loaded and set

-- a program: the breakpoints are gone, and the values stay
abbrev pub with_program_loaded : View → List Insn → View
with_program_loaded m list = record m { program = Some list; breakpoints = []; place = first_place; origin = 1 }

-- a capture: the breakpoints and the values stay
abbrev pub with_capture_loaded : View → Savefile → View
with_capture_loaded m c = record m { capture = Some c; place = first_place; origin = 1 }

-- a value for an extension: the place's packet begins anew, and is the first that counts
abbrev pub with_value_set : View → Ext → ℕ → View
with_value_set m e n = record m {
  values = with_value m.values e n;
  place = record { packet = m.place.packet; step = 0 };
  origin = m.place.packet;
}

-- S9 where the extension takes no value
abbrev pub set_value : View → Ext → ℕ → Answer (Unit {0})
set_value m e n = if takes_value e then Ok (tt, with_value_set m e n) else Err fault.TakesNoValue

-- the answer where n is an instruction of the program, else S1 or S4
abbrev pub at_instruction : {R : Type 0} → Option (List Insn) → ℕ → Result R SessionFault → Result R SessionFault
at_instruction None n answer = Err fault.NoProgram
at_instruction (Some list) n answer = if nat_lt n (length list) then answer else Err fault.NoInstruction

-- a breakpoint with a condition, at an instruction of the program
abbrev pub breakpoint_when : View → ℕ → When → Answer (Unit {0})
breakpoint_when m n when =
    at_instruction m.program n (Ok (tt, record m { breakpoints = with_breakpoint m.breakpoints n when }))

-- one without a condition
abbrev pub breakpoint : View → ℕ → Answer (Unit {0})
breakpoint m n = breakpoint_when m n Always

-- whether it was set, and the breakpoints without it
abbrev pub delete : View → ℕ → Answer Bool
delete m n = at_instruction m.program n (Ok (
  is_some (lookup (nat_eq n) m.breakpoints),
  record m { breakpoints = without_breakpoint m.breakpoints n },
))

-- the session without breakpoints
abbrev pub without_breakpoints : View → View
without_breakpoints m = record m { breakpoints = [] }

-- ---- turns

-- the turns of an answer from the view's place: to the end where it finished, else to the place where it leaves the
-- session
abbrev pub turns_in : View → Machine → List Record → RunReply × View → ℕ
turns_in m machine capture (Finished n, after) = turns_to_end machine capture m.place
turns_in m machine capture (_, after) = turns_between machine capture m.place after.place

-- the turns of `run`, and of `step` forward: one for each entry at its place or after it that is before the place where it
-- stops or comes to its limit; where it finishes, one for each of them; 0 after a refusal
abbrev pub turns_forward : View → Answer RunReply → ℕ
turns_forward m answer =
    result_unwrap_or (where_loaded m (λ machine capture. result_map_both (turns_in m machine capture) (λ e. e) answer)) 0

-- how many turns a whole run makes: one for each entry at the place or after it; 0 where no program or no capture is
-- loaded
abbrev pub turns_left : View → ℕ
turns_left m = result_unwrap_or (where_loaded m (λ machine capture. Ok (turns_to_end machine capture m.place))) 0

-- how many turns a place takes: those from the packet's start to its step, once to see that the step exists and once to
-- fill the trail; of the refusals only the one that counts the packet's steps makes turns, one for each
abbrev pub turns_to_resume : ℕ → Result (Unit {0}) SessionFault → ℕ
turns_to_resume s (Ok u) = 2 * (s - 1)
turns_to_resume s (Err (fault.NoStep n)) = n
turns_to_resume s (Err _) = 0
