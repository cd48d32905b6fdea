-- The trace of a packet: each instruction that it executes, with A and X before, and where a jump went. At last how the
-- packet ends: where it returned, the last conditional jump before that, and where it loaded from outside the packet, what
-- it wanted there (this project's own).
use Rattle.std.specs.Prelude.{ℕ, ◌+◌, ◌-◌, ◌%◌, ◌^◌, ◌==◌, List, [], ◌∷◌, ◌++◌, length, slice_get, codes, decimal}
use Rattle.std.specs.Prelude.{Option, Some, None, option_and_then, option_map, if◌then◌else◌}
use Rattle.std.specs.List.{flat_map}
use Rattle.cbpf_code.specs.Listing.{line_text}
use Rattle.cbpf_code.specs.Opcode.{op_of}
use Rattle.cbpf_code.specs.Text.{concat, with_number, with_numbers, hex}
use Rattle.cbpf_code.specs.declared.insn.Insn.{Insn}
use Rattle.cbpf_code.specs.declared.opcode.Op.{Op}
use Rattle.cbpf_code.specs.declared.opcode.Op.TheVariants.{LdAbs, LdInd, LdxMsh}
use Rattle.cbpf_machine.specs.Machine.{Machine}
use Rattle.cbpf_machine.specs.Registers.{Registers, zero_state}
use Rattle.cbpf_machine.specs.Trace.{trace, next_of, last_or}
use Rattle.cbpf_machine.specs.Turn.{turn, width}
use Rattle.cbpf_machine.specs.Choices.{choice_at, last_test}
use Rattle.cbpf_machine.specs.declared.follow.Choice.{Choice}
use Rattle.cbpf_machine.specs.declared.outcome.End.{End}
use Rattle.cbpf_machine.specs.declared.outcome.End.TheVariants.{Returned, Outside, ZeroDivisor, Unknown}
use Rattle.pcap_classic.specs.Records.{Record}
use Rattle.cbpf_why.specs.declared.ended.Ended.{Ended}
use Rattle.cbpf_why.specs.Columns.{filled_line, longest}
use Rattle.cbpf_why.specs.Ends.{deciding, ended, verdict_in, reason_after, test_text}
use Rattle.cbpf_why.specs.Operations.{is_op_at, is_jump}

-- a register in decimal, and in hexadecimal without padding
abbrev pub register_text : List ℕ → ℕ → List ℕ
register_text name v = concat (name ∷ codes " " ∷ decimal v ∷ codes " (0x" ∷ hex 1 v ∷ codes ")" ∷ [])

-- A and X, each in decimal and hexadecimal
abbrev pub registers_text : ℕ → ℕ → List ℕ
registers_text a x = concat (register_text (codes "A") a ∷ codes " " ∷ register_text (codes "X") x ∷ [])

-- where a jump went
abbrev pub went_to : Option Registers → List ℕ
went_to None = []
went_to (Some t) = with_number (codes "\tto l") t.pc []

-- where a jump went; nothing of another instruction
abbrev pub went_text : List Insn → Registers → Option Registers → List ℕ
went_text list s next = if is_op_at is_jump list s.pc then went_to next else []

-- an executed instruction, by the state before it and the one that its turn goes on with
abbrev pub step_line : List Insn → ℕ → Registers → Option Registers → List ℕ
step_line list long s next =
    concat (filled_line list long s.pc ∷ codes "\t" ∷ registers_text s.a s.x ∷ went_text list s next ∷ codes "\n" ∷ [])

-- the line of one entry of a trace
abbrev pub step_text : ℕ → Machine → Record → Registers → List ℕ
step_text long m r s = step_line m.list long s (next_of (turn m r.bytes r.wire s))

-- a conditional jump, and the state before it, whose registers it compared
abbrev pub test_of : List Insn → Registers → Choice × Registers
test_of list s = (choice_at list s, s)

-- The bytes of a packet that an instruction of an operation loads, with X before it: the offset of the first one, and how
-- many there are. An extension isn't loaded from these bytes, and so never from outside the packet.
abbrev pub loaded_by : Insn → ℕ → Op → Option (ℕ × ℕ)
loaded_by insn x (LdAbs size) = Some (insn.k, width size)
loaded_by insn x (LdInd size) = Some ((x + insn.k) % 2 ^ 32, width size)
loaded_by insn x LdxMsh = Some (insn.k, 1)
loaded_by insn x _ = None

-- likewise of the instruction at an index
abbrev pub loaded_at : List Insn → ℕ → ℕ → Option (ℕ × ℕ)
loaded_at list i x = option_and_then (λ insn. option_and_then (loaded_by insn x) (op_of insn.code)) (slice_get list i)

-- some bytes of a packet, by the offset of the first one and how many there are
abbrev pub bytes_text : ℕ → ℕ → List ℕ
bytes_text at n =
    if n == 1 then with_number (codes "byte ") at []
    else with_numbers (codes "bytes ") at (codes " to ") (at + n - 1) []

-- which bytes a load wanted, and how many were captured of how many
abbrev pub wanted_text : Record → Option (ℕ × ℕ) → List ℕ
wanted_text r None = []
wanted_text r (Some b) =
    concat (codes ": " ∷ bytes_text b.0 b.1 ∷ codes ", captured " ∷ decimal (length r.bytes) ∷ codes " of "
    ∷ decimal r.wire ∷ [])

-- the same of a packet that ended for this reason: only a load ends one outside the packet
abbrev pub wanted_after : Record → End → Option (ℕ × ℕ) → List ℕ
wanted_after r Outside loaded = wanted_text r loaded
wanted_after r (Returned v) loaded = []
wanted_after r ZeroDivisor loaded = []
wanted_after r (Unknown e) loaded = []

-- where a packet ended, with X before its last instruction: after the conditional jump that decided, and what it
-- compared; or why it ended where no jump decided
abbrev pub end_place : List Insn → Record → Ended → ℕ → Option (Choice × Registers) → List ℕ
end_place list r e x None =
    concat (line_text list e.pc ∷ reason_after e.reason ∷ wanted_after r e.reason (loaded_at list e.pc x) ∷ [])
end_place list r e x (Some t) =
    concat (test_text list t.0 ∷ codes " with " ∷ registers_text t.1.a t.1.x ∷ codes ", then " ∷ line_text list e.pc ∷ [])

-- how the packet ends, by its last conditional jump
abbrev pub end_line : List Insn → Record → Ended → ℕ → Option (Choice × Registers) → List ℕ
end_line list r e x last =
    concat (verdict_in e ∷ codes " at " ∷ end_place list r e x (deciding e.reason last) ∷ codes "\n" ∷ [])

-- the packet's number, a line for each instruction that it executes, and how it ends
unfoldable pub trace_text : Machine → Record → List ℕ
trace_text m r =
    let entries = trace m r.bytes r.wire in
    with_number (codes "packet ") r.number (codes "\n")
    ++ (flat_map (step_text (longest m.list) m r) entries
    ++ end_line m.list r (ended m r) (last_or zero_state entries).x (option_map (test_of m.list) (last_test m.list entries)))
