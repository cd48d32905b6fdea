-- A program as a graph in DOT, the language of Graphviz: a node for each basic block with its listing, an edge from
-- one block to another with how often it was taken, an edge to the first block with how many packets there are, and for
-- each group of packets that ended at the same instruction with the same verdict a node in the colour of the verdict. A
-- block, an instruction or an edge that never ran is grey (this project's own; labels and their tags are those of
-- Graphviz's "The DOT Language" and "HTML-Like Labels").
use Rattle.std.specs.Prelude.{ℕ, zero, suc, ◌+◌, ◌-◌, ◌*◌, Bool, ◌==◌, ◌||◌, List, [], ◌∷◌, ◌++◌, length}
use Rattle.std.specs.Prelude.{codes, decimal, Option, Some, None, if◌then◌else◌, slice_get}
use Rattle.std.specs.List.{flat_map, list_any, enumerate_from}
use Rattle.cbpf_code.specs.ControlFlow.{jump_targets}
use Rattle.cbpf_code.specs.Listing.{line_text}
use Rattle.cbpf_code.specs.Opcode.{op_of}
use Rattle.cbpf_code.specs.Text.{concat}
use Rattle.cbpf_code.specs.declared.insn.Insn.{Insn}
use Rattle.cbpf_code.specs.declared.opcode.Op.{Op}
use Rattle.cbpf_code.specs.declared.opcode.Op.TheVariants.{Ja, Jump, RetK, RetA}
use Rattle.cbpf_machine.specs.Machine.{Machine}
use Rattle.cbpf_machine.specs.declared.tally.Runs.{Runs}
use Rattle.cbpf_reply.specs.Packet.{texts_from}
use Rattle.pcap_classic.specs.Records.{Record}
use Rattle.cbpf_why.specs.declared.ended.EndedBy.{EndedBy}
use Rattle.cbpf_why.specs.declared.ended.Ended.{Ended}
use Rattle.cbpf_why.specs.declared.ended.Verdict.{Verdict}
use Rattle.cbpf_why.specs.declared.ended.Verdict.TheVariants.{Pass, Fail, Unknown}
use Rattle.cbpf_why.specs.Ends.{verdict_in, reason_after, verdict_of}
use Rattle.cbpf_why.specs.Groups.{group, group_kept}
use Rattle.cbpf_why.specs.declared.groups.Group.{Group}
use Rattle.cbpf_why.specs.declared.graph.Facts.{Facts}
use Rattle.cbpf_why.specs.Runs.{executed, taken}

-- ---- basic blocks

-- where blocks begin by the instruction at i: after a jump or a return, and where a jump leads
abbrev pub opened_by : Option Op → Insn → ℕ → List ℕ
opened_by (Some Ja) insn i = (i + 1) ∷ jump_targets Ja insn i
opened_by (Some (Jump cond src)) insn i = (i + 1) ∷ jump_targets (Jump cond src) insn i
opened_by (Some RetK) insn i = (i + 1) ∷ []
opened_by (Some RetA) insn i = (i + 1) ∷ []
opened_by _ insn i = []

-- whether an instruction, given with its index, opens a block at `to`
abbrev pub opens : ℕ → ℕ × Insn → Bool
opens to e = list_any (λ i. i == to) (opened_by (op_of e.1.code) e.1 e.0)

-- a block begins at the first instruction, and where an instruction opens one
abbrev pub begins_block : List Insn → ℕ → Bool
begins_block list i = (i == 0) || list_any (opens i) (enumerate_from 0 list)

-- the first instruction of an instruction's block
abbrev pub block_of : List Insn → ℕ → ℕ
block_of list zero = 0
block_of list (suc i) = if begins_block list (suc i) then suc i else block_of list i

-- the last instruction of its block
abbrev pub is_last : List Insn → ℕ → Bool
is_last list i = (i + 1 == length list) || begins_block list (i + 1)

-- ---- text in a label

-- a byte of a text as a label has it: `&`, `<` and `>` are written as entities, and a tab as a space
abbrev pub label_byte : ℕ → List ℕ
label_byte b =
    if b == 38 then codes "&amp;" else (if b == 60 then codes "&lt;" else (if b == 62 then codes "&gt;"
    else (if b == 9 then codes " " else (b ∷ []))))

-- a text as it stands in a label
abbrev pub label_text : List ℕ → List ℕ
label_text text = flat_map label_byte text

-- likewise in grey
abbrev pub grey_text : List ℕ → List ℕ
grey_text text = codes "<font color=\"grey45\">" ++ (label_text text ++ codes "</font>")

-- the text of an instruction, which is grey where it never ran
abbrev pub counted_text : List ℕ → ℕ → List ℕ
counted_text text count = if count == 0 then grey_text text else label_text text

-- a line of a block, from the left
abbrev pub block_line : List Insn → ℕ → ℕ → List ℕ
block_line list i count = counted_text (line_text list i) count ++ codes "<br align=\"left\"/>"

-- ---- nodes and edges

-- the name of the node of an instruction
abbrev pub node : ℕ → List ℕ
node i = codes "l" ++ decimal i

-- what never ran is grey and dashed; the grey is dark enough to be read on white
abbrev pub grey_where_none : ℕ → List ℕ
grey_where_none count = if count == 0 then codes " color=grey45 fontcolor=grey45 style=dashed" else []

-- how often an edge was taken, after a word; the blanks keep the label off the line
unfoldable pub edge_label : List ℕ → ℕ → List ℕ
edge_label word count =
    concat (codes " [label=\" " ∷ word ∷ decimal count ∷ codes " \"" ∷ grey_where_none count ∷ codes "]\n" ∷ [])

-- an edge with how often it was taken, after a word
unfoldable pub edge : ℕ → ℕ → List ℕ → ℕ → List ℕ
edge from to word count = concat (node from ∷ codes " -> " ∷ node to ∷ edge_label word count ∷ [])

-- what is counted of an instruction: its runs, those of its block, and the three groups in its first row
abbrev pub facts_at : Machine → List Record → List EndedBy → ℕ → Facts
facts_at m records ends i =
    record {
      runs = record { executed = executed m records i; taken = taken m records i };
      block_runs = executed m records (block_of m.list i);
      passed = group_kept (group ends (2 * i) Pass);
      failed = group_kept (group ends (2 * i) Fail);
      unknown = group_kept (group ends (2 * i) Unknown);
    }

-- how many packets ended at an instruction
abbrev pub ended_in : Facts → ℕ
ended_in f = f.passed.count + f.failed.count + f.unknown.count

-- an edge from a block: the instruction to which it leads, the word in its label, and how often it was taken
pub record Edge : Type 0 where
  pub to : ℕ
  pub word : List ℕ
  pub count : ℕ

-- those of a conditional jump
abbrev pub both_edges : ℕ → Insn → Runs → List Edge
both_edges i insn runs =
    record { to = i + 1 + insn.jt; word = codes "true "; count = runs.taken }
    ∷ record { to = i + 1 + insn.jf; word = codes "false "; count = runs.executed - runs.taken } ∷ []

-- the edges from the last instruction of a block, of this operation
abbrev pub edges_by : ℕ → Insn → Facts → Option Op → List Edge
edges_by i insn f None = []
edges_by i insn f (Some Ja) = record { to = i + 1 + insn.k; word = []; count = f.runs.executed } ∷ []
edges_by i insn f (Some (Jump cond src)) = both_edges i insn f.runs
edges_by i insn f (Some RetK) = []
edges_by i insn f (Some RetA) = []
edges_by i insn f (Some op) = record { to = i + 1; word = []; count = f.runs.executed - ended_in f } ∷ []

-- the edges from an instruction at the end of a block
abbrev pub edges_of : ℕ → Facts → Option Insn → List Edge
edges_of i f None = []
edges_of i f (Some insn) = edges_by i insn f (op_of insn.code)

-- edges from a block, as they are written
abbrev pub edges_text : ℕ → List Edge → List ℕ
edges_text block edges = flat_map (λ e. edge block e.to e.word e.count) edges

-- how the node of a block begins
abbrev pub block_head : ℕ → List ℕ
block_head block = concat (node block ∷ codes " [label=<" ∷ [])

-- how the node of a block ends that ran so often
abbrev pub block_end : ℕ → List ℕ
block_end count = concat (codes ">" ∷ grey_where_none count ∷ codes "]\n" ∷ [])

-- the end of a block, and the edges from its last instruction
abbrev pub end_and_edges : ℕ → List Insn → ℕ → Facts → List ℕ
end_and_edges block list i f = block_end f.block_runs ++ edges_text block (edges_of i f (slice_get list i))

-- an instruction's line; before it the begin of its block, where it is the first one there; and after it the end of the
-- block and the edges from it, where it is the last one
abbrev pub block_part : List Insn → ℕ → Facts → List ℕ
block_part list i f =
    let block = block_of list i in
    (if block == i then block_head block else [])
    ++ (block_line list i f.runs.executed
    ++ (if is_last list i then end_and_edges block list i f else []))

-- the colour of a verdict
abbrev pub colour : Verdict → List ℕ
colour Pass = codes "palegreen"
colour Fail = codes "lightsalmon"
colour Unknown = codes "khaki"

-- the name of the node of packets that ended
abbrev pub end_node : Ended → List ℕ
end_node e = verdict_in e ++ decimal e.pc

-- the oval of the packets of which `e` is the first, and the edge to it from their block, with how many they are
abbrev pub end_edge : ℕ → Ended → ℕ → List ℕ
end_edge block e count =
    concat (end_node e ∷ codes " [label=\"" ∷ verdict_in e ∷ reason_after e.reason ∷ codes "\" shape=oval style=filled fillcolor="
    ∷ colour (verdict_of e.reason) ∷ codes "]\n" ∷ node block ∷ codes " -> " ∷ end_node e ∷ edge_label [] count ∷ [])

-- by how many packets a group has, and its first one
abbrev pub group_end_by : ℕ → ℕ → Option EndedBy → List ℕ
group_end_by block count None = []
group_end_by block count (Some d) = end_edge block d.ended count

-- the oval and the edge of a group, where it has packets
abbrev pub group_end : ℕ → Group → List ℕ
group_end block g = group_end_by block g.count g.first

-- ---- the graph

-- the nodes of packets that ended at an instruction
abbrev pub end_part : ℕ → Facts → List ℕ
end_part block f = group_end block f.passed ++ (group_end block f.failed ++ group_end block f.unknown)

-- how a graph begins, with the edge of so many packets to the first block; a title that dot is given stands on top
abbrev pub graph_head : ℕ → List ℕ
graph_head count =
    concat (codes "digraph filter {\n" ∷ codes "graph [fontname=monospace labelloc=t]\n"
    ∷ codes "node [shape=box fontname=monospace]\n" ∷ codes "edge [fontname=monospace]\n"
    ∷ codes "packets [shape=plaintext]\npackets -> l0" ∷ edge_label [] count ∷ [])

-- the blocks with the edges between them, and then the groups of packets that ended
unfoldable pub graph_text : Machine → List Record → List EndedBy → List ℕ
graph_text m records ends =
    graph_head (length records) ++ (texts_from (λ i. block_part m.list i (facts_at m records ends i)) 0 (length m.list)
    ++ (texts_from (λ i. end_part (block_of m.list i) (facts_at m records ends i)) 0 (length m.list) ++ codes "}\n"))
