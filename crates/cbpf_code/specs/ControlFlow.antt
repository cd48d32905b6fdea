-- The jump graph of a list of instructions, and the slots of scratch memory that a path through it leaves
-- unwritten (Documentation/networking/filter, "BPF engine and instruction set"; bpf(4), "FILTER MACHINE":
-- jumps are relative to the next instruction).
use Rattle.std.specs.Prelude.{◌≡◌, ◌⊎◌, ℕ, ◌+◌, ◌<◌, Bool, true, false, IsTrue, List, [], ◌∷◌, Option, Some, slice_get}
use Rattle.cbpf_code.specs.declared.insn.Insn.{Insn}
use Rattle.cbpf_code.specs.declared.opcode.Op.{Op}
use Rattle.cbpf_code.specs.declared.opcode.Op.TheVariants.{LdMem, LdxMem, St, Stx, Ja, Jump, RetK, RetA}
use Rattle.cbpf_code.specs.Opcode.{op_of}

-- i is an index of the list, and its instruction has a known operation for which a property holds
abbrev pub InsnAt : List Insn → ℕ → (Op → Insn → Type 0) → Type 0
InsnAt list i Has =
    (insn : Insn) × (op : Op) × (slice_get list i ≡ Some insn) × (op_of insn.code ≡ Some op) × Has op insn

-- the indices to which the instruction at i may jump
abbrev pub jump_targets : Op → Insn → ℕ → List ℕ
jump_targets Ja insn i = (i + 1 + insn.k) ∷ []
jump_targets (Jump cond src) insn i = (i + 1 + insn.jt) ∷ (i + 1 + insn.jf) ∷ []
jump_targets _ insn i = []

-- The indices of the instructions that may follow the one at i: none after a return, its targets after a jump, and else
-- the next one. An unknown code also goes on to the next.
abbrev pub successors : Option Op → Insn → ℕ → List ℕ
successors (Some RetK) insn i = []
successors (Some RetA) insn i = []
successors (Some Ja) insn i = jump_targets Ja insn i
successors (Some (Jump cond src)) insn i = jump_targets (Jump cond src) insn i
successors _ insn i = (i + 1) ∷ []

-- t is one of the indices
abbrev pub IsAmong : List ℕ → ℕ → Type 0
IsAmong [] t = ⊥
IsAmong (i ∷ is) t = (t ≡ i) ⊎ IsAmong is t

-- an edge of the jump graph from i to t
abbrev pub IsSuccessor : List Insn → ℕ → ℕ → Type 0
IsSuccessor list i t =
    (insn : Insn) × (slice_get list i ≡ Some insn) × IsAmong (successors (op_of insn.code) insn i) t

-- whether an operation loads from scratch memory
abbrev pub loads_slot : Op → Bool
loads_slot LdMem = true
loads_slot LdxMem = true
loads_slot _ = false

-- whether an operation stores to scratch memory
abbrev pub stores_slot : Op → Bool
stores_slot St = true
stores_slot Stx = true
stores_slot _ = false

-- the instruction at i stores into slot s
abbrev pub StoresSlot : List Insn → ℕ → ℕ → Type 0
StoresSlot list i s = InsnAt list i (λ op insn. IsTrue (stores_slot op) × (insn.k ≡ s))

-- some path from the first instruction to i has no store into slot s before i; each edge leads forward, as `h < i` says
-- once more
pub data MayBeUnwritten (list : List Insn) (s : ℕ) : ℕ → Type 0 where
  at_start : MayBeUnwritten list s 0
  onward : {h i : ℕ} → h < i → MayBeUnwritten list s h → (StoresSlot list h s → ⊥) → IsSuccessor list h i
      → MayBeUnwritten list s i
