-- What the reader's steps take from the tokens of a text. No public clause names it.
use Rattle.std.specs.Prelude.{◌≡◌, ℕ, ◌<◌, ◌≤◌, ◌⊎◌, List, [], ◌∷◌, ◌++◌, length, Option, Some, None}
use Rattle.cbpf_code.specs.WordTokens.{tokens, tokens_from}
use Rattle.cbpf_code.specs.WordText.{Due, first_word_fault, fault_of, numbers}
use Rattle.cbpf_code.specs.declared.insn.Insn.{Insn}
use Rattle.cbpf_code.specs.declared.words.WordFault.{WordFault}

-- the first thing wrong from a position on
abbrev pub fault_from : List ℕ → Due → ℕ → Option WordFault
fault_from text due at = first_word_fault due (length text) (tokens_from text at)

-- The numbers from `at` on are these and then those from `end` on. The first thing wrong from `at` on, where `due` is
-- due, is the first from `end` on, where `next` is due. So the tokens between have no fault, as theirs would name a position before
-- `end`.
pub record PassesTokens (text : List ℕ) (due : Due) (at : ℕ) (ns : List ℕ) (next : Due) (end : ℕ) : Type 0 where
  pub within : end ≤ length text
  pub after : at < end
  pub good : fault_from text due at ≡ fault_from text next end
  pub spelled : numbers (tokens_from text at) ≡ ns ++ numbers (tokens_from text end)

-- `e` is the first thing wrong from a position on. A step that finds no token there may answer `at_end`, even where the
-- text may end; who asks for the step has looked for the end before.
abbrev pub IsFaultAt : List ℕ → Due → ℕ → WordFault → WordFault → Type 0
IsFaultAt text due at e at_end = (fault_from text due at ≡ Some e) ⊎ ((tokens_from text at ≡ []) × (e ≡ at_end))

-- the numbers of the instructions
abbrev pub fields_of : List Insn → List ℕ
fields_of [] = []
fields_of (i ∷ is) = i.code ∷ i.jt ∷ i.jf ∷ i.k ∷ fields_of is

-- the whole text was read
pub record IsReadWhole (text : List ℕ) (n : ℕ) (list : List Insn) : Type 0 where
  pub good : fault_of text ≡ None
  pub spelled : numbers (tokens text) ≡ n ∷ fields_of list
