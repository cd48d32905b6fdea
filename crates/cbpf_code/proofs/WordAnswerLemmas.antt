-- The answer of the reader is one: a text that spells a list is refused only when out of memory,
-- and a text has one fault at most.
use Rattle.std.proofs.Common.{◌≡◌, ◌≢◌, ℕ, ◌⊎◌, inl, inr, List, [], ◌∷◌, length, sym, ◌∙◌, ap, Option, Some, None, refl}
use Rattle.std.proofs.Common.{arith, tests}
use Rattle.cbpf_code.specs.WordTokens.{WordToken, numeral, single, tokens}
use Rattle.std.specs.Option.{option_or}
use Rattle.cbpf_code.specs.WordText.{Due, count, next_due, limit_of, token_fault, first_word_fault, fault_of}
use Rattle.cbpf_code.specs.WordText.{Spells, Miscounts, Refused}
use Rattle.cbpf_code.specs.declared.insn.Insn.{Insn}
use Rattle.cbpf_code.specs.declared.words.WordFault.{WordFault}
use Rattle.cbpf_code.specs.declared.words.WordFault.TheVariants.{Memory}

pub spells-once : (text : List ℕ) (list other : List Insn) → Spells text list → Spells text other → other ≡ list
spells-once text list other a b = b.reads ∙ sym a.reads

-- refused for what the text is
abbrev pub Faulty : List ℕ → WordFault → Type 0
Faulty text e = (fault_of text ≡ Some e) ⊎ Miscounts text e

spells-faultless : (text : List ℕ) (list : List Insn) (e : WordFault) → Spells text list → Faulty text e → ⊥
spells-faultless text list e spells (inl fault) = let none = spells.good in absurd (cc)
spells-faultless text list e spells (inr m) = m.differs (spells.counted ∙ ap length spells.reads)

faulty-once : (text : List ℕ) (e f : WordFault) → Faulty text e → Faulty text f → f ≡ e
faulty-once text e f (inl a) (inl b) = cc
faulty-once text e f (inr a) (inr b) = b.fault ∙ sym a.fault
faulty-once text e f (inl a) (inr b) = let none = b.good in absurd (cc)
faulty-once text e f (inr a) (inl b) = let none = a.good in absurd (cc)

-- no token and no end is out of memory
token_fault-other : (range : Option ℕ) (m : WordToken) → token_fault range m ≢ Some Memory
token_fault-other None (numeral p ds) h = cc
token_fault-other (Some range) (numeral p ds) h = grind (arith, tests)
token_fault-other None (single p b) h = grind (arith, tests)
token_fault-other (Some range) (single p b) h = grind (arith, tests)

or-other : (o p : Option WordFault) → o ≢ Some Memory → p ≢ Some Memory → option_or o p ≢ Some Memory
or-other None p first then = then
or-other (Some e) p first then = first

pub first_word_fault-other : (due : Due) (n : ℕ) (ms : List WordToken) → first_word_fault due n ms ≢ Some Memory
first_word_fault-other count n [] h = cc
first_word_fault-other _ n [] h = cc
first_word_fault-other due n (m ∷ ms) h =
    or-other _ _ (token_fault-other (limit_of due) m) (first_word_fault-other (next_due due) n ms) h

pub as-refused : (text : List ℕ) (e : WordFault) → Faulty text e → Refused text e
as-refused text Memory (inl h) = absurd (first_word_fault-other count (length text) (tokens text) h)
as-refused text Memory (inr m) = absurd (let h = m.fault in cc)
as-refused text e faulty = faulty

as-faulty : (text : List ℕ) (e : WordFault) → Refused text e → (e ≡ Memory) ⊎ Faulty text e
as-faulty text Memory refused = inl refl
as-faulty text e refused = inr refused

pub spells-only : (text : List ℕ) (list : List Insn) (e : WordFault) → Spells text list → Refused text e → e ≡ Memory
spells-only text list e spells refused = elim (as-faulty text e refused) [
  | inl memory ↦ memory
  | inr faulty ↦ absurd (spells-faultless text list e spells faulty)
]

pub refused-only : (text : List ℕ) (e f : WordFault) → f ≢ Memory → Refused text e → Refused text f
    → (e ≡ Memory) ⊎ (e ≡ f)
refused-only text e f other r s = elim (as-faulty text e r) [
  | inl memory ↦ inl memory
  | inr faulty ↦ elim (as-faulty text f s) [
    | inl memory ↦ absurd (other memory)
    | inr same ↦ inr (faulty-once text f e same faulty)
  ]
]

pub spells-not_refused : (text : List ℕ) (list : List Insn) (e : WordFault) → Spells text list → e ≢ Memory
    → Refused text e → ⊥
spells-not_refused text list e spells other refused = other (spells-only text list e spells refused)

pub refused-once : (text : List ℕ) (e f : WordFault) → e ≢ Memory → f ≢ Memory → Refused text e
    → Refused text f → f ≡ e
refused-once text e f one two r s = elim (refused-only text e f two r s) [
  | inl memory ↦ absurd (one memory)
  | inr same ↦ sym same
]

pub ruleset answers = (spells-once, spells-only, refused-only)
