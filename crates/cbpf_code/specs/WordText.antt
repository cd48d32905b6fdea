-- Word text: a count, a comma, and for each instruction its four numbers and a comma. The comma after the last instruction
-- may be missing.
use Rattle.std.specs.Prelude.{◌≡◌, ◌≢◌, ◌≤◌, ℕ, ◌^◌, ◌⊎◌, ◌==◌, nat_lt, if◌then◌else◌, List, [], ◌∷◌, length, drop}
use Rattle.std.specs.Prelude.{slice_index, Option, Some, None}
use Rattle.std.specs.Option.{option_or}
use Rattle.cbpf_code.specs.WordTokens.{WordToken, numeral, single, tokens, decimal_value}
use Rattle.cbpf_code.specs.declared.insn.Insn.{Insn}
use Rattle.cbpf_code.specs.declared.words.WordFault.{WordFault}
use Rattle.cbpf_code.specs.declared.words.WordFault.TheVariants.{Memory, NumberExpected, OutOfRange, UnexpectedByte}
use Rattle.cbpf_code.specs.declared.words.WordFault.TheVariants.{CountDiffers, CommaExpected}

-- what is due: the count and a comma, then for each instruction its four numbers and a comma
pub data Due : Type 0 where
  count : Due
  count_comma : Due
  code : Due
  jt : Due
  jf : Due
  k : Due
  comma : Due

-- what comes next in a word text
abbrev pub next_due : Due → Due
next_due count = count_comma
next_due count_comma = code
next_due code = jt
next_due jt = jf
next_due jf = k
next_due k = comma
next_due comma = code

-- the least number that is too large, where a number is due
abbrev pub limit_of : Due → Option ℕ
limit_of count = Some (2 ^ 32)
limit_of code = Some (2 ^ 16)
limit_of jt = Some (2 ^ 8)
limit_of jf = Some (2 ^ 8)
limit_of k = Some (2 ^ 32)
limit_of _ = None

-- what is wrong with a token, where a comma or a number below a limit is due
abbrev pub token_fault : Option ℕ → WordToken → Option WordFault
token_fault None (numeral p ds) = Some (CommaExpected p)
token_fault None (single p b) = if b == 44 then None else Some (UnexpectedByte p)
token_fault (Some limit) (numeral p ds) = if nat_lt (decimal_value ds) limit then None else Some (OutOfRange p)
token_fault (Some limit) (single p b) = if b == 44 then Some (NumberExpected p) else Some (UnexpectedByte p)

-- what is wrong with the end of the text, at position n: it may stand after an instruction and after a comma
abbrev pub end_fault : Due → ℕ → Option WordFault
end_fault count_comma n = Some (CommaExpected n)
end_fault code n = None
end_fault comma n = None
end_fault _ n = Some (NumberExpected n)

-- the first thing wrong with the tokens up to the end at position n
abbrev pub first_word_fault : Due → ℕ → List WordToken → Option WordFault
first_word_fault due n [] = end_fault due n
first_word_fault due n (t ∷ ts) = option_or (token_fault (limit_of due) t) (first_word_fault (next_due due) n ts)

-- the first thing wrong with a whole text, but for a count that differs
abbrev pub fault_of : List ℕ → Option WordFault
fault_of text = first_word_fault count (length text) (tokens text)

-- the values of the runs of digits, in order
abbrev pub numbers : List WordToken → List ℕ
numbers [] = []
numbers (numeral p ds ∷ ts) = decimal_value ds ∷ numbers ts
numbers (single p b ∷ ts) = numbers ts

-- numbers in fours
abbrev pub in_fours : List ℕ → List Insn
in_fours (a ∷ b ∷ c ∷ d ∷ ns) = record { code = a; jt = b; jf = c; k = d } ∷ in_fours ns
in_fours _ = []

-- the first number of a text; it matters only where `fault_of` is `None`, and then there is one
abbrev pub count_of : List ℕ → ℕ
count_of text = slice_index (numbers (tokens text)) 0

-- the instructions that its other numbers are
abbrev pub list_of : List ℕ → List Insn
list_of text = in_fours (drop 1 (numbers (tokens text)))

-- the text has no fault, its numbers after the count are the list, and the count is right
pub record Spells (text : List ℕ) (list : List Insn) : Type 0 where
  pub good : fault_of text ≡ None
  pub reads : list ≡ list_of text
  pub counted : count_of text ≡ length list

-- nothing is wrong with the text but its count
pub record Miscounts (text : List ℕ) (e : WordFault) : Type 0 where
  pub good : fault_of text ≡ None
  pub differs : count_of text ≢ length (list_of text)
  pub fault : e ≡ CountDiffers (count_of text) (length (list_of text))

-- The fault that the text has. `Memory` says only that the text has five numbers or more, wherever they stand: room is
-- first asked for after the count and the four numbers of an instruction.
abbrev pub Refused : List ℕ → WordFault → Type 0
Refused text Memory = 5 ≤ length (numbers (tokens text))
Refused text e = (fault_of text ≡ Some e) ⊎ Miscounts text e
