-- The program that a filter's text is: of words, as `tcpdump -ddd` prints them, or of an assembler source
-- (this project's own; the two forms are those of the kernel's Documentation/networking/filter and of libpcap).
use Rattle.std.specs.Prelude.{◌≡◌, ◌≢◌, ℕ, ◌==◌, not, Bool, true, false, if◌then◌else◌, List, map, find, MatchBool}
use Rattle.std.specs.List.{list_any}
use Rattle.std.specs.Option.{option_map_or}
use Rattle.cbpf_code.specs.Faults.{FirstFault}
use Rattle.cbpf_code.specs.Sound.{IsSound}
use Rattle.cbpf_code.specs.WordText.{Spells, Refused}
use Rattle.cbpf_code.specs.WordTokens.{is_blank, is_digit}
use Rattle.cbpf_code.specs.declared.insn.Insn.{Insn}
use Rattle.cbpf_code.specs.declared.words.WordFault.TheVariants as word
use Rattle.cbpf_text.specs.Assembled.{Assembles}
use Rattle.cbpf_text.specs.Refusals.{IsRefusedFrom}
use Rattle.cbpf_why.specs.declared.filter.FilterFault.{FilterFault}
use Rattle.cbpf_why.specs.declared.filter.FilterFault.TheVariants.{Source, Words, Check, Memory}

-- a text is words where its first byte that is no blank is a digit, as no source begins so
abbrev pub are_words : List ℕ → Bool
are_words text = option_map_or is_digit (find (λ b. not (is_blank b)) text) false

-- a newline stands for a comma
abbrev pub with_comma : ℕ → ℕ
with_comma b = if b == 10 then 44 else b

-- the word text: in one without a comma, as `tcpdump -ddd` prints it, each newline stands for one
abbrev pub word_text_of : List ℕ → List ℕ
word_text_of text = if list_any (λ b. b == 44) text then text else map with_comma text

-- what is left of a text: its word text, where it is words
abbrev pub text_after : List ℕ → List ℕ
text_after text = if are_words text then word_text_of text else text

-- the instructions that a text has
abbrev pub Reads : List ℕ → List Insn → Type 0
Reads text list = MatchBool (are_words text) (Spells (word_text_of text) list) (Assembles text list)

-- a text is this program
abbrev pub IsFilter : List ℕ → List Insn → Type 0
IsFilter text list = Reads text list × IsSound list

-- why a text is no program; `Memory` says nothing of the text
abbrev pub IsNoFilter : List ℕ → FilterFault → Type 0
IsNoFilter text (Source fault at) = (are_words text ≡ false) × IsRefusedFrom text fault at
IsNoFilter text (Words fault) = (are_words text ≡ true) × (Refused (word_text_of text) fault × (fault ≢ word.Memory))
IsNoFilter text (Check fault) = (list : List Insn) × Reads text list × FirstFault list fault
IsNoFilter text Memory = Unit {0}

-- ---- the two forms by themselves

-- why a text is no word text; `Memory` says nothing of the text
abbrev pub IsWordsFault : List ℕ → FilterFault → Type 0
IsWordsFault text (Words fault) = Refused text fault × (fault ≢ word.Memory)
IsWordsFault text Memory = Unit {0}
IsWordsFault text _ = ⊥

-- why a text is no source; `Memory` says nothing of the text
abbrev pub IsSourceFault : List ℕ → FilterFault → Type 0
IsSourceFault text (Source fault at) = IsRefusedFrom text fault at
IsSourceFault text Memory = Unit {0}
IsSourceFault text _ = ⊥
