-- A filter's text by what it is.
use Rattle.std.proofs.Common.{◌≡◌, ℕ, List}
use Rattle.std.specs.Prelude.{true, false}
use Rattle.cbpf_code.specs.WordText.{Spells}
use Rattle.cbpf_code.specs.declared.insn.Insn.{Insn}
use Rattle.cbpf_text.specs.Assembled.{Assembles}
use Rattle.cbpf_why.specs.declared.filter.FilterFault.{FilterFault}
use Rattle.cbpf_why.specs.declared.filter.FilterFault.TheVariants.{Source, Words, Check, Memory}
use Rattle.cbpf_why.specs.Filters.{are_words, word_text_of, Reads, IsWordsFault, IsSourceFault, IsNoFilter}

pub words_read : (text : List ℕ) (list : List Insn) → are_words text ≡ true → Spells (word_text_of text) list → Reads text list
words_read text list h s = rw h s

pub source_read : (text : List ℕ) (list : List Insn) → are_words text ≡ false → Assembles text list → Reads text list
source_read text list h s = rw h s

pub words_refused : (text : List ℕ) (e : FilterFault) → are_words text ≡ true → IsWordsFault (word_text_of text) e
    → IsNoFilter text e
words_refused text (Source f at) h s = absurd s
words_refused text (Words f) h s = (h, s)
words_refused text (Check f) h s = absurd s
words_refused text Memory h s = tt

pub source_refused : (text : List ℕ) (e : FilterFault) → are_words text ≡ false → IsSourceFault text e → IsNoFilter text e
source_refused text (Source f at) h s = (h, s)
source_refused text (Words f) h s = absurd s
source_refused text (Check f) h s = absurd s
source_refused text Memory h s = tt

pub ruleset filters = (words_read, source_read, words_refused, source_refused)
