-- Which tokens belong to which class, and which words are reserved: mnemonics, operand words and extensions' names;
-- the tables of these say which are the kernel's (Documentation/networking/filter), and which this project's own.
use Rattle.std.specs.Prelude.{ℕ, Bool, true, false, not, ◌&&◌, ◌||◌, List, [], ◌∷◌, ◌==◌, map, bytes_eq}
use Rattle.std.specs.List.{list_any}
use Rattle.cbpf_code.specs.Extension.{ext_table, ext_name}
use Rattle.cbpf_syntax.specs.Lexemes.{Symbol, Lexeme}
use Rattle.cbpf_syntax.specs.Lexemes.Symbol.{word, number, mark}
use Rattle.cbpf_syntax.specs.Classes.{Class}
use Rattle.cbpf_syntax.specs.Classes.Class.{the_word, the_mark, literal, negated, exactly, extension, name}
use Rattle.cbpf_syntax.specs.Table.{Mnemonic, mnemonics, operand_words}

-- whether a word is one of some
abbrev pub is_one_of : List (List ℕ) → List ℕ → Bool
is_one_of words w = list_any (λ v. bytes_eq w v) words

-- the names of extensions
unfoldable pub extension_names : List (List ℕ)
extension_names = map (λ e. ext_name e.1) ext_table

-- the words of mnemonics
abbrev pub mnemonic_words : List (List ℕ)
mnemonic_words = map (λ (m : Mnemonic). m.word) mnemonics

-- a mnemonic, an extension's name, or a word of operands
abbrev pub is_reserved : List ℕ → Bool
is_reserved w = is_one_of mnemonic_words w || is_one_of extension_names w || is_one_of operand_words w

-- the symbol is of the class
abbrev pub fits : Class → Symbol → Bool
fits (the_word v) (word w) = bytes_eq w v
fits (the_word v) (number n) = false
fits (the_word v) (mark b) = false
fits (the_mark a) (word w) = false
fits (the_mark a) (number n) = false
fits (the_mark a) (mark b) = b == a
fits literal (word w) = false
fits literal (number n) = true
fits literal (mark b) = false
fits negated (word w) = false
fits negated (number n) = true
fits negated (mark b) = false
fits (exactly m) (word w) = false
fits (exactly m) (number n) = n == m
fits (exactly m) (mark b) = false
fits extension (word w) = is_one_of extension_names w
fits extension (number n) = false
fits extension (mark b) = false
fits name (word w) = not (is_reserved w)
fits name (number n) = false
fits name (mark b) = false

-- the tokens fit the classes one by one, and there are as many of both
abbrev pub fits_all : List Class → List Lexeme → Bool
fits_all [] [] = true
fits_all [] (t ∷ ts) = false
fits_all (c ∷ cs) [] = false
fits_all (c ∷ cs) (t ∷ ts) = fits c t.symbol && fits_all cs ts
