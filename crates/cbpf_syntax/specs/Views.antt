-- What the reader's own types stand for: lexemes, classes, and the rows of `Table`. The forms are those of the kernel's
-- Documentation/networking/filter and this project's own.
use Rattle.std.specs.Prelude.{List, map}
use Rattle.cbpf_syntax.specs.declared.class.Class.{Class}
use Rattle.cbpf_syntax.specs.declared.class.Class.TheVariants.{Word, Mark, Literal, Negated, Exactly, Extension, Name}
use Rattle.cbpf_syntax.specs.declared.mode.Mode.{Mode}
use Rattle.cbpf_syntax.specs.declared.mode.Mode.TheVariants as modes
use Rattle.cbpf_syntax.specs.declared.table.TableEntry.{TableEntry}
use Rattle.cbpf_syntax.specs.declared.table.Mnemonic.{Mnemonic}
use Rattle.cbpf_syntax.specs.declared.lexeme.Symbol.{Symbol}
use Rattle.cbpf_syntax.specs.declared.lexeme.Symbol.TheVariants as symbols
use Rattle.cbpf_syntax.specs.declared.lexeme.Lexeme.{Lexeme}
use Rattle.cbpf_syntax.specs.declared.item.Row.{Row}
use Rattle.cbpf_syntax.specs.Lexemes as lexemes
use Rattle.cbpf_syntax.specs.Classes as classes
use Rattle.cbpf_syntax.specs.Classes.Class.{the_word, the_mark, literal, negated, exactly, extension, name}
use Rattle.cbpf_syntax.specs.Table as tables
use Rattle.cbpf_syntax.specs.Table.{◌·◌, x_operand, a_operand, signed, extension_operand, length_operand, label}
use Rattle.cbpf_syntax.specs.Table.{absolute, indexed, memory, immediate, header, comma, no_operand, entry, mnemonic}

-- the class of tokens that one of the code's stands for
abbrev pub class_of : Class → classes.Class
class_of (Word w) = the_word w.now
class_of (Mark b) = the_mark b
class_of Literal = literal
class_of Negated = negated
class_of (Exactly n) = exactly n
class_of Extension = extension
class_of Name = name

abbrev pub mode_forms : Mode → List (List classes.Class)
mode_forms modes.X = x_operand
mode_forms modes.Absolute = absolute
mode_forms modes.Indexed = indexed
mode_forms modes.Memory = memory
mode_forms modes.Immediate = immediate
mode_forms modes.Number = signed
mode_forms modes.Header = header
mode_forms modes.Label = label
mode_forms modes.ImmediateTwo = immediate · comma · label · comma · label
mode_forms modes.XTwo = x_operand · comma · label · comma · label
mode_forms modes.ImmediateOne = immediate · comma · label
mode_forms modes.XOne = x_operand · comma · label
mode_forms modes.A = a_operand
mode_forms modes.Extension = extension_operand
mode_forms modes.Length = length_operand
mode_forms modes.Bare = no_operand

abbrev pub entry_of : TableEntry → tables.TableEntry
entry_of e = entry (mode_forms e.mode) e.op e.fields

abbrev pub mnemonic_view : Mnemonic → tables.Mnemonic
mnemonic_view m = mnemonic m.word.now (map entry_of m.entries.now)

-- the symbol that one of the code's stands for
abbrev pub symbol_of : Symbol → lexemes.Symbol
symbol_of (symbols.Word w) = lexemes.Symbol.word w.now
symbol_of (symbols.Number n) = lexemes.Symbol.number n
symbol_of (symbols.Mark b) = lexemes.Symbol.mark b

-- likewise a token
abbrev pub lexeme_of : Lexeme → lexemes.Lexeme
lexeme_of t = record { symbol = symbol_of t.symbol; at = t.at }

-- likewise a row of the table
abbrev pub row_of : Row → tables.Row
row_of r = record { mnemonic = r.mnemonic.now; operand = map class_of r.operand.now; op = r.op; fields = r.fields }
