use Rattle.std.proofs.Common.{sym}
use Rattle.cbpf_syntax.specs.declared.piece.Lead.TheVariants.{Blank, LineComment, Letter, Digit, Slash, Single, Other}
use Rattle.cbpf_syntax.proofs.Runs.{led_next}
use Rattle.cbpf_syntax.proofs.piece.next_piece.Goals as goal

pub returns-in-Blank : goal.returns-in-Blank
returns-in-Blank c = rw c.blanks_len.ensures.run (led_next _ _ _ Blank (sym c.in-Blank.ensures))

pub returns-in-LineComment : goal.returns-in-LineComment
returns-in-LineComment c = rw c.line_len.ensures.run (led_next _ _ _ LineComment (sym c.in-LineComment.ensures))

pub returns-in-Letter : goal.returns-in-Letter
returns-in-Letter c = rw c.name_len.ensures.run (led_next _ _ _ Letter (sym c.in-Letter.ensures))

pub returns-in-Digit : goal.returns-in-Digit
returns-in-Digit c = rw (c.numeral_kind.ensures, c.name_len-n.ensures.run) (led_next _ _ _ Digit (sym c.in-Digit.ensures))

pub returns-in-Slash : goal.returns-in-Slash
returns-in-Slash c = rw c.slash_piece.ensures (led_next _ _ _ Slash (sym c.in-Slash.ensures))

pub returns-in-Single : goal.returns-in-Single
returns-in-Single c = led_next _ _ _ Single (sym c.in-Single.ensures)

pub returns-in-Other : goal.returns-in-Other
returns-in-Other c = led_next _ _ _ Other (sym c.in-Other.ensures)
