-- A line of a source as it is shown below the fault that names it (this project's own).
use Rattle.std.specs.Prelude.{ℕ, zero, suc, ◌+◌, ◌-◌, ◌==◌, ◌&&◌, ◌||◌, nat_le, nat_lt, Bool, if◌then◌else◌, List, [], ◌∷◌, ◌++◌, length}
use Rattle.std.specs.Prelude.{take, drop, position, codes, min}
use Rattle.std.specs.List.{flat_map}
use Rattle.std.specs.Option.{option_map_or}
use Rattle.cbpf_code.specs.Text.{concat, hex}
use Rattle.cbpf_tool.specs.declared.source_line.TheConstants.{SHOWN, BEFORE}

-- what stands after a text's first newline
abbrev pub after_newline : List ℕ → List ℕ
after_newline text = option_map_or (λ i. drop (i + 1) text) (position (λ b. b == 10) text) []

-- what stands before it, or the whole text where there is none
abbrev pub before_newline : List ℕ → List ℕ
before_newline text = option_map_or (λ i. take i text) (position (λ b. b == 10) text) text

-- what stands after so many newlines
abbrev pub after_newlines : ℕ → List ℕ → List ℕ
after_newlines zero text = text
after_newlines (suc n) text = after_newlines n (after_newline text)

-- the line of this number, which is counted from 1
abbrev pub line_at : List ℕ → ℕ → List ℕ
line_at text number = before_newline (after_newlines (number - 1) text)

-- how many bytes of that line stand before this position of the text
abbrev pub column : List ℕ → ℕ → ℕ → ℕ
column text number at = length (after_newlines (number - 1) (take at text))

-- a byte: a tab or a carriage return as a blank, and another that ASCII can't print as its hexadecimal number
abbrev pub shown_byte : ℕ → List ℕ
shown_byte b =
    if b == 9 || b == 13 then codes " " else if nat_le 32 b && nat_lt b 127 then b ∷ [] else codes "\\x" ++ hex 2 b

-- Where the part of a line begins that is shown: BEFORE bytes before the byte in question, or where SHOWN bytes are left.
-- So a line of at most SHOWN bytes is shown whole
abbrev pub shown_from : List ℕ → ℕ → ℕ
shown_from bytes place = min (place - BEFORE) (length bytes - SHOWN)

-- dots where something is left out
abbrev pub dots : Bool → List ℕ
dots cut = if cut then codes "..." else []

-- the bytes of a line that are shown, of those from a place on
abbrev pub shown_bytes : List ℕ → List ℕ
shown_bytes rest = flat_map shown_byte (take (min (length rest) SHOWN) rest)

-- the part from this place on, with dots where bytes before or after it are left out
abbrev pub shown_part : List ℕ → ℕ → List ℕ
shown_part bytes from =
    concat (codes "    " ∷ dots (nat_lt 0 from) ∷ shown_bytes (drop from bytes) ∷ dots (nat_lt SHOWN (length (drop from bytes)))
    ∷ codes "\n" ∷ [])

-- a line as it is shown, of which the byte at this place is in question; an empty line isn't shown
abbrev pub shown_line : List ℕ → ℕ → List ℕ
shown_line bytes place = if length bytes == 0 then [] else shown_part bytes (shown_from bytes place)
