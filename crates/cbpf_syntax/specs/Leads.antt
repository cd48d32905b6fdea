-- What the first byte of a piece says of it, which is this project's own.
use Rattle.std.specs.Prelude.{ℕ, Bool, ◌&&◌, ◌||◌, ◌==◌, if◌then◌else◌}
use Rattle.cbpf_syntax.specs.declared.piece.Lead.{Lead}
use Rattle.cbpf_syntax.specs.declared.piece.Lead.TheVariants.{Blank, LineComment, Letter, Digit, Slash, Single, Other}
use Rattle.cbpf_code.specs.WordTokens.{is_blank, is_digit}
use Rattle.cbpf_syntax.specs.Bytes.{is_letter, is_mark}

-- A `;` is 59, a `#` 35 and a `/` 47. `fresh` says that only blanks stand before the byte on its line.
unfoldable pub lead_of : Bool → ℕ → Lead
lead_of fresh b =
    if is_blank b then Blank
    else (if b == 59 || (fresh && b == 35) then LineComment
    else (if is_letter b then Letter
    else (if is_digit b then Digit
    else (if b == 47 then Slash
    else (if is_mark b then Single
    else Other)))))
