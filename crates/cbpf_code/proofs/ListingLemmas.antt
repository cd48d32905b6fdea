-- The lines of a listing by their indices.
use Rattle.std.proofs.Common.{◌≡◌, ℕ, ◌<◌, ◌≤◌, ◌+◌, ◌++◌, List, [], length, take, get_or, sym, ap, arith}
use Rattle.std.specs.Prelude.{codes}
use Rattle.std.specs.List.{enumerate_from, flat_map}
use Rattle.std.proofs.lemmas.List.{take_all}
use Rattle.std.proofs.lemmas.Option.{slice_get-get_or}
use Rattle.std.proofs.lemmas.List.FromFn.{get_or-enumerate_from, length-enumerate_from}
use Rattle.cbpf_code.specs.declared.insn.Insn.{Insn}
use Rattle.cbpf_code.specs.Listing.{line_text, listing, numbered_line}
use Rattle.cbpf_code.proofs.FaultLemmas.{zero_insn}
use Rattle.cbpf_code.proofs.WrittenLemmas.{flat-more}

pub line_at : (list : List Insn) (i : ℕ) (d : Insn) → i < length list
    → line_text list i ++ codes "\n" ≡ numbered_line (get_or (enumerate_from 0 list) i (0, d))
line_at list i d l = grind (arith, slice_get-get_or, get_or-enumerate_from)

-- the first lines, one more of them, and all
pub next_line : (list : List Insn) (i : ℕ) (line rest last : List ℕ) → i < length list → line ≡ line_text list i ++ rest
    → rest ≡ codes "\n" ++ last → last ≡ [] → flat_map numbered_line (take i (enumerate_from 0 list)) ++ line
    ≡ flat_map numbered_line (take (i + 1) (enumerate_from 0 list))
next_line list i line rest last l e f none =
    rw (e, f, none, line_at list i zero_insn l)
    (sym (flat-more numbered_line (enumerate_from 0 list) i (0, zero_insn) (omega (arith, l, length-enumerate_from 0 list))))

pub all_lines : (list : List Insn) (i : ℕ) → length list ≤ i
    → flat_map numbered_line (take i (enumerate_from 0 list)) ≡ listing list
all_lines list i l = ap (flat_map numbered_line) (take_all i (enumerate_from 0 list) (omega (arith, l, length-enumerate_from 0 list)))
