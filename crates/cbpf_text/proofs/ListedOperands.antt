-- Each operand of a listing is spelled by segments, whose tokens fit its row of the table and give the
-- instruction's fields back.
use Rattle.std.proofs.Common.{◌≡◌, ℕ, ◌+◌, ◌^◌, ◌<◌, Bool, true, false, cond, ◌&&◌, List, [], ◌∷◌, ◌++◌, refl, ap, sym}
use Rattle.std.proofs.Common.{◌∙◌, arith, rules, append-nil, lit<, Option, Some, None, option_map, map, length, ◌-◌, ◌≤◌}
use Rattle.std.specs.Prelude.{◌==◌, codes, is_some, decimal, slice_get, nat_le, nat_lt, if◌then◌else◌}
use Rattle.std.proofs.lemmas.Bool.{and_from, lt-leb, le-ltb}
use Rattle.cbpf_code.specs.declared.checker.TheConstants.{MAX_INSTRUCTIONS}
use Rattle.cbpf_code.specs.declared.insn.Insn.{Insn}
use Rattle.cbpf_code.specs.declared.extension.Ext.{Ext}
use Rattle.cbpf_code.specs.declared.extension.Ext.TheVariants.{Proto}
use Rattle.cbpf_code.specs.Extension.{ext_at, ext_name, ext_named, ext_number}
use Rattle.cbpf_code.specs.Text.{hex}
use Rattle.cbpf_code.specs.WordForm.{InRange}
use Rattle.cbpf_code.proofs.TableLemmas.{ext_only}
use Rattle.cbpf_syntax.proofs.Spelled.{Segment, text_of, IsSegment, AreSegments, ends_name, stay_apart}
use Rattle.cbpf_syntax.proofs.Spelled.Segment.{blank, word, number, mark}
use Rattle.cbpf_syntax.specs.Fits.{fits_all, is_one_of, extension_names}
use Rattle.cbpf_text.specs.Operands.{names_at}
use Rattle.cbpf_code.specs.Syntax.{Operand, Operand as operands}
use Rattle.cbpf_code.specs.Listing.{immediate_operand, operand_text, offset_or_name}
use Rattle.cbpf_syntax.specs.declared.table.Fields.{Fields}
use Rattle.cbpf_syntax.specs.declared.table.Fields.TheVariants.{Goto, Branch}
use Rattle.cbpf_syntax.specs.Lexemes.{Lexeme}
use Rattle.cbpf_syntax.specs.Lexemes as grammar
use Rattle.cbpf_text.specs.declared.encode.TheConstants.{FARTHEST}
use Rattle.cbpf_text.specs.declared.fault.AsmKind.{AsmKind}
use Rattle.cbpf_text.specs.declared.fault.AsmKind.TheVariants as kinds
use Rattle.cbpf_text.specs.Labels.{name_of, item_named}
use Rattle.cbpf_text.specs.Assembled.{offset_of, with_fields}
use Rattle.cbpf_text.specs.Refusals.{is_conditional, use_fault, uses_fault}
use Rattle.cbpf_text.proofs.Forms.{use_of}
use Rattle.cbpf_text.specs.Operands.{literal_of}
use Rattle.cbpf_text.proofs.ListedRows.{operand_classes, operand_fields, first_byte, later_bytes, IsWord, word_of_test}
use Rattle.cbpf_text.proofs.ListedRows.{plain_as}
use Rattle.cbpf_text.proofs.ListedTokens.{lexemes_at, newline, are_positive}
use Rattle.cbpf_syntax.specs.Numbers.{digit_value}
use Rattle.cbpf_text.proofs.ListedNumbers.{NamesItems, decimal_segment, spelled_decimal, is_decimal_segment, hex_segment}
use Rattle.cbpf_text.proofs.ListedNumbers.{is_hex_segment, given_is, hex_rest, hex_given, label_fits, label_name, label_segment, is_label_segment}

abbrev immediate_segments : ℕ → List Segment
immediate_segments k = blank 32 ∷ mark 35 ∷ hex_segment (k == 0) k ∷ []

abbrev target_segments : ℕ → Insn → List Segment
target_segments i insn = mark 44 ∷ blank 32 ∷ label_segment (i + 1 + insn.jt)
    ∷ mark 44 ∷ blank 32 ∷ label_segment (i + 1 + insn.jf) ∷ []

-- the operand of the instruction at an index, where k is the place of an extension or of none
abbrev pub operand_segments : Operand → Option Ext → ℕ → Insn → List Segment
operand_segments operands.Bare e i insn = []
operand_segments operands.X e i insn = blank 32 ∷ word 120 [] ∷ []
operand_segments operands.A e i insn = blank 32 ∷ word 97 [] ∷ []
operand_segments operands.Length e i insn = blank 32 ∷ word 108 (101 ∷ 110 ∷ []) ∷ []
operand_segments operands.Immediate e i insn = immediate_segments insn.k
operand_segments operands.Absolute (Some e) i insn =
    blank 32 ∷ word (first_byte (ext_name e)) (later_bytes (ext_name e)) ∷ []
operand_segments operands.Absolute None i insn = blank 32 ∷ mark 91 ∷ decimal_segment insn.k ∷ mark 93 ∷ []
operand_segments operands.Indexed e i insn =
    blank 32 ∷ mark 91 ∷ word 120 [] ∷ blank 32 ∷ mark 43 ∷ blank 32 ∷ decimal_segment insn.k ∷ mark 93 ∷ []
operand_segments operands.Memory e i insn =
    blank 32 ∷ word 77 [] ∷ mark 91 ∷ decimal_segment insn.k ∷ mark 93 ∷ []
operand_segments operands.Header e i insn = blank 32 ∷ number 52 [] 4 ∷ mark 42 ∷ mark 40 ∷ mark 91
    ∷ decimal_segment insn.k ∷ mark 93 ∷ mark 38 ∷ number 48 (120 ∷ 102 ∷ []) 15 ∷ mark 41 ∷ []
operand_segments operands.Label e i insn = blank 32 ∷ label_segment (i + 1 + insn.k) ∷ []
operand_segments operands.ImmediateTwo e i insn = immediate_segments insn.k ++ target_segments i insn
operand_segments operands.XTwo e i insn = blank 32 ∷ word 120 [] ∷ target_segments i insn

-- the targets of the instruction at i of n are inside
abbrev pub TargetsInside : ℕ → ℕ → Insn → Operand → Type 0
TargetsInside n i insn operands.Label = i + 1 + insn.k < n
TargetsInside n i insn operands.ImmediateTwo = (i + 1 + insn.jt < n) × (i + 1 + insn.jf < n)
TargetsInside n i insn operands.XTwo = (i + 1 + insn.jt < n) × (i + 1 + insn.jf < n)
TargetsInside n i insn o = Unit {0}

ext_word : (e : Ext) → IsWord (ext_name e)
ext_word Proto = word_of_test (ext_name Proto) refl
ext_word e = word_of_test (ext_name e) refl

ext_listed : (e : Ext) → is_one_of extension_names (first_byte (ext_name e) ∷ later_bytes (ext_name e)) ≡ true
unfolding extension_names
ext_listed Proto = refl
ext_listed e = refl

ext_value : (e : Ext)
    → option_map ext_number (ext_named (first_byte (ext_name e) ∷ later_bytes (ext_name e))) ≡ Some (ext_number e)
unfolding ext_named
ext_value Proto = refl
ext_value e = refl

-- segments that stay apart before the newline of their line, and have no `-`: a test that computes
abbrev pub are_apart : List Segment → Bool
are_apart ss = ends_name (ss ++ newline) && (stay_apart false (ss ++ newline) && are_positive ss)

pub operand_apart : (o : Operand) (e : Option Ext) (i : ℕ) (insn : Insn)
    → are_apart (operand_segments o e i insn) ≡ true
operand_apart operands.Absolute (Some x) i insn = refl
operand_apart o e i insn = refl

-- the text of `#` and a hexadecimal number, before others
immediate_text : (t : Bool) (k : ℕ) (ss : List Segment) → text_of (blank 32 ∷ mark 35 ∷ hex_segment t k ∷ ss)
    ≡ cond t (codes " #0") (codes " #0x" ++ hex 1 k) ++ text_of ss
immediate_text true k ss = refl
immediate_text false k ss = refl

-- the text of a decimal number, between others
decimal_text : (before after : List ℕ) (k : ℕ) → k < 2 ^ 32
    → before ++ ((first_byte (decimal k) ∷ later_bytes (decimal k)) ++ after) ≡ before ++ (decimal k ++ after)
decimal_text before after k l = ap (λ (w : List ℕ). before ++ (w ++ after)) (spelled_decimal k (omega arith))

pub operand_spelled : (o : Operand) (e : Option Ext) (i : ℕ) (insn : Insn) → ext_at insn.k ≡ e → insn.k < 2 ^ 32
    → text_of (operand_segments o e i insn) ≡ operand_text o i insn
operand_spelled operands.Immediate e i insn p l = immediate_text (insn.k == 0) insn.k []
    ∙ append-nil (immediate_operand insn.k)
operand_spelled operands.Absolute (Some x) i insn p l =
    ap (λ (w : List ℕ). codes " " ++ (w ++ [])) (ext_word x).0 ∙ sym (ap (λ q. offset_or_name q insn.k) p)
operand_spelled operands.Absolute None i insn p l =
    decimal_text (codes " [") (codes "]") insn.k l ∙ sym (ap (λ q. offset_or_name q insn.k) p)
operand_spelled operands.Indexed e i insn p l = decimal_text (codes " [x + ") (codes "]") insn.k l
operand_spelled operands.Memory e i insn p l = decimal_text (codes " M[") (codes "]") insn.k l
operand_spelled operands.Header e i insn p l = decimal_text (codes " 4*([") (codes "]&0xf)") insn.k l
operand_spelled operands.ImmediateTwo e i insn p l = immediate_text (insn.k == 0) insn.k (target_segments i insn)
operand_spelled o e i insn p l = refl

is_blank_segment : IsSegment (blank 32)
is_blank_segment = (lit< tt, refl)

pub operand_are : (o : Operand) (e : Option Ext) (n i : ℕ) (insn : Insn) → InRange insn → n ≤ MAX_INSTRUCTIONS
    → TargetsInside n i insn o → AreSegments (operand_segments o e i insn)
unfolding digit_value
operand_are operands.Absolute (Some x) n i insn r most t = (is_blank_segment, ((ext_word x).1, tt))
operand_are operands.Immediate e n i insn r most t = search (rules, is_hex_segment)
operand_are operands.ImmediateTwo e n i insn r most t =
    let hex = is_hex_segment insn.k (insn.k == 0) r.k in
    (is_blank_segment, ((lit< tt, refl), (hex, search (rules, is_label_segment) depth 14)))
operand_are operands.Label e n i insn r most t = search (rules, is_label_segment)
operand_are operands.XTwo e n i insn r most t = search (rules, is_label_segment) depth 14
operand_are o e n i insn r most t = search (rules, is_decimal_segment) depth 14

pub operand_fits : (o : Operand) (e : Option Ext) (n i at : ℕ) (insn : Insn) → n ≤ MAX_INSTRUCTIONS
    → TargetsInside n i insn o
    → fits_all (operand_classes (is_some e) o) (lexemes_at at (operand_segments o e i insn)) ≡ true
operand_fits operands.Absolute (Some x) n i at insn most t = and_from _ _ (ext_listed x) refl
operand_fits operands.Label e n i at insn most t = and_from _ _ (label_fits (i + 1 + insn.k) (omega arith)) refl
operand_fits operands.ImmediateTwo e n i at insn most t = and_from _ _ (label_fits (i + 1 + insn.jt) (omega arith))
    (and_from _ _ (label_fits (i + 1 + insn.jf) (omega arith)) refl)
operand_fits operands.XTwo e n i at insn most t = and_from _ _ (label_fits (i + 1 + insn.jt) (omega arith))
    (and_from _ _ (label_fits (i + 1 + insn.jf) (omega arith)) refl)
operand_fits o e n i at insn most t = refl

-- what the tokens give the instruction, and that no target is refused
abbrev pub Fills : Fields → List (Lexeme × ℕ) → ℕ → ℕ → ℕ → List Lexeme → Insn → Type 0
Fills f labels i code k ts insn = (uses_fault labels (map (use_of i (is_conditional f)) ts) ≡ None)
    × (insn ≡ with_fields f code k (offset_of labels i (slice_get ts 0)) (offset_of labels i (slice_get ts 1)))

-- a target after the instruction, as far as a conditional jump goes
target_good : (labels : List (Lexeme × ℕ)) (n i d : ℕ) (short : Bool) (t : Lexeme) → NamesItems n labels → i + 1 + d < n
    → name_of t ≡ label_name (i + 1 + d) → (short ≡ true → d ≤ FARTHEST)
    → (use_fault labels (use_of i short t) ≡ None) × (offset_of labels i (Some t) ≡ d)
target_good labels n i d short t p l e near =
    let found : item_named labels (name_of t) ≡ Some (i + 1 + d) = ap (item_named labels) e ∙ p (i + 1 + d) l in
    let after : nat_le (i + 1 + d) i ≡ false = lt-leb (i + 1 + d) i (omega arith) in
    let apart : i + 1 + d - (i + 1) ≡ d = omega arith in
    (rw (found, after) (by_short short near), rw found apart)
  where
    by_short : (b : Bool) → (b ≡ true → d ≤ FARTHEST)
        → option_map {U = AsmKind × ℕ} (λ kind. (kind, t.at)) (if b && nat_lt (i + 1 + FARTHEST) (i + 1 + d) then Some kinds.TooFar else None)
        ≡ None
    by_short false q = refl
    by_short true q = rw (le-ltb (i + 1 + FARTHEST) (i + 1 + d) (omega (arith, q refl))) refl

abbrev label_at : ℕ → ℕ → Lexeme
label_at at m = record { symbol = grammar.Symbol.word (label_name m); at = at }

goto_fills : (labels : List (Lexeme × ℕ)) (n i k : ℕ) (insn : Insn) (t : Lexeme) → NamesItems n labels → i + 1 + insn.k < n
    → name_of t ≡ label_name (i + 1 + insn.k)
    → Fills Goto labels i insn.code k (t ∷ []) (record { code = insn.code; jt = 0; jf = 0; k = insn.k })
goto_fills labels n i k insn t p l e =
    let g = target_good labels n i insn.k false t p l e (λ z. let y : false ≡ true = z in cc) in
    (rw g.0 refl, λ j. record { code = insn.code; jt = 0; jf = 0; k = sym g.1 j })

branch_fills : (labels : List (Lexeme × ℕ)) (n i k m : ℕ) (insn : Insn) (t u : Lexeme) → NamesItems n labels → InRange insn
    → (i + 1 + insn.jt < n) × (i + 1 + insn.jf < n) → name_of t ≡ label_name (i + 1 + insn.jt)
    → name_of u ≡ label_name (i + 1 + insn.jf) → m ≡ k
    → Fills Branch labels i insn.code k (t ∷ u ∷ []) (record { code = insn.code; jt = insn.jt; jf = insn.jf; k = m })
branch_fills labels n i k m insn t u p r l e f q =
    let g = target_good labels n i insn.jt true t p l.0 e (λ _. omega (arith, r.jt)) in
    let h = target_good labels n i insn.jf true u p l.1 f (λ _. omega (arith, r.jf)) in
    (rw (g.0, h.0) refl, λ j. record { code = insn.code; jt = sym g.1 j; jf = sym h.1 j; k = q j })

pub operand_fills : (o : Operand) (e : Option Ext) (n i at : ℕ) (insn : Insn) (labels : List (Lexeme × ℕ))
    → ext_at insn.k ≡ e → InRange insn → TargetsInside n i insn o → NamesItems n labels
    → Fills (operand_fields o) labels i insn.code
    (literal_of (operand_classes (is_some e) o) (lexemes_at at (operand_segments o e i insn)))
    (names_at (operand_classes (is_some e) o) (lexemes_at at (operand_segments o e i insn))) (plain_as o insn)
operand_fills operands.Immediate e n i at insn labels f r t p =
    (refl, λ j. record { code = insn.code; jt = 0; jf = 0; k = given_is insn.k (insn.k == 0) refl j })
operand_fills operands.Absolute (Some x) n i at insn labels f r t p =
    (refl, rw (ext_only insn.k x f, ext_value x) refl)
operand_fills operands.Label e n i at insn labels f r t p =
    goto_fills labels n i 0 insn (label_at (at + 1) (i + 1 + insn.k)) p t refl
operand_fills operands.ImmediateTwo e n i at insn labels f r t p =
    let first = at + 1 + 1 + (1 + length (hex_rest (insn.k == 0) insn.k)) + 1 + 1 in
    let second = first + (1 + length (decimal (i + 1 + insn.jt))) + 1 + 1 in
    branch_fills labels n i (hex_given (insn.k == 0) insn.k) insn.k insn (label_at first (i + 1 + insn.jt))
    (label_at second (i + 1 + insn.jf)) p r t refl refl (given_is insn.k (insn.k == 0) refl)
operand_fills operands.XTwo e n i at insn labels f r t p =
    let first = at + 1 + (1 + 0) + 1 + 1 in
    let second = first + (1 + length (decimal (i + 1 + insn.jt))) + 1 + 1 in
    branch_fills labels n i 0 0 insn (label_at first (i + 1 + insn.jt)) (label_at second (i + 1 + insn.jf)) p r t refl
    refl refl
operand_fills o e n i at insn labels f r t p = (refl, refl)
