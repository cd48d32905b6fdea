-- The listing of a checked program assembles to the plain forms of its instructions.
use Rattle.std.proofs.lemmas.List.Elements.{All-nil, All-head, All-tail, All-push}
use Rattle.std.proofs.Common.{◌∙◌, Bool, rules, ◌≡◌, ℕ, zero, suc, ◌+◌, ◌^◌, ◌<◌, ◌≤◌, true, false, List, [], ◌∷◌}
use Rattle.std.proofs.Common.{length, refl, sym, subst, arith, inl, inr, ◌++◌, map, ap, append_assoc, append-nil, Some, None}
use Rattle.std.specs.Prelude.{bytes_eq, decimal, All, is_some, slice_get, Ok, Err}
use Rattle.std.proofs.lemmas.Fmt.{decimal_injective}
use Rattle.cbpf_syntax.specs.Lexemes.{Lexeme}
use Rattle.cbpf_syntax.specs.Items.{Item, IsItem, Items}
use Rattle.cbpf_syntax.proofs.Apart.{equal_bytes, bytes_eq_self}
use Rattle.cbpf_text.specs.Labels.{name_of, labels_from, item_named, repeat_after}
use Rattle.cbpf_text.proofs.Encoding.{fault_append}
use Rattle.cbpf_text.proofs.Answered.{fault_counted}
use Rattle.cbpf_text.proofs.ListedNumbers.{label_name, NamesItems, label_fits, label_segment, is_label_segment}
use Rattle.std.specs.List.{flat_map, enumerate_from}
use Rattle.std.proofs.lemmas.Bool.{and_parts, and_from, false_from_ne_true}
use Rattle.cbpf_code.specs.declared.insn.Insn.{Insn}
use Rattle.cbpf_code.specs.declared.opcode.Op.{Op}
use Rattle.cbpf_code.specs.Opcode.{op_of}
use Rattle.cbpf_code.specs.Plain.{plain}
use Rattle.cbpf_code.proofs.TableLemmas.{code_only}
use Rattle.cbpf_syntax.proofs.Spelled.{Segment, text_of, AreSegments, ends_blank, stay_apart, pieces_of, lexes_spelled}
use Rattle.cbpf_syntax.proofs.Spelled.Segment.{blank, word, mark}
use Rattle.cbpf_syntax.specs.Fits.{fits_all}
use Rattle.cbpf_syntax.specs.Table.{Row}
use Rattle.cbpf_code.specs.Syntax.{mnemonic_of, operand_of}
use Rattle.cbpf_code.specs.Listing.{numbered_line, operand_text, listing}
use Rattle.cbpf_text.specs.Assembled.{insn_of, insns_from, Assembles, TokensAssemble}
use Rattle.cbpf_text.specs.Refusals.{uses_of, uses_from, uses_fault}
use Rattle.cbpf_code.specs.Opcode.{code_of}
use Rattle.cbpf_text.specs.Operands.{literal_of, names_at}
use Rattle.cbpf_code.specs.WordForm.{InRange}
use Rattle.cbpf_code.specs.Extension.{ext_at}
use Rattle.cbpf_text.proofs.ListedRows.{IsWord, HasRow, first_byte, later_bytes, mnemonic_word, plain_as, plain_is}
use Rattle.cbpf_text.proofs.ListedRows.{operation_row, operand_classes, operand_fields}
use Rattle.cbpf_text.proofs.ListedTokens.{lexemes_at, text_append, are_append, ends_before, apart_before, are_positive}
use Rattle.cbpf_text.proofs.ListedTokens.{lexemes_append, positive_append, lexemes_spelled, no_large_negative}
use Rattle.cbpf_text.proofs.ListedOperands.{operand_segments, TargetsInside, operand_apart, operand_spelled}
use Rattle.cbpf_text.proofs.ListedOperands.{operand_are, operand_fits, operand_fills, Fills}
use Rattle.cbpf_syntax.specs.Lexemes as grammar
use Rattle.std.proofs.lemmas.Option.{slice_get_within, get_or_from_slice_get}
use Rattle.cbpf_code.specs.declared.checker.TheConstants.{MAX_INSTRUCTIONS}
use Rattle.cbpf_code.specs.declared.opcode.Op.TheVariants.{Alu, Ja, Jump}
use Rattle.cbpf_code.specs.declared.opcode.Src.TheVariants as src
use Rattle.cbpf_code.specs.ControlFlow.{jump_targets, IsAmong}
use Rattle.cbpf_code.specs.Sound.{IsSound}
use Rattle.cbpf_code.proofs.SoundLemmas.{sound_few, sound_some, sound_known, sound_allowed}
use Rattle.cbpf_syntax.specs.Tokens.{tokens_of}
use Rattle.cbpf_text.specs.declared.fault.AsmFault.TheVariants.{Memory, At}
use Rattle.cbpf_text.specs.Laws.{ListingAssembles, ListingAnswers}
use Rattle.cbpf_text.proofs.OneAnswer.{one_assembly, never_both}

-- Items that are labelled by their numbers: each label is set once, by its item.

-- the item has one label, its number's
record IsLabelled (i : ℕ) (item : Item) : Type 0 where
  label : Lexeme
  only : item.labels ≡ label ∷ []
  named : name_of label ≡ label_name i

-- the items are labelled by their numbers, of which the first is i
abbrev AreLabelled : ℕ → List Item → Type 0
AreLabelled i [] = Unit {0}
AreLabelled i (item ∷ items) = IsLabelled i item × AreLabelled (i + 1) items

label_differs : (i j : ℕ) → i < 2 ^ 64 → j < 2 ^ 64 → label_name i ≡ label_name j → i ≡ j
label_differs i j l m e = decimal_injective i j l m (cc)

differ : (i j : ℕ) → i < 2 ^ 64 → j < 2 ^ 64 → (i ≡ j → ⊥) → bytes_eq (label_name i) (label_name j) ≡ false
differ i j l m apart = false_from_ne_true (bytes_eq (label_name i) (label_name j))
    (λ e. apart (label_differs i j l m (equal_bytes (label_name i) (label_name j) e)))

named_here : (i m : ℕ) (items : List Item) → i + length items < 2 ^ 64 → AreLabelled i items → m < length items
    → item_named (labels_from i items) (label_name (i + m)) ≡ Some (i + m)
named_here i m [] l h b = absurd (omega arith)
named_here i zero (item ∷ items) l h b =
    let z : i + 0 ≡ i = omega arith in
    rw (h.0.only, h.0.named, z, bytes_eq_self (label_name i)) refl
named_here i (suc m) (item ∷ items) l h b =
    let e : i + suc m ≡ i + 1 + m = omega arith in
    rw (e, h.0.only, h.0.named, differ i (i + 1 + m) (omega arith) (omega arith) (λ z. omega (arith, z)))
    (named_here (i + 1) m items (omega arith) h.1 (omega arith))

labels_name : (items : List Item) → length items ≤ MAX_INSTRUCTIONS → AreLabelled 0 items
    → NamesItems (length items) (labels_from 0 items)
labels_name items few h m l =
    let z : 0 + m ≡ m = omega arith in
    rw z at (named_here 0 m items (omega arith) h l)

-- the label is that of a number before this one
abbrev Below : ℕ → Lexeme × ℕ → Type 0
Below n l = (m : ℕ) × (m < n) × (name_of l.0 ≡ label_name m)

none_named : (n : ℕ) (ls : List (Lexeme × ℕ)) → n < 2 ^ 64 → All (Below n) ls → item_named ls (label_name n) ≡ None
none_named n [] l b = refl
none_named n (x ∷ ls) l b =
    let q = All-head (Below n) x ls b in
    rw (q.2, differ q.0 n (omega (arith, q.1)) l (λ z. omega (arith, z, q.1)))
    (none_named n ls l (All-tail (Below n) x ls b))

no_repeat : (i : ℕ) (items : List Item) (before : List (Lexeme × ℕ)) → i + length items < 2 ^ 64 → AreLabelled i items
    → All (Below i) before → repeat_after before (labels_from i items) ≡ None
no_repeat i [] before l h b = refl
no_repeat i (item ∷ items) before l h b =
    let more = All-push (Below (i + 1)) before (h.0.label, i)
    (λ k d m. let q = b k d m in (q.0, omega (arith, q.1), q.2)) (i, omega arith, h.0.named) in
    rw (h.0.only, h.0.named, none_named i before (omega arith) b)
    (no_repeat (i + 1) items (before ++ ((h.0.label, i) ∷ [])) (omega arith) h.1 more)

-- The lines of a listing as segments, whose tokens are the items of the instructions.

-- the lines of instructions, of which the first has the index i of n
record Lists (n i : ℕ) (insns : List Insn) : Type 0 where
  segments : List Segment
  text : text_of segments ≡ flat_map numbered_line (enumerate_from i insns)
  are : AreSegments segments
  begins : ends_blank segments ≡ true
  apart : stay_apart true segments ≡ true
  positive : are_positive segments ≡ true
  items : ℕ → List Item
  size : (at : ℕ) → length (items at) ≡ length insns
  parsed : (at : ℕ) → Items (lexemes_at at segments) (items at)
  labelled : (at : ℕ) → AreLabelled i (items at)
  good : (at : ℕ) (ls : List (Lexeme × ℕ)) → NamesItems n ls → uses_fault ls (uses_from i (items at)) ≡ None
  encoded : (at : ℕ) (ls : List (Lexeme × ℕ)) → NamesItems n ls → map plain insns ≡ insns_from ls i (items at)

lists_none : (n i : ℕ) → Lists n i []
lists_none n i = record {
  segments = [];
  text = refl;
  are = tt;
  begins = refl;
  apart = refl;
  positive = refl;
  items = λ at. [];
  size = λ at. refl;
  parsed = λ at. refl;
  labelled = λ at. tt;
  good = λ at ls p. refl;
  encoded = λ at ls p. refl;
}

-- a line's text, one piece after the other
joins : (d w operand after : List ℕ) → (((108 ∷ (d ++ (58 ∷ 9 ∷ (w ++ [])))) ++ operand) ++ (10 ∷ [])) ++ after
    ≡ 108 ∷ (d ++ (58 ∷ 9 ∷ (w ++ (operand ++ (10 ∷ after)))))
joins d w operand after = search (rules, append_assoc, append-nil)

-- the segments of a line, before those after it
abbrev line_segments : ℕ → List ℕ → List Segment → List Segment → List Segment
line_segments i w operand after =
    label_segment i ∷ mark 58 ∷ blank 9 ∷ word (first_byte w) (later_bytes w) ∷ (operand ++ (blank 10 ∷ after))

line_text : (i : ℕ) (insn : Insn) (op : Op) (operand after : List Segment) (lines : List ℕ)
    → op_of insn.code ≡ Some op → first_byte (mnemonic_of op) ∷ later_bytes (mnemonic_of op) ≡ mnemonic_of op
    → text_of operand ≡ operand_text (operand_of op) i insn → text_of after ≡ lines
    → text_of (line_segments i (mnemonic_of op) operand after) ≡ numbered_line (i, insn) ++ lines
line_text i insn op operand after lines h1 h2 h3 h4 =
    search (rules, first_byte, later_bytes, text_append, blank, text_of, joins)

line_are : (i : ℕ) (w : List ℕ) (operand after : List Segment) → i < 2 ^ 64 → IsWord w → AreSegments operand
    → AreSegments after → AreSegments (line_segments i w operand after)
line_are i w operand after h1 h2 h3 h4 = search (rules, is_label_segment, are_append)

-- where the operand's tokens begin
abbrev operand_at : ℕ → ℕ → List ℕ → ℕ
operand_at at i w = at + (1 + length (decimal i)) + 1 + 1 + (1 + length (later_bytes w))

abbrev after_at : ℕ → ℕ → List ℕ → List Segment → ℕ
after_at at i w operand = operand_at at i w + length (text_of operand) + 1

abbrev label_token : ℕ → ℕ → Lexeme
label_token at i = record { symbol = grammar.Symbol.word (label_name i); at = at }

abbrev colon_token : ℕ → ℕ → Lexeme
colon_token at i = record { symbol = grammar.Symbol.mark 58; at = at + (1 + length (decimal i)) }

abbrev body_tokens : ℕ → ℕ → List ℕ → List Segment → List Lexeme
body_tokens at i w operand =
    record { symbol = grammar.Symbol.word (first_byte w ∷ later_bytes w); at = at + (1 + length (decimal i)) + 1 + 1 }
    ∷ lexemes_at (operand_at at i w) operand

abbrev line_tokens : ℕ → ℕ → List ℕ → List Segment → List Lexeme
line_tokens at i w operand = label_token at i ∷ colon_token at i ∷ body_tokens at i w operand

abbrev line_item : ℕ → ℕ → List ℕ → List Segment → Row → Item
line_item at i w operand row = record { labels = label_token at i ∷ []; row = row; body = body_tokens at i w operand }

line_lexemes : (at i : ℕ) (w : List ℕ) (operand after : List Segment)
    → lexemes_at at (line_segments i w operand after)
    ≡ line_tokens at i w operand ++ lexemes_at (after_at at i w operand) after
line_lexemes at i w operand after = search (rules, first_byte, later_bytes, lexemes_append, blank)

line_form : (at i : ℕ) (op : Op) (named : Bool) (operand : List Segment) → i < 2 ^ 64
    → fits_all (operand_classes named (operand_of op)) (lexemes_at (operand_at at i (mnemonic_of op)) operand) ≡ true
    → IsItem (line_tokens at i (mnemonic_of op) operand)
    (line_item at i (mnemonic_of op) operand (operation_row named op).row)
line_form at i op named operand l fits = record {
  before = label_token at i ∷ colon_token at i ∷ [];
  labels = (refl, label_fits i l, refl, tt);
  form = record {
    known = r.known;
    fits = rw (r.mnemonic, r.operand, (mnemonic_word op).0) (and_from _ _ (bytes_eq_self (mnemonic_of op)) fits);
  };
  all = refl;
}
  where
    r : HasRow named op
    r = operation_row named op

line_filled : (at i : ℕ) (insn : Insn) (op : Op) (named : Bool) (operand : List Segment) (ls : List (Lexeme × ℕ))
    → op_of insn.code ≡ Some op → Fills (operand_fields (operand_of op)) ls i insn.code
    (literal_of (operand_classes named (operand_of op)) (lexemes_at (operand_at at i (mnemonic_of op)) operand))
    (names_at (operand_classes named (operand_of op)) (lexemes_at (operand_at at i (mnemonic_of op)) operand))
    (plain_as (operand_of op) insn)
    → let item = line_item at i (mnemonic_of op) operand (operation_row named op).row in
    (uses_fault ls (uses_of i item) ≡ None) × (plain insn ≡ insn_of ls i item)
line_filled at i insn op named operand ls known fills =
    let r = operation_row named op in
    let code : insn.code ≡ code_of r.row.op = code_only insn.code op known ∙ sym r.code in
    rw (plain_is insn op known, ← code, r.fields, r.operand) fills

lists_line : (n i : ℕ) (insn : Insn) (op : Op) (insns : List Insn) → op_of insn.code ≡ Some op
    → n ≤ MAX_INSTRUCTIONS → i < n
    → InRange insn → TargetsInside n i insn (operand_of op) → Lists n (i + 1) insns → Lists n i (insn ∷ insns)
lists_line n i insn op insns known most l range inside b =
    let w = mnemonic_of op in
    let o = operand_of op in
    let e = ext_at insn.k in
    let operand = operand_segments o e i insn in
    let row = (operation_row (is_some e) op).row in
    let small : i < 2 ^ 64 = omega arith in
    let ends = and_parts _ _ (operand_apart o e i insn) in
    let positive = and_parts _ _ ends.1 in
    let filled : (at : ℕ) (ls : List (Lexeme × ℕ)) → NamesItems n ls
    → (uses_fault ls (uses_of i (line_item at i w operand row)) ≡ None)
    × (plain insn ≡ insn_of ls i (line_item at i w operand row)) =
    λ at ls p. line_filled at i insn op (is_some e) operand ls known
    (operand_fills o e n i (operand_at at i w) insn ls refl range inside p) in
    record {
      segments = line_segments i w operand b.segments;
      text = line_text i insn op operand b.segments (flat_map numbered_line (enumerate_from (i + 1) insns)) known
          (mnemonic_word op).0 (operand_spelled o e i insn refl range.k) b.text;
      are = line_are i w operand b.segments small (mnemonic_word op) (operand_are o e n i insn range most inside) b.are;
      begins = refl;
      apart = and_from _ _ (ends_before operand b.segments ends.0)
          (apart_before false operand b.segments positive.0 b.begins b.apart);
      positive = positive_append operand (blank 10 ∷ b.segments) positive.1 b.positive;
      items = λ at. line_item at i w operand row ∷ b.items (after_at at i w operand);
      size = λ at. ap suc (b.size (after_at at i w operand));
      parsed = λ at. (
        line_tokens at i w operand,
        lexemes_at (after_at at i w operand) b.segments,
        line_lexemes at i w operand b.segments,
        line_form at i op (is_some e) operand small (operand_fits o e n i (operand_at at i w) insn most inside),
        b.parsed (after_at at i w operand),
      );
      labelled = λ at.
          (record { label = label_token at i; only = refl; named = refl }, b.labelled (after_at at i w operand));
      good = λ at ls p. fault_append ls (uses_of i (line_item at i w operand row))
          (uses_from (i + 1) (b.items (after_at at i w operand)))
          ∙ rw ((filled at ls p).0, b.good (after_at at i w operand) ls p) refl;
      encoded = λ at ls p j. (filled at ls p).1 j ∷ b.encoded (after_at at i w operand) ls p j;
    }

-- The lines of a checked program.

targets_inside : (n i : ℕ) (insn : Insn) (op : Op) → ((t : ℕ) → IsAmong (jump_targets op insn i) t → t < n)
    → TargetsInside n i insn (operand_of op)
targets_inside n i insn (Alu a src.X) t = tt
targets_inside n i insn Ja t = t (i + 1 + insn.k) (inl refl)
targets_inside n i insn (Jump c src.K) t = (t (i + 1 + insn.jt) (inl refl), t (i + 1 + insn.jf) (inr (inl refl)))
targets_inside n i insn (Jump c src.X) t = (t (i + 1 + insn.jt) (inl refl), t (i + 1 + insn.jf) (inr (inl refl)))
targets_inside n i insn x t = tt

-- the lines of a list from an index on
lists : (all : List Insn) (i : ℕ) (insns : List Insn) → IsSound all → All InRange all
    → ((j : ℕ) (x : Insn) → slice_get insns j ≡ Some x → slice_get all (i + j) ≡ Some x) → Lists (length all) i insns
lists all i [] sound range here = lists_none (length all) i
lists all i (insn ∷ insns) sound range here =
    let z : i + 0 ≡ i = omega arith in
    let at : slice_get all i ≡ Some insn = rw z at (here 0 insn refl) in
    let known = sound_known all i insn sound at in
    let allowed = sound_allowed all i insn known.0 sound at known.1 in
    let inside : i < length all = slice_get_within all i insn at in
    lists_line (length all) i insn known.0 insns known.1 (sound_few all sound) inside
    (rw (get_or_from_slice_get all i insn insn at) at (range i insn inside))
    (targets_inside (length all) i insn known.0 allowed.targets)
    (lists all (i + 1) insns sound range
    (λ j x g. let e : i + 1 + j ≡ i + suc j = omega arith in rw e (here (suc j) x g)))

tokens_assemble : (list : List Insn) (b : Lists (length list) 0 list) → IsSound list
    → TokensAssemble (lexemes_at 0 b.segments) (map plain list)
tokens_assemble list b sound =
    let items = b.items 0 in
    let few : length items ≤ MAX_INSTRUCTIONS = omega (arith, b.size 0, sound_few list sound) in
    let places : NamesItems (length list) (labels_from 0 items) =
    subst (λ n. NamesItems n (labels_from 0 items)) (b.size 0) (labels_name items few (b.labelled 0)) in
    record {
      items = items;
      parsed = b.parsed 0;
      ranged = no_large_negative 0 b.segments b.positive;
      no_fault = fault_counted items (λ z. omega (arith, z, b.size 0, sound_some list sound)) few
          ∙ rw (no_repeat 0 items [] (omega arith) (b.labelled 0) (All-nil (Below 0)), b.good 0 _ places) refl;
      encoded = b.encoded 0 (labels_from 0 items) places;
    }

pub listing_assembles : ListingAssembles
listing_assembles list sound range =
    let b : Lists (length list) 0 list =
    lists list 0 list sound range (λ j x g. let z : 0 + j ≡ j = omega arith in rw z g) in
    let of_segments : Assembles (text_of b.segments) (map plain list) = record {
      tokens = tokens_of 0 (pieces_of b.segments);
      lexed = lexes_spelled b.segments b.are b.apart;
      assembled = subst (λ ts. TokensAssemble ts (map plain list)) (sym (lexemes_spelled [] b.segments))
          (tokens_assemble list b sound);
    } in
    subst (λ t. Assembles t (map plain list)) b.text of_segments

pub listing_answers : ListingAnswers
listing_answers list sound range (Ok found) ok err =
    inl (ap Ok (one_assembly (listing list) found (map plain list) ok (listing_assembles list sound range)))
listing_answers list sound range (Err Memory) ok err = inr refl
listing_answers list sound range (Err (At kind line)) ok err =
    absurd (never_both (listing list) (map plain list) kind line (listing_assembles list sound range) err)
