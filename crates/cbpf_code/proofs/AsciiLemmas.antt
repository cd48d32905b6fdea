-- A listing has bytes of ASCII alone.
use Rattle.std.proofs.Common.{◌≡◌, ◌<◌, ◌+◌, ℕ, zero, suc, ◌/◌, ◌%◌, List, [], ◌∷◌, ◌++◌, refl, arith, ltb-true, true, false, Bool, Some, None}
use Rattle.std.specs.Prelude.{codes, decimal, nat_lt, ◌==◌, ◌&&◌, if◌then◌else◌, Option, slice_get}
use Rattle.std.specs.List.{repeat}
use Rattle.std.specs.Option.{option_map_or}
use Rattle.std.specs.Fmt.{digits, digits_onto, digit_glyph}
use Rattle.std.specs.Str.{IsAscii, IsUtf8}
use Rattle.std.proofs.lemmas.Bool.Decides.{nat_tests}
use Rattle.std.proofs.lemmas.Nat.{mod_below}
use Rattle.std.proofs.lemmas.Str.{IsAscii-append, IsUtf8-from_ascii}
use Rattle.std.proofs.lemmas.Str.Ascii.{IsAscii-nil, IsAscii-cons}
use Rattle.cbpf_code.specs.Extension.{ext_at, ext_name}
use Rattle.cbpf_code.specs.Listing.{head, immediate_operand, line_text, operand_text}
use Rattle.cbpf_code.specs.Listing.{operation_text, offset_or_name, targets_text, insn_text}
use Rattle.cbpf_code.specs.Opcode.{op_of}
use Rattle.cbpf_code.specs.Syntax.{Operand, mnemonic_of, operand_of}
use Rattle.cbpf_code.specs.Syntax.Operand.{Bare, X, A, Length, Immediate, Absolute, Indexed, Memory, Header, Label}
use Rattle.cbpf_code.specs.Syntax.Operand.{ImmediateTwo, XTwo}
use Rattle.cbpf_code.specs.Text.{hex, with_number}
use Rattle.cbpf_code.specs.declared.extension.Ext.{Ext}
use Rattle.cbpf_code.specs.declared.extension.Ext.TheVariants.{Proto}
use Rattle.cbpf_code.specs.declared.insn.Insn.{Insn}
use Rattle.cbpf_code.specs.declared.opcode.Op.{Op}
use Rattle.cbpf_code.specs.declared.opcode.Op.TheVariants as op
use Rattle.cbpf_code.specs.declared.opcode.AluOp.{AluOp}
use Rattle.cbpf_code.specs.declared.opcode.AluOp.TheVariants.{Add}
use Rattle.cbpf_code.specs.declared.opcode.Cond.{Cond}
use Rattle.cbpf_code.specs.declared.opcode.Cond.TheVariants.{Eq}
use Rattle.cbpf_code.specs.declared.opcode.Size.{Size}
use Rattle.cbpf_code.specs.declared.opcode.Size.TheVariants.{Word}

-- each byte of a text is below 128, by computation
abbrev is_ascii : List ℕ → Bool
is_ascii [] = true
is_ascii (b ∷ bs) = nat_lt b 128 && is_ascii bs

both : (t u : Bool) → t && u ≡ true → (t ≡ true) × (u ≡ true)
both true u h = (refl, h)
both false u h = absurd cc

plain : (bs : List ℕ) → is_ascii bs ≡ true → IsAscii bs
plain [] h = IsAscii-nil
plain (b ∷ bs) h =
    let each : (nat_lt b 128 ≡ true) × (is_ascii bs ≡ true) = both (nat_lt b 128) (is_ascii bs) h in
    IsAscii-cons b bs (ltb-true b 128 each.0) (plain bs each.1)

glyph : (d : ℕ) → d < 16 → digit_glyph false d < 128
glyph d l = grind (arith, nat_tests)

-- a choice of two texts
either : (t : Bool) (xs ys : List ℕ) → IsAscii xs → IsAscii ys → IsAscii (if t then xs else ys)
either true xs ys x y = x
either false xs ys x y = y

onto : (k base n : ℕ) (acc : List ℕ) → 0 < base → base < 17 → IsAscii acc → IsAscii (digits_onto k base false n acc)
onto zero base n acc some few h = h
onto (suc k) base n acc some few h =
    let below : n % base < base = mod_below n base some in
    let last : IsAscii (digit_glyph false (n % base) ∷ acc) = IsAscii-cons _ acc (glyph (n % base) (omega arith)) h in
    either (n / base == 0) _ _ last (onto k base (n / base) _ some few last)

in_digits : (base n : ℕ) → 0 < base → base < 17 → IsAscii (digits base false n)
unfolding digits
in_digits base n some few = onto 64 base n [] some few IsAscii-nil

in_decimal : (n : ℕ) → IsAscii (decimal n)
in_decimal n = in_digits 10 n (omega arith) (omega arith)

zeros : (n : ℕ) → IsAscii (repeat n (codes "0"))
zeros zero = IsAscii-nil
zeros (suc n) = IsAscii-append (codes "0") _ (plain (codes "0") refl) (zeros n)

in_hex : (least n : ℕ) → IsAscii (hex least n)
in_hex least n = IsAscii-append _ _ (zeros _) (in_digits 16 n (omega arith) (omega arith))

with_one : (before : List ℕ) (n : ℕ) (after : List ℕ) → IsAscii before → IsAscii after
    → IsAscii (with_number before n after)
with_one before n after b a =
    IsAscii-append before _ b (IsAscii-append (decimal n) _ (in_decimal n) (IsAscii-append after [] a IsAscii-nil))

name_is : (e : Ext) → is_ascii (ext_name e) ≡ true
name_is Proto = refl
name_is _ = refl

in_name : (e : Ext) → IsAscii (ext_name e)
in_name e = plain (ext_name e) (name_is e)

in_immediate : (k : ℕ) → IsAscii (immediate_operand k)
in_immediate k =
    either (k == 0) _ _ (plain (codes " #0") refl)
    (IsAscii-append (codes " #0x") _ (plain (codes " #0x") refl) (in_hex 1 k))

in_absolute : (o : Option Ext) (k : ℕ) → IsAscii (offset_or_name o k)
in_absolute None k = with_one (codes " [") k (codes "]") (plain (codes " [") refl) (plain (codes "]") refl)
in_absolute (Some e) k =
    IsAscii-append (codes " ") _ (plain (codes " ") refl) (IsAscii-append (ext_name e) [] (in_name e) IsAscii-nil)

in_targets : (i : ℕ) (insn : Insn) → IsAscii (targets_text i insn)
in_targets i insn =
    IsAscii-append (codes ", l") _ (plain (codes ", l") refl)
    (IsAscii-append (decimal (i + 1 + insn.jt)) _ (in_decimal _)
    (with_one (codes ", l") (i + 1 + insn.jf) [] (plain (codes ", l") refl) IsAscii-nil))

in_operand : (o : Operand) (i : ℕ) (insn : Insn) → IsAscii (operand_text o i insn)
in_operand Bare i insn = IsAscii-nil
in_operand X i insn = plain (codes " x") refl
in_operand A i insn = plain (codes " a") refl
in_operand Length i insn = plain (codes " len") refl
in_operand Immediate i insn = in_immediate insn.k
in_operand Absolute i insn = in_absolute (ext_at insn.k) insn.k
in_operand Indexed i insn = with_one (codes " [x + ") insn.k (codes "]") (plain (codes " [x + ") refl) (plain (codes "]") refl)
in_operand Memory i insn = with_one (codes " M[") insn.k (codes "]") (plain (codes " M[") refl) (plain (codes "]") refl)
in_operand Header i insn = with_one (codes " 4*([") insn.k (codes "]&0xf)") (plain (codes " 4*([") refl) (plain (codes "]&0xf)") refl)
in_operand Label i insn = with_one (codes " l") (i + 1 + insn.k) [] (plain (codes " l") refl) IsAscii-nil
in_operand ImmediateTwo i insn =
    IsAscii-append (immediate_operand insn.k) (targets_text i insn) (in_immediate insn.k) (in_targets i insn)
in_operand XTwo i insn = IsAscii-append (codes " x") (targets_text i insn) (plain (codes " x") refl) (in_targets i insn)

mnemonic_is : (o : Op) → is_ascii (mnemonic_of o) ≡ true
mnemonic_is (op.LdAbs size) = sized size
  where
    sized : (s : Size) → is_ascii (mnemonic_of (op.LdAbs s)) ≡ true
    sized Word = refl
    sized _ = refl
mnemonic_is (op.LdInd size) = sized size
  where
    sized : (s : Size) → is_ascii (mnemonic_of (op.LdInd s)) ≡ true
    sized Word = refl
    sized _ = refl
mnemonic_is (op.Alu kind src) = counted kind
  where
    counted : (a : AluOp) → is_ascii (mnemonic_of (op.Alu a src)) ≡ true
    counted Add = refl
    counted _ = refl
mnemonic_is (op.Jump cond src) = tested cond
  where
    tested : (c : Cond) → is_ascii (mnemonic_of (op.Jump c src)) ≡ true
    tested Eq = refl
    tested _ = refl
mnemonic_is _ = refl

in_mnemonic : (o : Op) → IsAscii (mnemonic_of o)
in_mnemonic o = plain (mnemonic_of o) (mnemonic_is o)

in_head : (i : ℕ) (word : List ℕ) → IsAscii word → IsAscii (head i word)
in_head i word h =
    IsAscii-append (codes "l") _ (plain (codes "l") refl)
    (IsAscii-append (decimal i) _ (in_decimal i)
    (IsAscii-append (codes ":\t") _ (plain (codes ":\t") refl) (IsAscii-append word [] h IsAscii-nil)))

in_operation : (i : ℕ) (insn : Insn) (o : Op) → IsAscii (operation_text i insn o)
in_operation i insn o =
    IsAscii-append (head i (mnemonic_of o)) (operand_text (operand_of o) i insn)
    (in_head i (mnemonic_of o) (in_mnemonic o)) (in_operand (operand_of o) i insn)

in_text : (i : ℕ) (insn : Insn) (o : Option Op) → IsAscii (option_map_or (operation_text i insn) o [])
in_text i insn None = IsAscii-nil
in_text i insn (Some o) = in_operation i insn o

in_line : (i : ℕ) (o : Option Insn) → IsAscii (option_map_or (insn_text i) o [])
in_line i None = IsAscii-nil
in_line i (Some insn) = in_text i insn (op_of insn.code)

pub operation_utf8 : (line rest : List ℕ) (i : ℕ) (insn : Insn) (o : Op) → line ≡ operation_text i insn o ++ rest
    → rest ≡ [] → IsUtf8 line
operation_utf8 line rest i insn o e none =
    rw (e, none)
    (IsUtf8-from_ascii (operation_text i insn o ++ [])
    (IsAscii-append (operation_text i insn o) [] (in_operation i insn o) IsAscii-nil))

pub line_utf8 : (line rest last : List ℕ) (list : List Insn) (i : ℕ) → line ≡ line_text list i ++ rest
    → rest ≡ codes "\n" ++ last → last ≡ [] → IsUtf8 line
line_utf8 line rest last list i e f none =
    rw (e, f, none)
    (IsUtf8-from_ascii (line_text list i ++ codes "\n")
    (IsAscii-append (line_text list i) (codes "\n") (in_line i (slice_get list i)) (plain (codes "\n") refl)))
