-- What the faults of the checker, of word text and of a writer say, without `error: ` (this project's own).
use Rattle.std.specs.Prelude.{List, ℕ, codes}
use Rattle.cbpf_code.specs.Text.{with_number, with_numbers}
use Rattle.cbpf_code.specs.declared.checker.CheckFault.{CheckFault}
use Rattle.cbpf_code.specs.declared.checker.CheckFault.TheVariants as check
use Rattle.cbpf_code.specs.declared.message.Message.{Message}
use Rattle.cbpf_code.specs.declared.message.Message.TheVariants.{Text, Number, Numbers}
use Rattle.cbpf_code.specs.declared.words.WordFault.{WordFault}
use Rattle.cbpf_code.specs.declared.words.WordFault.TheVariants as word

-- a text by itself, or texts around one number or two
abbrev pub message_text : Message → List ℕ
message_text (Text text) = text.now
message_text (Number before n after) = with_number before.now n after.now
message_text (Numbers before m between n after) = with_numbers before.now m between.now n after.now

-- what the fault of a growth that is refused says
abbrev pub out_of_memory : List ℕ
out_of_memory = codes "out of memory"

-- what the fault of a write says
abbrev pub write_fault : List ℕ
write_fault = codes "write fault"

-- N1 to N5, which name a byte by its position in the text, or two counts; out of memory has no number
abbrev pub word_message : WordFault → List ℕ
word_message word.Memory = out_of_memory
word_message (word.NumberExpected p) = with_number (codes "N1 at byte ") p (codes ": number expected")
word_message (word.OutOfRange p) = with_number (codes "N2 at byte ") p (codes ": number out of range")
word_message (word.UnexpectedByte p) = with_number (codes "N3 at byte ") p (codes ": unexpected byte")
word_message (word.CountDiffers said found) =
    with_numbers (codes "N4 count says ") said (codes ", found ") found (codes "")
word_message (word.CommaExpected p) = with_number (codes "N5 at byte ") p (codes ": comma expected")

-- C1 to C10, which name an instruction by its index where they have one
abbrev pub check_message : CheckFault → List ℕ
check_message check.NoInstruction = codes "C1 no instruction"
check_message check.TooMany = codes "C2 more than 4096 instructions"
check_message (check.UnknownCode i) = with_number (codes "C3 at ") i (codes ": unknown code")
check_message (check.NoSlot i) = with_number (codes "C4 at ") i (codes ": no such scratch slot")
check_message (check.ZeroDivisor i) = with_number (codes "C5 at ") i (codes ": division by zero")
check_message (check.WideShift i) = with_number (codes "C6 at ") i (codes ": shift of 32 or more")
check_message (check.JumpOutside i) = with_number (codes "C7 at ") i (codes ": jump outside")
check_message (check.UnknownExtension i) = with_number (codes "C8 at ") i (codes ": unknown extension")
check_message check.NoReturn = codes "C9 last instruction is no return"
check_message (check.UnwrittenSlot i) =
    with_number (codes "C10 at ") i (codes ": scratch slot read before it is written")
