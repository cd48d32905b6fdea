-- Words that are no name, and arguments that are known texts.
use Rattle.std.proofs.Common.{◌≡◌, ℕ, List, [], ◌∷◌, length, Some, None, Err, true, false, Bool, refl}
use Rattle.std.proofs.Common.{sym, subst, arith}
use Rattle.std.specs.Prelude.{bytes_eq, nat_lt}
use Rattle.std.specs.List.{list_all}
use Rattle.std.specs.Map.{lookup}
use Rattle.std.specs.Str.{IsUtf8, is_utf8, IsAscii}
use Rattle.std.proofs.lemmas.Bool.{and_parts}
use Rattle.std.proofs.lemmas.Bool.Decides.{nat_tests}
use Rattle.std.proofs.lemmas.Slice.Eq.{bytes_eq-Decides, text_from_reads, HasBytesAt}
use Rattle.std.proofs.lemmas.Str.{is_utf8-from_IsUtf8, IsUtf8-from_is_utf8, IsUtf8-from_ascii}
use Rattle.std.proofs.lemmas.Str.Ascii.{IsAscii-nil, IsAscii-cons}
use Rattle.cbpf_tool.specs.LineWords.{words_of, after_words, trimmed}
use Rattle.cbpf_tool.specs.Commands.{ReadsArguments, command_table, by_name, load_capture_by, load_by}
use Rattle.cbpf_tool.specs.declared.command.Command.TheVariants.{LoadCapture}
use Rattle.cbpf_reply.specs.declared.errors.CommandFault.TheVariants.{UnknownCommand}

differs : (w p : List ℕ) (t : Bool) → bytes_eq w p ≡ t → (w ≡ p → ⊥) → bytes_eq w p ≡ false
differs w p true e n = absurd (n ((bytes_eq-Decides w p).0 e))
differs w p false e n = e

abbrev is_ascii : List ℕ → Bool
is_ascii = list_all (λ b. nat_lt b 128)

ascii : (s : List ℕ) → is_ascii s ≡ true → IsAscii s
ascii [] e = IsAscii-nil
ascii (b ∷ s) e =
    let both : (nat_lt b 128 ≡ true) × (is_ascii s ≡ true) = and_parts _ _ e in
    IsAscii-cons b s (grind (arith, nat_tests)) (ascii s both.1)

no-name : (w p : List ℕ) → (IsUtf8 w → ⊥) → is_ascii p ≡ true → bytes_eq w p ≡ false
no-name w p n h = differs w p (bytes_eq w p) refl (λ e. n (subst IsUtf8 (sym e) (IsUtf8-from_ascii p (ascii p h))))

none-named : (rows : List (List ℕ × ReadsArguments)) (w : List ℕ) → (IsUtf8 w → ⊥)
    → list_all (λ row. is_ascii row.0) rows ≡ true → lookup (bytes_eq w) rows ≡ None
none-named [] w n h = refl
none-named (row ∷ rows) w n h =
    let both : (is_ascii row.0 ≡ true) × (list_all (λ row. is_ascii row.0) rows ≡ true) = and_parts _ _ h in
    rw (no-name w row.0 n both.0) (none-named rows w n both.1)

-- the names of the commands are UTF-8, so other bytes are none of them
pub unknown : (w : List ℕ) (ws : List (List ℕ)) (text : List ℕ) → (IsUtf8 w → ⊥)
    → Err UnknownCommand ≡ by_name w ws text
unknown w ws text n =
    rw (none-named command_table w n refl) refl

pub name-good : (s : List ℕ) → (length s ≡ 0 → ⊥) → IsUtf8 s → load_capture_by s ≡ Some (LoadCapture s)
name-good [] n h = absurd (n refl)
name-good (b ∷ bs) n h = rw (is_utf8-from_IsUtf8 (b ∷ bs) h) refl

utf8-not : (s : List ℕ) (t : Bool) → is_utf8 s ≡ t → (IsUtf8 s → ⊥) → is_utf8 s ≡ false
utf8-not s true e n = absurd (n (IsUtf8-from_is_utf8 s e))
utf8-not s false e n = e

pub name-bad : (s : List ℕ) → (IsUtf8 s → ⊥) → load_capture_by s ≡ None
name-bad [] n = refl
name-bad (b ∷ bs) n = rw (utf8-not (b ∷ bs) (is_utf8 (b ∷ bs)) refl n) refl

after_words-none : (s : List ℕ) → after_words 0 s ≡ s
unfolding after_words
after_words-none s = refl

pub loads : (text kind rest p : List ℕ) → words_of text ≡ kind ∷ words_of rest → after_words 1 text ≡ after_words 0 rest
    → length kind ≡ length p → HasBytesAt kind 0 p
    → load_by (words_of text) (trimmed (after_words 1 text)) ≡ load_by (p ∷ []) (trimmed rest)
loads text kind rest p w b l h =
    let k : kind ≡ p = text_from_reads kind p l h in
    rw (w, b, after_words-none rest, k) refl
