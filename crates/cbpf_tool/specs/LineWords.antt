-- The words of a script's line, and what stands after them.
use Rattle.std.specs.Prelude.{ℕ, zero, suc, Bool, false, not, if◌then◌else◌, List, [], ◌∷◌, ◌-◌, take, drop, length}
use Rattle.std.specs.List.{prefix_len, suffix_len}
use Rattle.cbpf_code.specs.Text.{put_front}
use Rattle.cbpf_code.specs.WordTokens.{is_blank}

-- the text goes on with a byte that is no blank
abbrev pub begins_word : List ℕ → Bool
begins_word [] = false
begins_word (b ∷ bs) = not (is_blank b)

-- the longest runs of bytes that are no blanks
unfoldable pub words_of : List ℕ → List (List ℕ)
words_of [] = []
words_of (b ∷ bs) =
    if is_blank b then words_of bs else (if begins_word bs then put_front b (words_of bs) else ((b ∷ []) ∷ words_of bs))

-- the text after its first n words
unfoldable pub after_words : ℕ → List ℕ → List ℕ
after_words zero bs = bs
after_words (suc n) [] = []
after_words (suc n) (b ∷ bs) = if is_blank b then after_words (suc n) bs
    else (if begins_word bs then after_words (suc n) bs else after_words n bs)

-- where the first blank is, or the text's end
abbrev pub word_end : List ℕ → ℕ
word_end bs = prefix_len (λ b. not (is_blank b)) bs

-- without the blanks at its front
unfoldable pub trim_start : List ℕ → List ℕ
trim_start bs = drop (prefix_len is_blank bs) bs

-- without the blanks at its end
unfoldable pub trim_end : List ℕ → List ℕ
trim_end bs = take (length bs - suffix_len is_blank bs) bs

-- without the blanks around it
abbrev pub trimmed : List ℕ → List ℕ
trimmed bs = trim_end (trim_start bs)
