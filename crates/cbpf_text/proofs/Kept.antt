-- What is kept of items that are read one by one: statements, and labels with their places.
use Rattle.std.proofs.Common.{rules, ◌≡◌, refl, sym, ◌∙◌, ap, ℕ, zero, suc, ◌+◌, ◌<◌, List, [], ◌∷◌, ◌++◌, length, map}
use Rattle.std.proofs.Common.{get_or, Option, Some, None, option_map, arith, append_assoc, append-nil, length-append}
use Rattle.std.specs.Prelude.{slice_get}
use Rattle.std.proofs.lemmas.List.{map-append}
use Rattle.cbpf_code.specs.declared.checker.TheConstants.{MAX_INSTRUCTIONS}
use Rattle.cbpf_syntax.specs.declared.lexeme.Lexeme as declared_lexeme
use Rattle.cbpf_syntax.specs.Lexemes.{Lexeme}
use Rattle.cbpf_syntax.specs.Items.{Item}
use Rattle.cbpf_syntax.specs.Views.{lexeme_of}
use Rattle.cbpf_text.specs.declared.name.Name.{Name}
use Rattle.cbpf_text.specs.Drafts.{IsStatement, AreSet, IsKept}
use Rattle.cbpf_text.specs.Labels.{labels_of, labels_from}
use Rattle.cbpf_text.specs.declared.draft.Statement.{Statement}
use Rattle.cbpf_text.specs.Refusals.{mnemonic_at}
use Rattle.cbpf_text.proofs.Encoding.{statements_size, statements_more}

-- the labels of one more item
pub labels_snoc : (k : ℕ) (is : List Item) (i : Item)
    → labels_from k (is ++ (i ∷ [])) ≡ labels_from k is ++ labels_of (k + length is) i.labels
labels_snoc k [] i = let e : k ≡ k + 0 = omega arith in
    append-nil (labels_of k i.labels) ∙ ap (λ n. labels_of n i.labels) e
labels_snoc k (x ∷ is) i = search (rules, append_assoc, labels_snoc (k + 1) is i)

get_last : (is : List Item) (i : Item) → slice_get (is ++ (i ∷ [])) (length is) ≡ Some i
get_last [] i = refl
get_last (x ∷ is) i = get_last is i

pub none_if : (o : Option ℕ) → ((x : ℕ) → o ≡ Some x → ⊥) → o ≡ None
none_if None h = refl
none_if (Some x) h = absurd (h x refl)

-- one more label
pub kept_label : (ss : List Statement) (rep rep2 : Option ℕ) (look look2 : Name → Option ℕ) (is : List Item)
    (ws : List Lexeme) (word : Lexeme) (index : ℕ) → IsKept ss rep look is ws → index ≡ length ss
    → ((all : List (Lexeme × ℕ)) → AreSet all rep look → AreSet (all ++ ((word, index) ∷ [])) rep2 look2)
    → IsKept ss rep2 look2 is (ws ++ (word ∷ []))
kept_label ss rep rep2 look look2 is ws word place h1 h2 h3 = search (rules, statements_size, append_assoc, map-append)

-- one more item
pub kept_item : (ss : List Statement) (rep : Option ℕ) (look : Name → Option ℕ) (is : List Item) (ws : List Lexeme)
    (s : Statement) (i : Item) → IsKept ss rep look is ws → IsStatement s i → i.labels ≡ ws
    → length ss < MAX_INSTRUCTIONS → IsKept (ss ++ (s ∷ [])) rep look (is ++ (i ∷ [])) []
kept_item ss rep look is ws s i h1 h2 h3 h4 =
    search (rules, statements_more, labels_snoc, append-nil, statements_size, length-append)

-- the item after MAX_INSTRUCTIONS others
pub kept_excess : (ss : List Statement) (rep : Option ℕ) (look : Name → Option ℕ) (is : List Item) (ls : List Lexeme)
    (i : Item) (body : List declared_lexeme.Lexeme) (d : declared_lexeme.Lexeme)
    → IsKept ss rep look is ls → length ss ≡ MAX_INSTRUCTIONS → i.body ≡ map lexeme_of body → 0 < length body
    → option_map mnemonic_at (slice_get (is ++ (i ∷ [])) MAX_INSTRUCTIONS) ≡ Some (get_or body 0 d).at
kept_excess ss rep look is ls i [] d k e b l = absurd (omega (arith, l))
kept_excess ss rep look is ls i (t ∷ body) d k e b l =
    let n : length is ≡ MAX_INSTRUCTIONS = sym (statements_size ss is k.same) ∙ e in
    rw (← n, get_last is i, b) refl

-- items after that one
pub still_excess : (is more : List Item) (n at : ℕ) → option_map mnemonic_at (slice_get is n) ≡ Some at
    → option_map mnemonic_at (slice_get (is ++ more) n) ≡ Some at
still_excess [] more n at e = let k : ◌≡◌ {A = Option ℕ} None (Some at) = e in cc
still_excess (i ∷ is) more zero at e = e
still_excess (i ∷ is) more (suc n) at e = still_excess is more n at e
