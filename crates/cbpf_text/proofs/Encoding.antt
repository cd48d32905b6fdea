-- The uses and instructions of items, one item after another.
use Rattle.std.proofs.Common.{◌≡◌, refl, sym, ◌∙◌, ap, ℕ, zero, suc, ◌+◌, ◌<◌, List, [], ◌∷◌, ◌++◌, length, drop}
use Rattle.std.proofs.Common.{get_or, arith, Option, Some, None, append_assoc}
use Rattle.std.proofs.lemmas.List.{drop_more}
use Rattle.std.specs.Option.{option_or}
use Rattle.cbpf_text.specs.Assembled.{insn_of, insns_from}
use Rattle.cbpf_code.specs.declared.insn.Insn.{Insn}
use Rattle.cbpf_syntax.specs.Lexemes.{Lexeme}
use Rattle.cbpf_syntax.specs.Items.{Item}
use Rattle.cbpf_syntax.proofs.Steps.{some_known}
use Rattle.cbpf_text.specs.declared.draft.Statement.{Statement}
use Rattle.cbpf_text.specs.Refusals.{Use, use_fault, uses_fault, uses_of, uses_from}
use Rattle.cbpf_text.specs.Drafts.{IsStatement, AreStatements}

or_twice : {X : Type 0} (a b c : Option X) → option_or a (option_or b c) ≡ option_or (option_or a b) c
or_twice None b c = refl
or_twice (Some x) b c = refl

pub fault_append : (ls : List (Lexeme × ℕ)) (us vs : List Use)
    → uses_fault ls (us ++ vs) ≡ option_or (uses_fault ls us) (uses_fault ls vs)
fault_append ls [] vs = refl
fault_append ls (u ∷ us) vs = rw (fault_append ls us vs) (or_twice (use_fault ls u) (uses_fault ls us) (uses_fault ls vs))

-- the items from one on: it, and the items from the next one on
pub fault_next : (ls : List (Lexeme × ℕ)) (is : List Item) (i : ℕ) (d : Item) → i < length is
    → uses_fault ls (uses_from i (drop i is))
    ≡ option_or (uses_fault ls (uses_of i (get_or is i d))) (uses_fault ls (uses_from (i + 1) (drop (i + 1) is)))
fault_next ls is i d l = ap (λ js. uses_fault ls (uses_from i js)) (drop_more is i d l)
    ∙ fault_append ls (uses_of i (get_or is i d)) (uses_from (i + 1) (drop (i + 1) is))

pub insns_next : (ls : List (Lexeme × ℕ)) (is : List Item) (i : ℕ) (d : Item) (xs : List Insn) (x : Insn)
    → i < length is → insns_from ls 0 is ≡ xs ++ insns_from ls i (drop i is) → x ≡ insn_of ls i (get_or is i d)
    → insns_from ls 0 is ≡ (xs ++ (x ∷ [])) ++ insns_from ls (i + 1) (drop (i + 1) is)
insns_next ls is i d xs x l h e =
    let rest = insns_from ls (i + 1) (drop (i + 1) is) in
    h ∙ (ap (λ js. xs ++ insns_from ls i js) (drop_more is i d l)
    ∙ (ap (λ y. xs ++ (y ∷ rest)) (sym e) ∙ sym (append_assoc xs (x ∷ []) rest)))

-- the statements of items, one by one
pub statements_size : (ss : List Statement) (is : List Item) → AreStatements ss is → length ss ≡ length is
statements_size [] [] p = refl
statements_size (s ∷ ss) (i ∷ is) p = ap suc (statements_size ss is p.1)
statements_size ss is p = absurd p

pub statement_at : (ss : List Statement) (is : List Item) (k : ℕ) (d : Statement) (e : Item) → AreStatements ss is
    → k < length ss → IsStatement (get_or ss k d) (get_or is k e)
statement_at [] is k d e p l = absurd (omega (arith, l))
statement_at (s ∷ ss) [] k d e p l = absurd p
statement_at (s ∷ ss) (i ∷ is) zero d e p l = p.0
statement_at (s ∷ ss) (i ∷ is) (suc k) d e p l = statement_at ss is k d e p.1 (omega (arith, l))

pub statements_more : (ss : List Statement) (is : List Item) (s : Statement) (i : Item) → AreStatements ss is
    → IsStatement s i → AreStatements (ss ++ (s ∷ [])) (is ++ (i ∷ []))
statements_more [] [] s i p q = (q, tt)
statements_more (t ∷ ss) (j ∷ is) s i p q = (p.0, statements_more ss is s i p.1 q)
statements_more ss is s i p q = absurd p

-- any item
pub some_item : Item
some_item = record { labels = []; row = some_known.0; body = [] }
