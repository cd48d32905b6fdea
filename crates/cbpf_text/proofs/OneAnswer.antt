-- A text has at most one answer: one list of instructions, or one refusal with a line.
use Rattle.std.proofs.Common.{◌≡◌, ◌∙◌, sym, subst, ap, ℕ, List, Option, Some, None}
use Rattle.cbpf_code.specs.declared.insn.Insn.{Insn}
use Rattle.cbpf_syntax.specs.Tokens.{line_of}
use Rattle.cbpf_syntax.specs.Lexemes.{Lexeme, lexemes_of}
use Rattle.cbpf_syntax.proofs.Cuts.{some-same}
use Rattle.cbpf_syntax.proofs.Apart.{one_item_list}
use Rattle.cbpf_syntax.proofs.Outcomes.{one_list}
use Rattle.cbpf_syntax.proofs.Outcomes as lexer
use Rattle.cbpf_syntax.proofs.FirstRefusal.{items_accepted}
use Rattle.cbpf_syntax.proofs.FirstRefusal as grammar
use Rattle.cbpf_text.specs.declared.fault.AsmKind.{AsmKind}
use Rattle.cbpf_text.specs.Labels.{labels_from}
use Rattle.cbpf_text.specs.Assembled.{Assembles, TokensAssemble, insns_from}
use Rattle.cbpf_text.specs.Refusals.{items_fault, IsTokensFault, IsTextFault, bad_piece_kind, grammar_kind}
use Rattle.cbpf_text.specs.Refusals.IsTokensFault.{of_grammar, of_items}
use Rattle.cbpf_text.specs.Refusals.IsTextFault.{of_piece, of_tokens}
use Rattle.cbpf_text.specs.Laws.{OneAssembly, NeverBoth, OnePlace, OneTextRefusal}

one_assembled : (ts : List Lexeme) (xs ys : List Insn) → TokensAssemble ts xs → TokensAssemble ts ys → xs ≡ ys
one_assembled ts xs ys a b = let e : a.items ≡ b.items = one_item_list ts a.items b.items a.parsed b.parsed in
    a.encoded ∙ (ap (λ is. insns_from (labels_from 0 is) 0 is) e ∙ sym b.encoded)

pub one_assembly : OneAssembly
one_assembly text xs ys a b = let e : a.tokens ≡ b.tokens = one_list text a.tokens b.tokens a.lexed b.lexed in
    one_assembled (lexemes_of text b.tokens) xs ys
    (subst (λ us. TokensAssemble (lexemes_of text us) xs) e a.assembled) b.assembled

-- A text that assembles isn't refused.

not_tokens : (ts : List Lexeme) (insns : List Insn) (kind : AsmKind) (at : ℕ) → TokensAssemble ts insns
    → IsTokensFault ts kind at → ⊥
not_tokens ts insns kind at a (of_grammar f n r) =
    items_accepted ts a.items a.parsed a.ranged f r.index r.first.refused
not_tokens ts insns kind at a (of_items is k n p acc f) =
    let e : ◌≡◌ {A = Option (AsmKind × ℕ)} None (Some (k, n)) = sym a.no_fault ∙ (ap items_fault (one_item_list ts a.items is a.parsed p) ∙ f) in cc

not_text : (text : List ℕ) (insns : List Insn) (kind : AsmKind) (at : ℕ) → Assembles text insns
    → IsTextFault text kind at → ⊥
not_text text insns kind at a (of_piece bad n p) = lexer.never_both text a.tokens bad n a.lexed p
not_text text insns kind at a (of_tokens us k n l f) =
    let s : a.tokens ≡ us = lexer.one_list text a.tokens us a.lexed l in
    not_tokens (lexemes_of text us) insns k n
    (subst (λ vs. TokensAssemble (lexemes_of text vs) insns) s a.assembled) f

pub never_both : NeverBoth
never_both text insns kind line a refused = not_text text insns kind refused.0 a refused.1

-- A text has at most one refusal, at one position.

one_of_tokens : (ts : List Lexeme) (k l : AsmKind) (m n : ℕ) → IsTokensFault ts k m → IsTokensFault ts l n
    → (k ≡ l) × (m ≡ n)
one_of_tokens ts k l m n (of_grammar f i r) (of_grammar g j s) =
    let e = grammar.one_shown ts f g m n r s in (ap grammar_kind e.0, e.1)
one_of_tokens ts k l m n (of_grammar f i r) (of_items is c j o a x) = absurd (a f r.index r.first.refused)
one_of_tokens ts k l m n (of_items is c j o a x) (of_grammar f i r) = absurd (a f r.index r.first.refused)
one_of_tokens ts k l m n (of_items is c i o a x) (of_items js d j p b y) =
    let e = some-same (c, i) (d, j) (sym x ∙ (ap items_fault (one_item_list ts is js o p) ∙ y)) in
    (ap (λ q. q.0) e, ap (λ q. q.1) e)

pub one_place : OnePlace
one_place text k l m n (of_piece c i x) (of_piece d j y) =
    let e = lexer.one_fault text c d m n x y in (ap bad_piece_kind e.0, e.1)
one_place text k l m n (of_piece c i x) (of_tokens us d j y z) = absurd (lexer.never_both text us c i y x)
one_place text k l m n (of_tokens us d j y z) (of_piece c i x) = absurd (lexer.never_both text us c i y x)
one_place text k l m n (of_tokens us c i x w) (of_tokens vs d j y z) =
    let s : us ≡ vs = lexer.one_list text us vs x y in
    one_of_tokens (lexemes_of text vs) k l i j (subst (λ ws. IsTokensFault (lexemes_of text ws) k i) s w) z

pub one_refusal : OneTextRefusal
one_refusal text k l m n a b =
    let e = one_place text k l a.0 b.0 a.1 b.1 in (e.0, a.2 ∙ (ap (line_of text) e.1 ∙ sym b.2))
