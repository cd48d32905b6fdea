-- From the refusal of a part to the refusal of the whole.
use Rattle.std.proofs.Common.{rules, ◌≡◌, refl, sym, subst, ℕ, List, ◌∙◌, ap, suc, ◌+◌, ◌<◌, ◌≤◌, Bool, true, false, []}
use Rattle.std.proofs.Common.{◌∷◌, ◌++◌, length, map, take, drop, get_or, Option, Some, None, arith, append_assoc}
use Rattle.std.proofs.Common.{append-nil, length-append}
use Rattle.cbpf_syntax.specs.Refusals.{ParseFault, IsAccepted, ItemsStuckAt, IsFirstRefusalAtPosition}
use Rattle.cbpf_syntax.specs.Lexemes.{Lexeme, AreLexemes}
use Rattle.cbpf_syntax.specs.Items.{Item, AreLabels, Items}
use Rattle.cbpf_code.specs.declared.insn.Insn.{Insn}
use Rattle.cbpf_text.specs.declared.placed.PlacedFault.{PlacedFault}
use Rattle.cbpf_text.specs.declared.fault.AsmKind.{AsmKind}
use Rattle.cbpf_text.specs.Labels.{labels_from}
use Rattle.cbpf_text.specs.Assembled.{insns_from, TokensAssemble}
use Rattle.cbpf_text.specs.Refusals.{items_fault, AnswersFault, IsTokensFault, IsRefused, IsPlacedFault, IsLexRefused, IsPlacedPiece}
use Rattle.cbpf_text.specs.Refusals.{grammar_kind, on_line}
use Rattle.cbpf_text.specs.Refusals.IsTokensFault.{of_grammar, of_items}
use Rattle.cbpf_text.specs.Refusals.IsTextFault.{of_piece, of_tokens}
use Rattle.cbpf_text.specs.declared.placed.PlacedFault.TheVariants as placed
use Rattle.std.proofs.lemmas.List.{length-map, length-take-le, drop_at, nil_from_length}
use Rattle.cbpf_syntax.specs.Views.{lexeme_of, row_of}
use Rattle.cbpf_syntax.specs.Ahead.{Ahead, HasTaken, IsFirstLarge, MayRemain}
use Rattle.std.specs.Prelude.{Ok}
use Rattle.std.proofs.Math.Seq.{take-append_seam}
use Rattle.std.proofs.lemmas.Bool.{and_parts}
use Rattle.cbpf_syntax.specs.Classes.Class.{the_mark, name}
use Rattle.cbpf_syntax.specs.Fits.{fits}
use Rattle.cbpf_syntax.specs.Steps.{IsFoundInstruction, IsNextItem, Stuck, starts_with_label}
use Rattle.cbpf_syntax.proofs.Greedy.{Greedy, stuck_first}
use Rattle.cbpf_syntax.proofs.Ahead.{labels_item, labels_stuck, labels_append, labels_size}
use Rattle.cbpf_syntax.proofs.Taking.{remains}
use Rattle.cbpf_syntax.proofs.Refused.{greedy_snoc, greedy_items, stuck_from}
use Rattle.cbpf_syntax.proofs.FirstRefusal.{large_refused}
use Rattle.cbpf_text.specs.declared.name.Name.{Name}
use Rattle.cbpf_text.specs.declared.draft.Statement.{Statement}
use Rattle.cbpf_text.specs.Drafts.{AreSet, IsKept, IsDraft}
use Rattle.cbpf_syntax.specs.declared.lexeme.Lexeme as declared_lexeme
use Rattle.cbpf_syntax.specs.declared.item.Row as declared_row
use Rattle.cbpf_text.specs.declared.fault.AsmKind.TheVariants as kinds

pub tokens_assembled : (ts : List Lexeme) (is : List Item) (insns : List Insn) → Items ts is → IsAccepted ts
    → items_fault is ≡ None → insns ≡ insns_from (labels_from 0 is) 0 is → TokensAssemble ts insns
tokens_assembled ts is insns p a sound e = record {
  items = is;
  parsed = p;
  ranged = λ i h. a ParseFault.LargeNegative i h;
  no_fault = sound;
  encoded = e;
}

pub lex_refused : (text : List ℕ) (fault : PlacedFault) → IsPlacedPiece text fault → IsPlacedFault text fault
lex_refused text placed.Memory h = tt
lex_refused text (placed.At kind at) h = rw h.1 (of_piece h.0 at h.2)

-- a refusal with its line
pub refused_on_line : (text : List ℕ) (fault : PlacedFault) → IsPlacedFault text fault → IsRefused text (on_line text fault)
refused_on_line text placed.Memory h = tt
refused_on_line text (placed.At kind at) h = (at, h, refl)

pub lexed_on_line : (text : List ℕ) (fault : PlacedFault) → IsPlacedPiece text fault
    → IsLexRefused text (on_line text fault)
lexed_on_line text placed.Memory h = tt
lexed_on_line text (placed.At kind at) h = (h.0, at, h.1, h.2, refl)

-- The refusals of a text whose items are read one by one, and what is kept of them.

-- the refusal of the text's tokens is the text's
pub tokens_refused : (text : List ℕ) (ts : List Lexeme) (kind : AsmKind) (at : ℕ) (fault : PlacedFault)
    → AreLexemes text ts → IsTokensFault ts kind at → fault ≡ placed.At kind at → IsPlacedFault text fault
tokens_refused text ts kind at fault t h e =
    rw e (of_tokens t.tokens kind at t.lexed (subst (λ us. IsTokensFault us kind at) t.are h))

pub items_refused : (text : List ℕ) (ts : List Lexeme) (is : List Item) (fault : PlacedFault)
    → AreLexemes text ts → Items ts is → IsAccepted ts → AnswersFault (items_fault is) fault → IsPlacedFault text fault
items_refused text ts is placed.Memory t p a h = tt
items_refused text ts is (placed.At kind at) t p a h =
    tokens_refused text ts kind at (placed.At kind at) t (of_items is kind at p a h) refl

-- the first refusal of the grammar is the text's
pub grammar_refused : (text : List ℕ) (ts : List Lexeme) (refusal : ParseFault) (at : ℕ) (fault : PlacedFault)
    → AreLexemes text ts → IsFirstRefusalAtPosition ts refusal at → fault ≡ placed.At (grammar_kind refusal) at
    → IsPlacedFault text fault
grammar_refused text ts refusal at fault t first e =
    tokens_refused text ts (grammar_kind refusal) at fault t (of_grammar refusal at first) e

-- items with a literal that is too large
pub items_large_refused : (ts : List Lexeme) (is : List Item) (at : ℕ) → Items ts is → IsFirstLarge ts (Some at)
    → IsTokensFault ts kinds.LargeNumber at
items_large_refused ts is at p h = of_grammar ParseFault.LargeNegative at (large_refused ts is at p h)

-- What the reader of items stands at: the tokens that were taken, before those that follow,
-- are the items and then these labels, which wait for theirs.
pub record Taken (taken : List Lexeme) (is : List Item) (ws more : List Lexeme) : Type 0 where
  pub ls : List Lexeme
  pub labels : AreLabels ls ws
  pub greedy : Greedy (taken ++ more) is (ls ++ more)

front_label : (taken : List Lexeme) (is : List Item) (ws : List Lexeme) (x y : Lexeme) (more : List Lexeme)
    → Taken taken is ws (x ∷ y ∷ more) → starts_with_label (x ∷ y ∷ more) ≡ true
    → Taken (taken ++ (x ∷ y ∷ [])) is (ws ++ (x ∷ [])) more
front_label taken is ws x y more f starts =
    let label = and_parts (fits name x.symbol) (fits (the_mark 58) y.symbol) starts in
    record {
      ls = f.ls ++ (x ∷ y ∷ []);
      labels = labels_append f.ls ws (x ∷ y ∷ []) (x ∷ []) f.labels (refl, label.0, label.1, tt);
      greedy = rw (append_assoc taken (x ∷ y ∷ []) more, append_assoc f.ls (x ∷ y ∷ []) more) f.greedy;
    }

front_item : (taken : List Lexeme) (is : List Item) (ws body more : List Lexeme) (item : Item)
    → Taken taken is ws (body ++ more) → item.labels ≡ ws
    → IsNextItem (body ++ more) (length body) (record item { labels = [] })
    → Taken (taken ++ body) (is ++ (item ∷ [])) [] more
front_item taken is ws body more item f e next =
    let labels : ws ++ [] ≡ item.labels = append-nil ws ∙ sym e in
    let whole : IsNextItem (f.ls ++ (body ++ more)) (length f.ls + length body) item =
    subst (λ (us : List Lexeme). IsNextItem (f.ls ++ (body ++ more)) (length f.ls + length body)
    (record item { labels = us })) labels
    (labels_item f.ls ws (body ++ more) (length body) (record item { labels = [] }) f.labels next) in
    let rest : drop (length f.ls + length body) (f.ls ++ (body ++ more)) ≡ more =
    ap (λ us. drop (length f.ls + length body) us) (sym (append_assoc f.ls body more))
    ∙ drop_at (f.ls ++ body) more (length f.ls + length body) (length-append f.ls body) in
    record {
      ls = [];
      labels = tt;
      greedy = subst (λ us. Greedy us (is ++ (item ∷ [])) more) (sym (append_assoc taken body more))
          (subst (λ us. Greedy (taken ++ (body ++ more)) (is ++ (item ∷ [])) us) rest
          (greedy_snoc (taken ++ (body ++ more)) is (f.ls ++ (body ++ more)) (length f.ls + length body) item
          f.greedy whole));
    }

-- the same over a text of which some tokens were taken, with what is kept of its items, and whether labels wait
pub record IsState (text : List ℕ) (taken : List Lexeme) (o : Option ℕ) (ss : List Statement) (rep : Option ℕ)
    (look : Name → Option ℕ) (waits : Bool) : Type 0 where
  pub is : List Item
  pub words : List Lexeme
  pub none : waits ≡ false → words ≡ []
  pub some : waits ≡ true → 0 < length words
  pub draft : IsDraft o ss rep look is words
  pub front : (ts : List Lexeme) → AreLexemes text (taken ++ ts) → Taken taken is words ts

two_of : (window : List declared_lexeme.Lexeme) (d e : declared_lexeme.Lexeme) → 2 ≤ length window
    → map lexeme_of (take 2 window) ≡ lexeme_of (get_or window 0 d) ∷ lexeme_of (get_or window 1 e) ∷ []
two_of window d e h1 = search (rules)

-- The state before a step of a reader.
module _ {text : List ℕ} {taken : List Lexeme} {o : Option ℕ} {ss : List Statement} {rep : Option ℕ}
    {look : Name → Option ℕ} {waits : Bool} (a : Ahead) (r : HasTaken taken a) (same : a.text ≡ text)
    (s : IsState text taken o ss rep look waits) where
  pub label_state : {p : Option ℕ} {tt : List Statement} {rep2 : Option ℕ} {look2 : Name → Option ℕ}
      (d : declared_lexeme.Lexeme)
      → ((ts : List Lexeme) → MayRemain a ts → starts_with_label ts ≡ true) → 2 ≤ length a.tokens
      → ((is : List Item) (words : List Lexeme) → IsDraft o ss rep look is words
      → IsDraft p tt rep2 look2 is (words ++ (lexeme_of (get_or a.tokens 0 d) ∷ [])))
      → IsState text (taken ++ map lexeme_of (take 2 a.tokens)) p tt rep2 look2 true
  label_state d is_label two kept =
      let x = lexeme_of (get_or a.tokens 0 d) in
      let y = lexeme_of (get_or a.tokens 1 d) in
      rw (two_of a.tokens d d two) (record {
        is = s.is;
        words = s.words ++ (x ∷ []);
        none = λ e. let k : true ≡ false = e in cc;
        some = λ e. omega (arith, length-append s.words (x ∷ []));
        draft = kept s.is s.words s.draft;
        front = λ ts t.
            let all = subst (λ us. AreLexemes text us) (append_assoc taken (x ∷ y ∷ []) ts) t in
            front_label taken s.is s.words x y ts (s.front (x ∷ y ∷ ts) all)
            (is_label (x ∷ y ∷ ts) (remains text taken a (x ∷ y ∷ ts) r same all));
      })

  pub item_state : {p : Option ℕ} {tt : List Statement} {rep2 : Option ℕ} {look2 : Name → Option ℕ}
      (row : declared_row.Row) (m : ℕ) → m ≡ 1 + length row.operand.now
      → ((ts : List Lexeme) → MayRemain a ts → IsFoundInstruction ts (Ok row)) → m ≤ length a.tokens
      → ((is : List Item) (words : List Lexeme) → IsDraft o ss rep look is words → IsDraft p tt rep2 look2
      (is ++ (record { labels = words; row = row_of row; body = map lexeme_of (take m a.tokens) } ∷ [])) [])
      → IsState text (taken ++ map lexeme_of (take m a.tokens)) p tt rep2 look2 false
  item_state row m size next within kept =
      let body = map lexeme_of (take m a.tokens) in
      let item : Item = record { labels = s.words; row = row_of row; body = body } in
      let long : suc (length row.operand.now) ≡ length body =
      omega (arith, size, length-map (take m a.tokens) lexeme_of, length-take-le m a.tokens within) in
      record {
        is = s.is ++ (item ∷ []);
        words = [];
        none = λ e. refl;
        some = λ e. let k : false ≡ true = e in cc;
        draft = kept s.is s.words s.draft;
        front = λ ts t.
            let all = subst (λ us. AreLexemes text us) (append_assoc taken body ts) t in
            front_item taken s.is s.words body ts item (s.front (body ++ ts) all) refl
            (subst (λ (us : List Lexeme). IsNextItem (body ++ ts) (length body) (record item { labels = []; body = us }))
            (take-append_seam body ts)
            (subst (λ k. IsNextItem (body ++ ts) k (record item { labels = []; body = take k (body ++ ts) })) long
            (next (body ++ ts) (remains text taken a (body ++ ts) r same all))));
      }

  -- where the tokens do not go on
  pub state_stuck : (k : ℕ) (ts : List Lexeme) → AreLexemes text (taken ++ ts) → 0 < length s.words + length ts
      → Stuck k ts → ItemsStuckAt (taken ++ ts) (length taken + k)
  state_stuck k ts t some stuck =
      let f = s.front ts t in
      let labels = labels_size f.ls s.words f.labels in
      let inside : 0 < length (f.ls ++ ts) = omega (arith, some, labels, length-append f.ls ts) in
      let all = stuck_from (taken ++ ts) s.is (f.ls ++ ts) (length f.ls + k) f.greedy inside
      (stuck_first (length f.ls + k) (f.ls ++ ts) inside (labels_stuck f.ls s.words ts k f.labels stuck)) in
      let e : all.0 + (length f.ls + k) ≡ length taken + k =
      omega (arith, all.1, length-append taken ts, length-append f.ls ts) in
      subst (λ j. ItemsStuckAt (taken ++ ts) j) e all.2

  -- the end of a text whose tokens are items
  pub state_items : waits ≡ false → AreLexemes text taken → Items taken s.is × IsDraft o ss rep look s.is []
  state_items quiet t =
      let f = s.front [] (rw append-nil t) in
      let none = rw (s.none quiet) at (labels_size f.ls s.words f.labels) in (
        greedy_items taken s.is (rw (nil_from_length f.ls (omega (arith, none)), append-nil) at f.greedy),
        subst (λ us. IsDraft o ss rep look s.is us) (s.none quiet) s.draft,
      )

  -- all lexemes of a text that was read to its end, and of which all were taken
  pub state_lexemes : a.ended ≡ true → length a.tokens ≡ 0 → AreLexemes text taken
  state_lexemes e none = subst (λ u. AreLexemes u taken) same
      (rw (← r.end e) (rw (nil_from_length a.tokens (omega (arith, none)), append-nil) at r.read))

pub state_init : (text : List ℕ) (ss : List Statement) (rep : Option ℕ) (look : Name → Option ℕ)
    → ss ≡ [] → AreSet [] rep look → IsState text [] None ss rep look false
state_init text ss rep look e h = record {
  is = [];
  words = [];
  none = λ z. refl;
  some = λ z. let k : false ≡ true = z in cc;
  draft = subst (λ us. IsKept us rep look [] []) (sym e) (record { same = tt; set = h; most = omega arith });
  front = λ ts t. record { ls = []; labels = tt; greedy = refl };
}
