use Rattle.std.proofs.Common.{◌≡◌, ◌≤◌, ◌+◌, ◌-◌, ◌++◌, List, [], length, map, drop, take, ap, sym, ◌∙◌, subst, arith, length-drop, slice_index_or}
use Rattle.std.proofs.lemmas.List.{drop-drop}
use Rattle.cbpf_syntax.specs.declared.lexeme.Lexeme as declared_lexeme
use Rattle.cbpf_syntax.specs.Lexemes.{Lexeme, AreLexemesTo}
use Rattle.cbpf_syntax.specs.Ahead.{HasTaken}
use Rattle.cbpf_syntax.specs.declared.lexeme.Symbol.TheVariants.{Word}
use Rattle.cbpf_syntax.specs.Views.{lexeme_of}
use Rattle.cbpf_syntax.proofs.Taking.{taken_rest, taken_last, taken_large}
use Rattle.cbpf_syntax.proofs.reader.Reader.take.Given.{Over}
use Rattle.cbpf_syntax.proofs.reader.Reader.take.Goals.{After-first_large-large}
use Rattle.cbpf_syntax.proofs.reader.Reader.take.Goals as goal

abbrev no_token : declared_lexeme.Lexeme
no_token = record { symbol = Word (record { ref_ptr = (0, 0); now = [] }); at = 0 }

-- these tokens and n more were taken
taken_more : (g : Over) (c : After-first_large-large g) (taken : List Lexeme)
    → HasTaken taken (record {
      text = c.self.inside.text.now;
      to = c.self.inside.lexer.at;
      tokens = drop c.self.inside.at c.self.inside.ahead.items;
      ended = c.self.inside.ended;
      last = c.self.inside.last;
      large = c.self.inside.large;
    })
    → HasTaken (taken ++ map lexeme_of (take c.args.n (drop c.self.inside.at c.self.inside.ahead.items))) (record {
      text = c.self.inside.text.now;
      to = c.self.inside.lexer.at;
      tokens = drop (c.self.inside.at + c.args.n) c.self.inside.ahead.items;
      ended = c.self.inside.ended;
      last = (slice_index_or (take c.args.n c.ahead.result.now) (c.args.n - 1) no_token).at;
      large = c.first_large-large.result;
    })
taken_more g c taken r =
    let s = c.self.inside in
    let n = c.args.n in
    let ahead = drop c.self.inside.at c.self.inside.ahead.items in
    let window : c.ahead.result.now ≡ drop c.self.inside.at c.self.inside.ahead.items =
    rw (← c.self.view_is) at c.ahead.ensures in
    let within : c.args.n ≤ length (drop c.self.inside.at c.self.inside.ahead.items) =
    rw (← c.self.view_is) at c.requires.within in
    record {
      read = subst (λ us. AreLexemesTo s.text.now s.lexer.at us)
          (sym (taken_rest taken ahead n within) ∙ ap (λ (us : List declared_lexeme.Lexeme).
          (taken ++ map lexeme_of (take n ahead)) ++ map lexeme_of us) (drop-drop n s.at s.ahead.items)) r.read;
      end = r.end;
      last = λ l. rw window (taken_last taken ahead n within _ c.requires.some);
      large = taken_large taken ahead n within s.large c.first_large-large.result
          (λ _. rw (← c.self.view_is) at c.requires.word) r.large c.first_large-large.ensures.known
          (rw window at c.first_large-large.ensures.new);
    }

pub returns-clause-reading : goal.returns-clause-reading
returns-clause-reading g c =
    rw (← c.self.view_is) (taken_more g (goal.at.returns-clause-reading g c).After-first_large-large)

pub invariant_of-self : goal.invariant_of-self
invariant_of-self g c =
    let stands = c.self.invariant.3 in
    let within : c.args.n ≤ length (drop c.self.inside.at c.self.inside.ahead.items) =
    rw (← c.self.view_is) at c.requires.within in (
      omega (arith, within, length-drop c.self.inside.at c.self.inside.ahead.items, c.self.invariant.0),
      c.self.invariant.1,
      c.self.invariant.2,
      (_, taken_more g (goal.at.invariant_of-self g c).After-first_large-large stands.0 stands.1),
    )
