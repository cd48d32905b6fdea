use Rattle.std.proofs.lemmas.Grind.{common_steps}
use Rattle.std.proofs.Common.{rules, ◌≡◌, ◌++◌, sym, subst, length, map, drop, List, arith}
use Rattle.cbpf_syntax.specs.declared.lexeme.Lexeme as declared_lexeme
use Rattle.cbpf_syntax.specs.Lexemes.{AreLexemesTo}
use Rattle.cbpf_syntax.specs.Views.{lexeme_of}
use Rattle.cbpf_syntax.proofs.Taking.{kept_paste}
use Rattle.cbpf_syntax.proofs.reader.Reader.fill.Given.{Over}
use Rattle.cbpf_syntax.proofs.reader.Reader.fill.Goals.{After-truncate}
use Rattle.cbpf_syntax.proofs.reader.Reader.fill.Goals as goal

-- what stays ahead
kept : (g : Over) (c : After-truncate g)
    → c.truncate.new.self.items ≡ drop c.self.inside.at c.self.inside.ahead.items
kept g c =
    let size : c.self.inside.ahead.len ≡ length c.self.inside.ahead.items = search rules in
    rw (c.truncate.ensures.items, c.copy_within.ensures.items, c.len.ensures) (kept_paste c.self.inside.ahead.items
    c.self.inside.at c.self.inside.ahead.len size (rw (← size) at c.self.invariant.0))

pub returns-in-Ok-clause-reading : goal.returns-in-Ok-clause-reading
returns-in-Ok-clause-reading g c =
    let s = c.self.inside in
    let same = sym (kept g (goal.at.returns-in-Ok-clause-reading g c).After-truncate) in
    rw (← c.self.view_is) (λ taken r. record {
      read = c.in-Ok.ensures.read taken (subst (λ (us : List declared_lexeme.Lexeme).
          AreLexemesTo s.text.now s.lexer.at (taken ++ map lexeme_of us)) same r.read);
      end = c.in-Ok.ensures.end;
      last = r.last;
      large = r.large;
    })

pub returns-in-Err-clause-same : goal.returns-in-Err-clause-same
returns-in-Err-clause-same g c = grind (arith, common_steps)
