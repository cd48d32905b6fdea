use Rattle.std.proofs.Common.{refl, ◌∙◌, subst, append_assoc, map, drop}
use Rattle.std.proofs.lemmas.Result.{on_ok_weaker}
use Rattle.cbpf_syntax.specs.Lexemes.{lexemes_of, AreLexemes}
use Rattle.cbpf_syntax.specs.Views.{lexeme_of}
use Rattle.cbpf_syntax.proofs.Taking.{ahead_is}
use Rattle.cbpf_syntax.proofs.reader.Reader.finish.Goals as goal

pub returns-clause-lexed : goal.returns-clause-lexed
returns-clause-lexed g c =
    let s = c.self.inside in
    let ahead = map lexeme_of (drop s.at s.ahead.items) in
    rw (← c.self.view_is) (on_ok_weaker c.read_on.result (λ lexed taken r.
    let all = (rw c.self.invariant.1 at lexed) r.read.tokens r.read.lexed in
    let t : AreLexemes c.self.inside.text.now (lexemes_of c.self.inside.text.now all.0) =
    record { tokens = all.0; lexed = all.1; are = refl } in
    let more = ahead_is s.text.now s.lexer.at _ _ r.read t in (
      _,
      (more.0, refl, λ e. more.2 (r.end e)),
      subst (λ us. AreLexemes s.text.now us) (more.1 ∙ append_assoc taken ahead more.0) t,
    ))
    (rw c.copied-rest.ensures at c.read_on.ensures.lexed))

pub returns-clause-fault : goal.returns-clause-fault
returns-clause-fault g c =
    rw (← c.self.view_is) (rw c.self.invariant.1 at (rw c.copied-rest.ensures at c.read_on.ensures.fault))
