use Rattle.std.proofs.Common.{rules, refl}
use Rattle.cbpf_dbg.proofs.ResumeLemmas.{resumable}
use Rattle.cbpf_dbg.proofs.session.Session.mark.Goals as goal

pub returns-clause-resumable : goal.returns-clause-resumable
returns-clause-resumable g c =
    resumable (λ xs. g.T.Trail.stands_for c.self.inside.trail xs) c.self.inside.program c.self.inside.values
    c.self.inside.capture c.self.inside.cursor c.args.self.now c.self.invariant.0 (rw (← c.self.view_is) refl) (rw (← c.self.view_is) refl)
    (rw (← c.self.view_is) refl) (search rules) (search rules)
