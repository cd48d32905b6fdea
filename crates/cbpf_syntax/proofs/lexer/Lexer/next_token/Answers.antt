use Rattle.std.proofs.Common.{rules, arith, subst}
use Rattle.cbpf_syntax.specs.Pieces.{IsPieceAt}
use Rattle.cbpf_syntax.proofs.Cuts.{next_at, piece_within, piece_some, token_more, piece_more}
use Rattle.cbpf_syntax.proofs.lexer.Lexer.next_token.Goals.{After-next_piece-piece}
use Rattle.cbpf_syntax.proofs.lexer.Lexer.next_token.Goals as goal

-- the piece that comes next
here : (c : After-next_piece-piece) → IsPieceAt c.self.inside.text.now c.loop-at.at c.next_piece-piece.result
here c = next_at c.self.inside.text.now c.loop-at.at c.next_piece-piece.result c.loop-at-test.true
    c.next_piece-piece.ensures

pub returns-in-Some-clause-fault : goal.returns-in-Some-clause-fault
returns-in-Some-clause-fault c =
    let text = c.self.inside.text.now in
    let at = c.loop-at.at in
    let piece = c.next_piece-piece.result in
    let h = here (goal.at.returns-in-Some-clause-fault c).After-next_piece-piece in
    let stands = c.self.invariant.1 in
    rw (← c.self.view_is) (record {
      tokens = stands.0;
      before = c.loop-at.invariant.more stands.0 stands.1;
      size = piece.size;
      bad = subst (λ k. IsPieceAt text at (record { kind = k; size = piece.size })) c.in-Some.ensures.bad h;
    })

pub returns-in-TokenOf-clause-token : goal.returns-in-TokenOf-clause-token
returns-in-TokenOf-clause-token c =
    let text = c.self.inside.text.now in
    let at = c.loop-at.at in
    let piece = c.next_piece-piece.result in
    let h = here (goal.at.returns-in-TokenOf-clause-token c).After-next_piece-piece in
    let some = piece_some text at piece h in
    let within = piece_within text at piece c.loop-at-test.true h in
    rw (← c.self.view_is) (record {
      more = token_more text c.self.inside.at at piece c.in-TokenOf.kind c.loop-at.invariant.more h
          c.in-TokenOf.is;
      span = (omega arith, within);
      farther = omega (arith, some, c.loop-at.invariant.from);
      within = within;
    })

pub loop-at-preserved : goal.loop-at-preserved
loop-at-preserved c =
    let text = c.self.inside.text.now in
    let at = c.loop-at.at in
    let piece = c.next_piece-piece.result in
    let h = here (goal.at.loop-at-preserved c).After-next_piece-piece in
    let within = piece_within text at piece c.loop-at-test.true h in
    record {
      same = c.loop-at.invariant.same;
      from = omega (arith, c.loop-at.invariant.from);
      within = within;
      more = piece_more text c.self.inside.at at piece c.loop-at.invariant.more h c.in_default.ensures.good
          c.in_default-kind.not-TokenOf;
    }

pub returns-clause-finished : goal.returns-clause-finished
returns-clause-finished c = search rules

pub invariant_of-self-in-TokenOf : goal.invariant_of-self-in-TokenOf
invariant_of-self-in-TokenOf c =
    let text = c.self.inside.text.now in
    let at = c.loop-at.at in
    let piece = c.next_piece-piece.result in
    let h = here (goal.at.invariant_of-self-in-TokenOf c).After-next_piece-piece in
    let stands = c.self.invariant.1 in
    rw c.loop-at.invariant.same (
      piece_within text at piece c.loop-at-test.true h,
      (
        _,
        token_more text c.self.inside.at at piece c.in-TokenOf.kind c.loop-at.invariant.more h c.in-TokenOf.is
            stands.0 stands.1,
      ),
    )
