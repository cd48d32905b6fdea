use Rattle.std.proofs.Common.{◌≡◌, ◌≤◌, ◌-◌, ◌+◌, List, cond, length}
use Rattle.cbpf_syntax.specs.Lexemes.{Lexeme}
use Rattle.cbpf_syntax.specs.Ahead.{HasTaken, left}
use Rattle.cbpf_syntax.proofs.reader.Reader.step.Given as goal

abbrev pub invariant-loop-self : goal.invariant-loop-self
invariant-loop-self g l = record {
  text : l.self.text ≡ l.initial.self.text;
  reading : (taken : List Lexeme) → HasTaken taken l.initial.self → HasTaken taken l.self;
  left : left l.self ≤ left l.initial.self;
}

abbrev pub decreases-loop-self : goal.decreases-loop-self
decreases-loop-self g l = (length l.self.text - l.self.to) + cond l.self.ended 0 1
