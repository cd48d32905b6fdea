use Rattle.std.proofs.Common.{rules, ◌∙◌, sym, map, below_more}
use Rattle.std.proofs.lemmas.Bool.{both_ways}
use Rattle.std.proofs.lemmas.List.{length-map}
use Rattle.cbpf_syntax.specs.Views.{lexeme_of}
use Rattle.cbpf_syntax.specs.Refusals.{IsLargeNegative}
use Rattle.cbpf_syntax.proofs.Refused.{large_here, large_within}
use Rattle.cbpf_syntax.proofs.range.large_negative.Goals as goal

pub returns-then-is_large_negative-clause-large : goal.returns-then-is_large_negative-clause-large
returns-then-is_large_negative-clause-large c = large_here c.args.tokens.now c.loop-i.i _ _ c.loop-i.auto.i
    c.loop-i-test.true ∙ (sym c.is_large_negative.ensures ∙ c.if-is_large_negative.true)

pub loop-i-preserved : goal.loop-i-preserved
loop-i-preserved c =
    let here = large_here c.args.tokens.now c.loop-i.i _ _ c.loop-i.auto.i c.loop-i-test.true
    ∙ (sym c.is_large_negative.ensures ∙ c.if-is_large_negative.false) in
    below_more (λ k. IsLargeNegative (map lexeme_of c.args.tokens.now) k → ⊥) c.loop-i.i c.loop-i.invariant
    (λ h. both_ways _ here h)

pub returns-clause-none : goal.returns-clause-none
returns-clause-none c k h = search (rules, large_within, length-map)
