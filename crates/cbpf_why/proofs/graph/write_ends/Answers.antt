use Rattle.std.proofs.Common.{◌≡◌, ◌<◌, ◌∙◌, length, ap, arith}
use Rattle.cbpf_code.proofs.WrittenLemmas.{appended-nil, err-exit}
use Rattle.cbpf_why.specs.Ends.{only_ended_of}
use Rattle.cbpf_why.specs.Graph.{block_of, end_part, facts_at}
use Rattle.cbpf_why.proofs.TextLemmas.{texts-next, texts-stop}
use Rattle.cbpf_why.proofs.graph.write_ends.Goals as goal

pub loop-i-init : goal.loop-i-init
loop-i-init g c = record {
  inside = omega arith;
  block = λ m records counts j h. absurd (omega (arith, h));
  written = λ m records counts. appended-nil _;
}

pub loop-i-preserved : goal.loop-i-preserved
loop-i-preserved g c = record {
  inside = let within = c.block_at-block.ensures.within c.loop-i.invariant.inside in omega (arith, within);
  block = λ m records counts j h.
      let here : c.loop-i.i ≡ j = omega (arith, h) in
      c.block_at-block.ensures.block m records counts (c.loop-i.invariant.block m records counts) ∙ ap (block_of m.list) here;
  written = λ m records counts.
      let is = c.block_at-block.ensures.block m records counts (c.loop-i.invariant.block m records counts) in
      texts-next (λ i. end_part (block_of m.list i) (facts_at m records (only_ended_of m records) i)) c.loop-i.i _ _ _
      (c.loop-i.invariant.written m records counts) (rw (c.facts_at.ensures m records counts is, is) at c.in_ok-write_ends_at.ensures);
}

pub returns-in_err-write_ends_at : goal.returns-in_err-write_ends_at
returns-in_err-write_ends_at g c = λ m records counts.
    let is = c.block_at-block.ensures.block m records counts (c.loop-i.invariant.block m records counts) in
    let below : c.loop-i.i < length m.list =
    omega (arith, c.loop-i-test.true, c.len-i-end.ensures.value, ap length counts.list) in
    err-exit _ _ _ _ c.from_residual.ensures.0 (texts-stop (λ i. end_part (block_of m.list i) (facts_at m records (only_ended_of m records) i)) c.loop-i.i (length m.list) _ _ _ below
    (c.loop-i.invariant.written m records counts) (rw (c.facts_at.ensures m records counts is, is) at c.in_err-write_ends_at.ensures))
