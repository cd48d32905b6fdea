use Rattle.std.proofs.Common.{rules, arith, ◌≡◌, ℕ, List, [], ◌++◌, take, append-nil, refl, sym, ap, ◌∙◌}
use Rattle.cbpf_tool.proofs.SourceLemmas.{consumes-none, consumes-then, consumes-all}
use Rattle.cbpf_tool.proofs.assembler.read_source.Goals as goal

pub loop-init : goal.loop-init
loop-init g c = rw c.new-source.ensures.items (consumes-none (g.R.Read.remaining c.args.reader.now))

pub returns-then-count-eq0-clause-bytes : goal.returns-then-count-eq0-clause-bytes
returns-then-count-eq0-clause-bytes g c = λ text e.
    let got = take c.in-Ok.count c.read.new.buf in
    let none : got ≡ [] = rw c.if-count-eq0.true refl in
    let whole = consumes-all _ _ text (c.loop.source.items ++ got) (consumes-then _ _ _ c.loop.source.items got
    c.loop.invariant c.in-Ok.ensures.bytes.0) (c.in-Ok.ensures.bytes.1 c.if-count-eq0.true (omega arith)) e in
    sym (append-nil c.loop.source.items) ∙ ap (λ (l : List ℕ). c.loop.source.items ++ l) (sym none) ∙ whole

pub loop-preserved : goal.loop-preserved
loop-preserved g c =
    let got = take c.in-Ok.count c.read.new.buf in
    let items : c.extend_from_slice.new.self.items ≡ c.loop.source.items ++ got = search rules in
    rw items (consumes-then _ _ _ c.loop.source.items got c.loop.invariant c.in-Ok.ensures.bytes.0)

pub returns-in_default-clause-fault : goal.returns-in_default-clause-fault
returns-in_default-clause-fault g c = search rules
