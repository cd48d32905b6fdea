use Rattle.cbpf_code.proofs.WrittenLemmas.{first-failed, wrote-then, err-exit, part-then, part-more}
use Rattle.cbpf_why.specs.Graph.{graph_text}
use Rattle.cbpf_why.proofs.graph.write_graph.Goals as goal

pub returns-in_err-write_head : goal.returns-in_err-write_head
unfolding graph_text
returns-in_err-write_head g c = λ m records counts.
    first-failed _ _ _ _ _ c.from_residual.ensures.0 (rw counts.packets at c.in_err-write_head.ensures)

pub returns-in_err-write_blocks : goal.returns-in_err-write_blocks
unfolding graph_text
returns-in_err-write_blocks g c = λ m records counts.
    err-exit _ _ _ _ c.from_residual-in_err-write_blocks.ensures.0
    (part-then _ _ _ _ _ (rw counts.packets at c.in_ok-write_head.ensures) (part-more _ _ _ _ (c.in_err-write_blocks.ensures m records counts)))

pub returns-in_err-write_ends : goal.returns-in_err-write_ends
unfolding graph_text
returns-in_err-write_ends g c = λ m records counts.
    err-exit _ _ _ _ c.from_residual-in_err-write_ends.ensures.0
    (part-then _ _ _ _ _ (rw counts.packets at c.in_ok-write_head.ensures) (part-then _ _ _ _ _ (c.in_ok-write_blocks.ensures m records counts)
    (part-more _ _ _ _ (c.in_err-write_ends.ensures m records counts))))

pub returns : goal.returns
unfolding graph_text
returns g c = λ m records counts.
    wrote-then _ _ _ _ _ _ (rw counts.packets at c.in_ok-write_head.ensures) (wrote-then _ _ _ _ _ _ (c.in_ok-write_blocks.ensures m records counts)
    (wrote-then _ _ _ _ _ _ (c.in_ok-write_ends.ensures m records counts) c.write_bytes.ensures))
