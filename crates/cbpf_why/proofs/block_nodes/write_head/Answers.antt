use Rattle.cbpf_why.proofs.block_nodes.write_head.Goals as goal

pub returns : goal.returns
returns g c = rw (
  c.prepend-5.ensures.text,
  c.prepend-4.ensures.text,
  c.prepend-3.ensures.text,
  c.prepend-2.ensures.text,
  c.prepend.ensures.text,
  c.prepend_edge_label.ensures.text,
  c.new-line.ensures,
) at c.write.ensures
