use Rattle.cbpf_why.proofs.groups.write_group_line.Goals as goal

pub returns : goal.returns
returns g c = rw (
  c.prepend_verdict.ensures.text,
  c.prepend-4.ensures.text,
  c.prepend_u64-2.ensures.text,
  c.prepend-3.ensures.text,
  c.prepend_place.ensures.text,
  c.prepend-2.ensures.text,
  c.prepend_u64.ensures.text,
  c.prepend.ensures.text,
  c.new-line.ensures,
  c.verdict.ensures,
) at c.write.ensures
