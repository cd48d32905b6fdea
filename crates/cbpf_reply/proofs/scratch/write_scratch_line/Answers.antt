use Rattle.std.proofs.Common.{◌≡◌, ◌-◌, ◌++◌, append-nil, length, arith}
use Rattle.cbpf_code.specs.Text.{spaces}
use Rattle.cbpf_reply.specs.Scratch.{slots_label, scratch_line}
use Rattle.cbpf_reply.proofs.SpaceLemmas.{spaces-beside}
use Rattle.cbpf_reply.proofs.scratch.write_scratch_line.Goals as goal

pub returns : goal.returns
returns g c =
    let label : c.prepend-2.new.self ≡ slots_label c.args.first c.args.last = grind (arith, append-nil) in
    let blanks = spaces-beside 10 (length c.prepend-2.new.self) c.min.result (cc) in
    let padded : c.prepend-6.new.self ≡ spaces (10 - length c.prepend-2.new.self) ++ c.prepend-5.new.self =
    rw (← blanks) c.prepend-6.ensures.text in
    let text : c.prepend-7.new.self ≡ scratch_line c.args.first c.args.last c.args.value =
    rw (c.prepend-7.ensures.text, c.as_bytes-label.ensures, padded, label) (cc) in
    rw text at c.write.ensures
