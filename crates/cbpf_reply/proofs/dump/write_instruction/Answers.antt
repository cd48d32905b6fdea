use Rattle.std.proofs.Common.{◌≡◌, Some}
use Rattle.cbpf_code.specs.Listing.{line_text}
use Rattle.cbpf_reply.specs.Dump.{instruction_dump, place_lines}
use Rattle.cbpf_reply.proofs.dump.write_instruction.Goals as goal

pub returns : goal.returns
unfolding instruction_dump
returns g c =
    let place = c.args.place in
    let pc = c.args.pc in
    let text : c.prepend-9.new.self
    ≡ place_lines place.packet place.step pc (line_text c.args.p.now pc) (Some c.at_index-insn.result) = cc in
    rw c.at_index-insn.ensures.value (rw (text, c.at_index-insn.ensures.value) at c.write.ensures)
