use Rattle.cbpf_code.proofs.WrittenLemmas.{loops, loop-next, loop-stop, loop-done, err-exit}
use Rattle.std.proofs.Common.{◌<◌, length, arith}
use Rattle.std.specs.List.{enumerate_from}
use Rattle.std.proofs.lemmas.List.FromFn.{length-enumerate_from}
use Rattle.cbpf_code.specs.Listing.{numbered_line}
use Rattle.cbpf_code.proofs.FaultLemmas.{zero_insn}
use Rattle.cbpf_code.proofs.ListingLemmas.{line_at}
use Rattle.cbpf_code.proofs.listing.write_lines.Goals as goal

pub loop-i-preserved : goal.loop-i-preserved
loop-i-preserved g c =
    let list = c.args.p.now in
    let below : c.loop-i.i < length list = omega (arith, c.loop-i-test.true, c.len-i-end.ensures.value) in
    loop-next numbered_line (enumerate_from 0 list) c.loop-i.i (0, zero_insn) _ _ _
    (omega (arith, length-enumerate_from 0 list)) c.loop-i.invariant
    (rw (c.prepend_line.ensures.text, c.prepend.ensures.text, c.new-line.ensures, line_at list c.loop-i.i zero_insn below)
    at c.in_ok-write.ensures)

pub returns-in_err-write : goal.returns-in_err-write
returns-in_err-write g c =
    let list = c.args.p.now in
    let below : c.loop-i.i < length list = omega (arith, c.loop-i-test.true, c.len-i-end.ensures.value) in
    err-exit _ _ _ _ c.from_residual.ensures.0
    (loop-stop numbered_line (enumerate_from 0 list) c.loop-i.i (0, zero_insn) _ _ _
    (omega (arith, length-enumerate_from 0 list)) c.loop-i.invariant
    (rw (c.prepend_line.ensures.text, c.prepend.ensures.text, c.new-line.ensures, line_at list c.loop-i.i zero_insn below)
    at c.in_err-write.ensures))

pub returns : goal.returns
returns g c = grind (arith, length-enumerate_from, loop-done, enumerate_from)

pub loop-i-init : goal.loop-i-init
loop-i-init g c = grind (arith, loops)
